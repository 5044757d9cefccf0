use Rattle.renamed_code_laws.proofs.Spoken.{change-spoken}
use Rattle.renamed_code_laws.proofs.laws.law_mentioned.Goals as goal

pub returns : goal.returns
returns c = λ s what to place change e. change-spoken s what to place change e
