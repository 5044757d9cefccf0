use Rattle.why_model.proofs.SomeExplanation.{some-explanation}
use Rattle.why_model.proofs.laws.law_explained.Goals as goal

pub returns : goal.returns
returns c = λ i script requests refusal r says told. some-explanation i script requests refusal r says told
