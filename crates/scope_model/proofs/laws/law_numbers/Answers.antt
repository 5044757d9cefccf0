use Rattle.scope_model.proofs.Tables.{KeepsAnswers-number_tests}
use Rattle.scope_model.proofs.laws.law_numbers.Goals as goal

pub returns : goal.returns
returns c = λ names distinct. KeepsAnswers-number_tests names distinct
