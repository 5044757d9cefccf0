use Rattle.token_model.proofs.Spans.{IsToken-inside, IsToken-some}
use Rattle.token_model.proofs.laws.lies_inside.Goals as goal

pub returns-clause-inside : goal.returns-clause-inside
returns-clause-inside c = IsToken-inside

pub returns-clause-some : goal.returns-clause-some
returns-clause-some c = IsToken-some
