use Rattle.token_model.proofs.Begins.{begins}
use Rattle.token_model.proofs.laws.has_token_or_fault.Goals as goal

pub returns-clause-either : goal.returns-clause-either
returns-clause-either c = begins
