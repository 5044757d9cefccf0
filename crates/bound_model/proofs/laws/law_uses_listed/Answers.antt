use Rattle.bound_model.proofs.Fewer.{variable-fewer}
use Rattle.bound_model.proofs.laws.law_uses_listed.Goals as goal

pub returns : goal.returns
returns g c = record { variable = variable-fewer }
