use Rattle.bound_model.proofs.Through.{through-few, through-together}
use Rattle.bound_model.proofs.laws.law_conditions_together.Goals as goal

pub returns-clause-few : goal.returns-clause-few
returns-clause-few g c = λ a i command. through-few a i command

pub returns-clause-together : goal.returns-clause-together
returns-clause-together g c = λ a i command. through-together a i command
