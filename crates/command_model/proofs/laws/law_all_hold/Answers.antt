use Rattle.command_model.proofs.Held.{all-hold, none-false}
use Rattle.command_model.proofs.laws.law_all_hold.Goals as goal

pub returns-clause-hold : goal.returns-clause-hold
returns-clause-hold g c = λ a i command none. all-hold a i command none

pub returns-clause-none_false : goal.returns-clause-none_false
returns-clause-none_false g c = λ a i command hold. none-false a i command hold
