use Rattle.bound_model.proofs.Grown.{condition-grows, command-grows, condition-least, condition-most}
use Rattle.bound_model.proofs.laws.law_bounds_grow.Goals as goal

pub returns : goal.returns
returns g c = record {
  condition = λ a i j command other condition more conditions. condition-grows a i j command other more conditions condition;
  command = λ a writing i j command other more conditions touches. command-grows a i j command other more conditions writing touches;
  least = condition-least;
  most = condition-most;
}
