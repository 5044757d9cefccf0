use Rattle.run_model.proofs.Depth.{run-deep}
use Rattle.run_model.proofs.laws.law_depth.Goals as goal

pub returns : goal.returns
returns g = λ i n d le. run-deep i n d le
