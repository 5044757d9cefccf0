use Rattle.run_model.proofs.ControlLemmas.{shape-control}
use Rattle.run_model.proofs.laws.law_control_sends.Goals as goal

pub returns : goal.returns
returns g = λ s r args. shape-control r args s
