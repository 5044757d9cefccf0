use Rattle.run_model.proofs.MoreTicks.{run-ended, run-prefix}
use Rattle.run_model.proofs.Depth.{run-spent}
use Rattle.run_model.proofs.laws.law_more_ticks.Goals as goal

pub returns-clause-ended : goal.returns-clause-ended
returns-clause-ended g = λ i n m le e. run-ended i n m le e

pub returns-clause-events : goal.returns-clause-events
returns-clause-events g = λ i n m le. run-prefix i n m le

pub returns-clause-taken : goal.returns-clause-taken
returns-clause-taken g = λ i n e. run-spent i n e
