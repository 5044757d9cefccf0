use Rattle.run_model.proofs.Depth.{evaluates-step, run-evaluates, evaluates-within}
use Rattle.run_model.proofs.laws.law_evaluates.Goals as goal

pub returns-clause-step : goal.returns-clause-step
returns-clause-step g = λ i t s. evaluates-step i t s

pub returns-clause-run : goal.returns-clause-run
returns-clause-run g = λ i n. run-evaluates i n

pub returns-clause-ticks : goal.returns-clause-ticks
returns-clause-ticks g = λ i t s. evaluates-within i t s
