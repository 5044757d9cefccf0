use Rattle.trace_model.proofs.Cutting.{run-trace, run_to-trace}
use Rattle.trace_model.proofs.laws.law_trace.Goals as goal

pub returns-clause-run : goal.returns-clause-run
returns-clause-run g = λ i n. run-trace i n

pub returns-clause-any_depth : goal.returns-clause-any_depth
returns-clause-any_depth g = λ i d n. run_to-trace i d n
