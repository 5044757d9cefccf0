use Rattle.resolved_model.proofs.RunLemmas.{run-resolved, run_to-resolved}
use Rattle.resolved_model.proofs.laws.law_resolved_runs.Goals as goal

pub returns-clause-run : goal.returns-clause-run
returns-clause-run g = λ i n. run-resolved i n

pub returns-clause-any_depth : goal.returns-clause-any_depth
returns-clause-any_depth g = λ i d n. run_to-resolved i d n
