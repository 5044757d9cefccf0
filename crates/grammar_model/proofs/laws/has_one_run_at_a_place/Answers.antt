use Rattle.grammar_model.proofs.RunPlaces.{run_no_node_DoIt, runs_same_DoIt, run_no_node_Method, runs_same_Method}
use Rattle.grammar_model.proofs.laws.has_one_run_at_a_place.Goals as goal

pub returns-clause-doit_node : goal.returns-clause-doit_node
returns-clause-doit_node c = run_no_node_DoIt

pub returns-clause-doit_run : goal.returns-clause-doit_run
returns-clause-doit_run c = runs_same_DoIt

pub returns-clause-method_node : goal.returns-clause-method_node
returns-clause-method_node c = run_no_node_Method

pub returns-clause-method_run : goal.returns-clause-method_run
returns-clause-method_run c = runs_same_Method
