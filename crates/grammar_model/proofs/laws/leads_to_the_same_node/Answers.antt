use Rattle.grammar_model.proofs.Places.{plain_in, plain_in_Method}
use Rattle.grammar_model.proofs.laws.leads_to_the_same_node.Goals as goal

pub returns-clause-doit : goal.returns-clause-doit
returns-clause-doit c = plain_in

pub returns-clause-method : goal.returns-clause-method
returns-clause-method c = plain_in_Method
