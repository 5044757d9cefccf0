use Rattle.grammar_model.proofs.Places.{one_place_DoIt, one_place_Method}
use Rattle.grammar_model.proofs.laws.has_one_node_at_a_place.Goals as goal

pub returns-clause-doit : goal.returns-clause-doit
returns-clause-doit c = one_place_DoIt

pub returns-clause-method : goal.returns-clause-method
returns-clause-method c = one_place_Method
