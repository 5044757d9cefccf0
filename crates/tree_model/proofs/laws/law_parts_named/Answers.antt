use Rattle.tree_model.proofs.Parts.{part_in-map_sequence, method_replaced-map_method}
use Rattle.tree_model.proofs.laws.law_parts_named.Goals as goal

pub returns-clause-part : goal.returns-clause-part
returns-clause-part g c = λ f b path. part_in-map_sequence f b path

pub returns-clause-replaced : goal.returns-clause-replaced
returns-clause-replaced g c = λ f m path u. method_replaced-map_method f m path u
