use Rattle.tree_model.proofs.NodesLemmas.{nodes-map_sequence}
use Rattle.tree_model.proofs.laws.law_nodes_named.Goals as goal

pub returns : goal.returns
returns g c = λ f b. nodes-map_sequence f b
