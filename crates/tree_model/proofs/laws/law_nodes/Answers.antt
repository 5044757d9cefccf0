use Rattle.tree_model.proofs.NodesLemmas.{part_in-Contains, Contains-part_in, length-nodes}
use Rattle.tree_model.proofs.laws.law_nodes.Goals as goal

pub returns-clause-members : goal.returns-clause-members
returns-clause-members g c = λ b path t. (λ h. part_in-Contains b path t h, λ e. Contains-part_in b path t e)

pub returns-clause-count : goal.returns-clause-count
returns-clause-count g c = λ b. length-nodes b
