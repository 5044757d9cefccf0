use Rattle.same_trees.proofs.Told.{tree_told, tree_same}
use Rattle.same_trees.proofs.laws.law_same_trees.Goals as goal

pub returns : goal.returns
returns g c = record { told = λ same r told t u. (tree_told same told t u, tree_same same r t u) }
