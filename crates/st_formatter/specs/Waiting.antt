-- Trees to which references point.
use Rattle.std.specs.Prelude.{ℕ, List, [], ◌∷◌}
use Rattle.std.specs.Borrow.{Bor}
use Rattle.tree_model.specs.Tree.{TreeOf, TreesOf, no_trees, more_trees}

-- the trees, in order
abbrev pub trees_at : List (Bor (TreeOf ℕ)) → TreesOf ℕ
trees_at [] = no_trees
trees_at (r ∷ rs) = more_trees r.now (trees_at rs)
