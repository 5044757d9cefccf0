-- Each part of a list weighs less than the list.
use Rattle.std.specs.Prelude.{ℕ, ◌+◌, ◌≤◌, List, [], ◌∷◌}
use Rattle.std.proofs.Common.{arith}
use denote.Param.Weighed.{most}
use Rattle.tree_model.specs.Tree.{LiteralOf, literals_of, TreeOf, trees_of}
use Rattle.tree_model.specs.Measure.{literal_weight, literals_weight, weight, trees_weight}

-- of literals
pub most_le-literals_weight : (ls : List (LiteralOf ℕ)) → most (λ l. literal_weight l + 1) ls ≤ literals_weight (literals_of ls)
most_le-literals_weight [] = omega arith
most_le-literals_weight (l ∷ ls) = omega (arith, most_le-literals_weight ls)

-- of trees
pub most_le-trees_weight : (ts : List (TreeOf ℕ)) → most (λ t. weight t + 1) ts ≤ trees_weight (trees_of ts)
most_le-trees_weight [] = omega arith
most_le-trees_weight (t ∷ ts) = omega (arith, most_le-trees_weight ts)
