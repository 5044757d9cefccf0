-- What the program lists: references to nodes, and names each once.
use Rattle.std.specs.Prelude.{◌↔◌, ℕ, List, map, Contains}
use Rattle.std.specs.Borrow.{Bor}
use Rattle.std.specs.List.Sorted.{IsStrictlyIncreasing}
use Rattle.tree_model.specs.Tree.{TreeOf}

-- the trees that references point to
abbrev pub pointed : List (Bor (TreeOf ℕ)) → List (TreeOf ℕ)
pointed rs = map (λ (r : Bor (TreeOf ℕ)). r.now) rs

-- the names that are mentioned, each once, in the order of their numbers
pub record ListsOnce (mentioned names : List ℕ) : Type 0 where
  pub once : IsStrictlyIncreasing names
  pub members : (n : ℕ) → Contains names n ↔ Contains mentioned n
