-- The order of preorder, in terms of paths.
use Rattle.std.specs.Prelude.{◌≡◌, ◌≢◌, ◌⊎◌, ℕ, ◌<◌, List, [], ◌∷◌, map}
use Rattle.std.specs.List.{AllByRecursion}
use Rattle.tree_model.specs.Nodes.{Placed}

-- the paths of nodes
abbrev pub paths_of : {N : Type 0} → List (Placed N) → List (List ℕ)
paths_of es = map (λ e. e.0) es

-- A node comes before another one: it stands above it, or where the paths part, further to the left.
abbrev pub ComesBefore : List ℕ → List ℕ → Type 0
ComesBefore [] [] = ⊥
ComesBefore [] (k ∷ q) = Unit {0}
ComesBefore (j ∷ p) [] = ⊥
ComesBefore (j ∷ p) (k ∷ q) = (j < k) ⊎ ((j ≡ k) × ComesBefore p q)

-- each comes before all behind it
abbrev pub IsAscending : List (List ℕ) → Type 0
IsAscending [] = Unit {0}
IsAscending (p ∷ ps) = AllByRecursion (ComesBefore p) ps × IsAscending ps

-- no path stands there twice
abbrev pub EachOnce : List (List ℕ) → Type 0
EachOnce [] = Unit {0}
EachOnce (p ∷ ps) = AllByRecursion (λ q. p ≢ q) ps × EachOnce ps

-- the first list is the second one with some left out
abbrev pub IsPartInOrder : List (List ℕ) → List (List ℕ) → Type 0
IsPartInOrder [] qs = Unit {0}
IsPartInOrder (p ∷ ps) [] = ⊥
IsPartInOrder (p ∷ ps) (q ∷ qs) = ((p ≡ q) × IsPartInOrder ps qs) ⊎ IsPartInOrder (p ∷ ps) qs
