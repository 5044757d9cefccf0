-- Items of a list by their number.
use Rattle.std.specs.Prelude.{ℕ, zero, suc, List, [], ◌∷◌}

-- the item of this number alone, or no item where there is none
abbrev pub items_at : {X : Type 0} → List X → ℕ → List X
items_at [] n = []
items_at (x ∷ xs) zero = x ∷ []
items_at (x ∷ xs) (suc n) = items_at xs n
