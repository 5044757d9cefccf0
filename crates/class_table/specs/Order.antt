-- An order of some of the numbers below a bound.
use Rattle.std.specs.Prelude.{◌≡◌, ℕ, ◌<◌, ◌≤◌, List, [], ◌∷◌, length, insert, Bool, true, false, Option, None, Some, slice_get, nat_eq, if◌then◌else◌}
use Rattle.std.specs.List.{list_any}

-- the numbers in their order, and the bound
pub record OrderOf : Type 0 where
  pub items : List ℕ
  pub slots : ℕ

-- the list without its first k
abbrev pub without : ℕ → List ℕ → List ℕ
without k [] = []
without k (x ∷ xs) = if nat_eq k x then xs else x ∷ without k xs

-- the list with k put in at a place, or as it is
abbrev pub put_at : ℕ → Option ℕ → List ℕ → List ℕ
put_at k None order = order
put_at k (Some place) order = insert order place k

-- no number stands twice in the list
abbrev pub Distinct : List ℕ → Type 0
Distinct [] = Unit {0}
Distinct (x ∷ xs) = (list_any (nat_eq x) xs ≡ false) × Distinct xs

-- a list in which no number stands twice, flags that say which numbers stand in it, and room for each number that has a flag
pub record IsOrder (items : List ℕ) (live : List Bool) (room : ℕ) : Type 0 where
  pub distinct : Distinct items
  pub flags : (k : ℕ) → k < length live → slice_get live k ≡ Some (list_any (nat_eq k) items)
  pub below : (k : ℕ) → list_any (nat_eq k) items ≡ true → k < length live
  pub fits : length live ≤ room

-- what is known of each order: no number stands in it twice, and each is below the bound
pub record IsOrderOf (o : OrderOf) : Type 0 where
  pub distinct : Distinct o.items
  pub below : (k : ℕ) → list_any (nat_eq k) o.items ≡ true → k < o.slots
