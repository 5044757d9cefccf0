-- The positions of the classes that can be taken.
use Rattle.std.specs.Prelude.{◌≡◌, ℕ, ◌≤◌, Bool, true, false, nat_eq, if◌then◌else◌, Option, Some, None}
use Rattle.std.specs.Ordering.{nat_cmp}
use Rattle.std.specs.BTreeSet.{BTreeSet, contains}

-- whether a position is one of them
abbrev pub stands : BTreeSet ℕ → ℕ → Bool
stands ready k = contains nat_cmp ready k

-- nothing came out of no positions, or the least one came out
abbrev pub IsPopped : BTreeSet ℕ → Option ℕ → BTreeSet ℕ → Type 0
IsPopped before None after = (j : ℕ) → stands before j ≡ false
IsPopped before (Some k) after =
    (stands before k ≡ true) × ((j : ℕ) → stands before j ≡ true → k ≤ j) × ((j : ℕ) → stands after j ≡ (if nat_eq k j then false else stands before j))
