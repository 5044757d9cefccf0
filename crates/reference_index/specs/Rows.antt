-- The rows of names that are kept of places.
use Rattle.std.specs.Prelude.{ℕ, ◌<◌, List, [], length, slice_get, unwrap_or, Bool, nat_eq}
use Rattle.std.specs.List.{list_any}
use Rattle.std.specs.List.Sorted.{IsStrictlyIncreasing}
use Rattle.class_table.specs.declared.record.Place.{Place}
use Rattle.class_table.specs.declared.record.Place.TheVariants as place
use Rattle.reference_index.specs.Mentioned.{Mentioned, kept_of}

-- the row of a number, which is empty past the end
abbrev pub row_of : List (List ℕ) → ℕ → List ℕ
row_of rows k = unwrap_or (slice_get rows k) []

-- whether a name is among those that are kept of a place
abbrev pub mentions : Mentioned → ℕ → Place → Bool
mentions x name p = list_any (nat_eq name) (kept_of x p)

-- the names that are kept of each place rise
abbrev pub EachRises : Mentioned → Type 0
EachRises x = (p : Place) → IsStrictlyIncreasing (kept_of x p)

-- there is a row of the place
abbrev pub HasRow : Mentioned → Place → Type 0
HasRow x (place.Method k) = k < length x.methods
HasRow x (place.DoIt n) = n < length x.doits

-- the names can be kept of the place: there is a row of it, or no name
abbrev pub Fits : Mentioned → Place → List ℕ → Type 0
Fits x p names = 0 < length names → HasRow x p
