-- The rows of uses that are kept of places.
use Rattle.std.specs.Prelude.{ℕ, ◌<◌, List, [], length, slice_get, unwrap_or}
use Rattle.class_table.specs.declared.record.Place.{Place}
use Rattle.class_table.specs.declared.record.Place.TheVariants as place
use Rattle.use_index.specs.declared.uses.UseAt.{UseAt}

-- the uses that are kept of each slot of a method and of each do-it
pub record Used : Type 0 where
  pub methods : List (List UseAt)
  pub doits : List (List UseAt)

-- the row of a number, which is empty past the end
abbrev pub row_of : List (List UseAt) → ℕ → List UseAt
row_of rows k = unwrap_or (slice_get rows k) []

-- the uses that are kept of a place
abbrev pub used_of : Used → Place → List UseAt
used_of x (place.Method k) = row_of x.methods k
used_of x (place.DoIt n) = row_of x.doits n

-- there is a row of the place
abbrev pub HasRow : Used → Place → Type 0
HasRow x (place.Method k) = k < length x.methods
HasRow x (place.DoIt n) = n < length x.doits
