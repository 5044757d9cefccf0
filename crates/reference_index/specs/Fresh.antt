-- The names that the code at places mentions now, beside those that are kept.
use Rattle.std.specs.Prelude.{ℕ, ◌≤◌, List, [], ◌∷◌, length, map, filter, find, not, ◌&&◌, if◌then◌else◌, nat_eq, All, Contains, Option, None, Some}
use Rattle.std.specs.List.{list_any, IsDistinct}
use Rattle.std.specs.List.Sorted.{IsStrictlyIncreasing}
use Rattle.std.specs.Option.{option_map_or}
use Rattle.class_table.specs.declared.record.Place.{Place}
use Rattle.class_table.specs.declared.record.Place.TheVariants as place
use Rattle.class_table.specs.Slots.{Slots}
use Rattle.mentions.specs.Listing.{ListsOnce}
use Rattle.reference_index.specs.declared.fresh.Fresh.{Fresh}
use Rattle.reference_index.specs.Mentioned.{Mentioned, kept_of, names_at, same_place}
use Rattle.reference_index.specs.Rows.{mentions}

-- the places
abbrev pub places_of : List Fresh → List Place
places_of fresh = map (λ (f : Fresh). f.place) fresh

-- of each place the names that its code mentions, each once
abbrev pub AreNamesAt : Slots → List Fresh → Type 0
AreNamesAt s fresh = All (λ (f : Fresh). ListsOnce (names_at s f.place) f.names) fresh

-- the names of a place after the fresh ones are kept
abbrev pub kept_after : Mentioned → List Fresh → Place → List ℕ
kept_after x fresh p = option_map_or (λ (f : Fresh). f.names) (find (λ (f : Fresh). same_place f.place p) fresh) (kept_of x p)

-- the place, where its code comes to mention the name
abbrev pub comes : Mentioned → ℕ → Fresh → List Place
comes x name f = if list_any (nat_eq name) f.names && not (mentions x name f.place) then f.place ∷ [] else []

-- the names that the code at the place mentions no longer
abbrev pub gone : Mentioned → Fresh → List ℕ
gone x f = filter (λ n. not (list_any (nat_eq n) f.names)) (kept_of x f.place)

-- the names of each place rise
abbrev pub AllRise : List Fresh → Type 0
AllRise fresh = All (λ (f : Fresh). IsStrictlyIncreasing f.names) fresh

-- the slot of the method at a place
abbrev pub slot_in : Place → Option ℕ
slot_in (place.Method k) = Some k
slot_in (place.DoIt n) = None

-- the number of the do-it at a place
abbrev pub number_in : Place → Option ℕ
number_in (place.Method k) = None
number_in (place.DoIt n) = Some n

-- the second list has the places of the first, each once
pub record IsOnce (places once : List Place) : Type 0 where
  pub distinct : IsDistinct same_place once
  pub members : (p : Place) → Contains places p → Contains once p
  pub shorter : length once ≤ length places
