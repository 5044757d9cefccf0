-- The uses in the code at places now, beside those that are kept.
use Rattle.std.specs.Prelude.{◌≡◌, List, map, find, All}
use Rattle.std.specs.Option.{option_map_or}
use Rattle.class_table.specs.declared.record.Place.{Place}
use Rattle.class_table.specs.Slots.{Slots}
use Rattle.reference_index.specs.Mentioned.{same_place}
use Rattle.use_index.specs.declared.fresh.FreshUses.{FreshUses}
use Rattle.use_index.specs.declared.uses.UseAt.{UseAt}
use Rattle.use_index.specs.Index.{uses_at}
use Rattle.use_index.specs.Rows.{Used, used_of, HasRow}

-- the places
abbrev pub places_of : List FreshUses → List Place
places_of fresh = map (λ (f : FreshUses). f.place) fresh

-- of each place the uses in its code
abbrev pub AreUsesAt : Slots → List FreshUses → Type 0
AreUsesAt s fresh = All (λ (f : FreshUses). uses_at s f.place ≡ f.uses) fresh

-- there is a row of each place
abbrev pub HaveRows : Used → List FreshUses → Type 0
HaveRows x fresh = All (λ (f : FreshUses). HasRow x f.place) fresh

-- the uses of a place after the fresh ones are kept
abbrev pub used_after : Used → List FreshUses → Place → List UseAt
used_after x fresh p = option_map_or (λ (f : FreshUses). f.uses) (find (λ (f : FreshUses). same_place f.place p) fresh) (used_of x p)
