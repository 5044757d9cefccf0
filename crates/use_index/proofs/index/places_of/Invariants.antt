use Rattle.std.proofs.Common.{◌≡◌, ◌<◌, ◌+◌, ℕ, Contains, length, map, take}
use Rattle.class_table.specs.declared.record.Place.{Place}
use Rattle.class_table.specs.declared.record.Place.TheVariants as place
use Rattle.use_index.proofs.index.places_of.Given as goal

abbrev pub invariant-loop-slot : goal.invariant-loop-slot
invariant-loop-slot l = l.places.items ≡ map place.Method (take l.slot-index l.slot-items)

abbrev pub invariant-loop-number : goal.invariant-loop-number
invariant-loop-number l =
    ((p : Place) → Contains l.initial.places.items p → Contains l.places.items p)
    × ((n : ℕ) → n < l.number → Contains l.places.items (place.DoIt n))
    × (length l.places.items ≡ length l.initial.places.items + l.number)
