use Rattle.std.proofs.Common.{◌≡◌, ◌+◌, take}
use Rattle.reference_index.specs.Fresh.{places_of, AreNamesAt}
use Rattle.reference_index.proofs.fresh.names_in_all.Given as goal

abbrev pub invariant-loop-place : goal.invariant-loop-place
invariant-loop-place g l =
    (places_of l.fresh.items ≡ take l.place-index l.places)
    × AreNamesAt l.image l.fresh.items
    × (l.steps ≡ l.initial.steps + l.place-index)
