use Rattle.std.proofs.Common.{◌≡◌, ◌++◌, take}
use Rattle.std.specs.List.{filter_map}
use Rattle.reference_index.specs.Fresh.{slot_in, number_in}
use Rattle.reference_index.proofs.fresh.sort_out.Given as goal

abbrev pub invariant-loop-place : goal.invariant-loop-place
invariant-loop-place l =
    (l.slots.items ≡ l.initial.slots.items ++ filter_map slot_in (take l.place-index l.places))
    × (l.numbers.items ≡ l.initial.numbers.items ++ filter_map number_in (take l.place-index l.places))
