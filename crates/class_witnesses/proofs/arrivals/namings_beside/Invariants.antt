use Rattle.std.proofs.Common.{◌≡◌, ◌++◌, take}
use Rattle.std.specs.List.{flat_map}
use Rattle.witness_lists.specs.Views.{shown}
use Rattle.class_witnesses.specs.Beside.{slot_beside}
use Rattle.class_witnesses.proofs.arrivals.namings_beside.Given as goal

abbrev pub invariant-loop-slot : goal.invariant-loop-slot
invariant-loop-slot g l =
    shown l.image l.found.items ≡ shown l.image l.initial.found.items ++ flat_map (slot_beside l.image l.arrival) (take l.slot-index l.slot-items)
