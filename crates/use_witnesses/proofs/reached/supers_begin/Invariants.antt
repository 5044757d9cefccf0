use Rattle.std.proofs.Common.{◌≡◌, ◌++◌, take}
use Rattle.std.specs.List.{flat_map}
use Rattle.witness_lists.specs.Views.{shown}
use Rattle.use_witnesses.specs.Reached.{slot_begins}
use Rattle.use_witnesses.proofs.reached.supers_begin.Given as goal

abbrev pub invariant-loop-slot : goal.invariant-loop-slot
invariant-loop-slot g l =
    shown l.image l.found.items ≡ shown l.image l.initial.found.items ++ flat_map (slot_begins l.image l.class l.selector) (take l.slot-index l.slot-items)
