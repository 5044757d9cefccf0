use Rattle.std.proofs.Common.{◌≡◌, ◌++◌, take}
use Rattle.std.specs.List.{flat_map}
use Rattle.witness_lists.specs.Views.{shown}
use Rattle.witness_lists.specs.Walks.{slot_found}
use Rattle.witness_lists.proofs.code.sought_in_methods.Given as goal

abbrev pub invariant-loop-slot : goal.invariant-loop-slot
invariant-loop-slot g l =
    shown l.image l.found.items ≡ shown l.image l.initial.found.items ++ flat_map (slot_found l.image l.whose l.sought) (take l.slot-index l.slot-items)
