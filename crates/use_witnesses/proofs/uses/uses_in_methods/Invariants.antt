use Rattle.std.proofs.Common.{◌≡◌, ◌++◌, ◌-◌, drop, length}
use Rattle.std.specs.List.{flat_map, enumerate_from}
use Rattle.witness_lists.specs.Views.{shown}
use Rattle.use_witnesses.specs.Uses.{slot_uses}
use Rattle.use_witnesses.proofs.uses.uses_in_methods.Given as goal

abbrev pub invariant-loop-number : goal.invariant-loop-number
invariant-loop-number g l =
    shown l.image l.found.items ++ flat_map (slot_uses l.image l.sought) (enumerate_from l.number (drop l.number l.image.method_order))
    ≡ shown l.image l.initial.found.items ++ flat_map (slot_uses l.image l.sought) (enumerate_from 0 l.image.method_order)

abbrev pub decreases-loop-number : goal.decreases-loop-number
decreases-loop-number g l = length l.image.method_order - l.number
