use Rattle.std.proofs.Common.{◌≡◌, ◌++◌, take}
use Rattle.std.specs.List.{flat_map}
use Rattle.class_table.specs.declared.record.Place.TheVariants as place
use Rattle.witness_lists.specs.Views.{shown}
use Rattle.use_witnesses.specs.Heights.{high_at}
use Rattle.use_witnesses.proofs.heights.high_methods.Given as goal

abbrev pub invariant-loop-slot : goal.invariant-loop-slot
invariant-loop-slot g l =
    shown l.image l.found.items ≡ shown l.image l.initial.found.items ++ flat_map (λ k. high_at l.image l.looked (place.Method k)) (take l.slot-index l.slot-items)
