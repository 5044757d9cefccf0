use Rattle.std.proofs.Common.{◌≡◌, ◌++◌, map, take}
use Rattle.class_table.specs.declared.record.Place.TheVariants as place
use Rattle.reference_index.proofs.fresh.each_once.Given as goal

abbrev pub invariant-loop-slot : goal.invariant-loop-slot
invariant-loop-slot l = l.once.items ≡ map place.Method (take l.slot-index l.slot-items)

abbrev pub invariant-loop-number : goal.invariant-loop-number
invariant-loop-number l = l.once.items ≡ l.initial.once.items ++ map place.DoIt (take l.number-index l.number-items)
