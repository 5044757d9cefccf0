use Rattle.std.proofs.Common.{◌≡◌, ◌++◌, map, take}
use Rattle.class_table.specs.declared.record.Place.TheVariants as place
use Rattle.image_rewriting.specs.Planned.{doit_places}
use Rattle.image_rewriting.proofs.planning.all_places.Given as goal

abbrev pub invariant-loop-slot : goal.invariant-loop-slot
invariant-loop-slot l = l.found.items ≡ map place.Method (take l.slot-index l.slot-items)

abbrev pub invariant-loop-number : goal.invariant-loop-number
invariant-loop-number l = l.found.items ≡ map place.Method l.image.method_order ++ doit_places l.number
