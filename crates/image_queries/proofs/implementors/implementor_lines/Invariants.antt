use Rattle.std.proofs.Common.{◌≡◌, take}
use Rattle.std.specs.Prelude.{flat_map}
use Rattle.image_queries.specs.Parts.{slot_line}
use Rattle.image_queries.proofs.implementors.implementor_lines.Given as goal

abbrev pub invariant-loop-slot : goal.invariant-loop-slot
invariant-loop-slot l = l.text ≡ flat_map (slot_line l.image l.selector) (take l.slot-index l.slot-items)
