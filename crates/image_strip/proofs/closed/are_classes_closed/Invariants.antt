use Rattle.std.proofs.Common.{◌≡◌, drop}
use Rattle.std.specs.List.{list_all}
use Rattle.image_strip.specs.SlotsClosed.{class_closed}
use Rattle.image_strip.proofs.closed.are_classes_closed.Given as goal

abbrev pub invariant-loop-id : goal.invariant-loop-id
invariant-loop-id l = list_all (class_closed l.image l.reach) (drop l.id-index l.id-items) ≡ list_all (class_closed l.image l.reach) l.id-items
