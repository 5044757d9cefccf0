use Rattle.std.proofs.Common.{◌≡◌, drop}
use Rattle.std.specs.List.{list_all}
use Rattle.image_strip.specs.SlotsClosed.{method_closed}
use Rattle.image_strip.proofs.closed.are_methods_closed.Given as goal

abbrev pub invariant-loop-slot : goal.invariant-loop-slot
invariant-loop-slot g l = list_all (method_closed l.image l.reach) (drop l.slot-index l.slot-items) ≡ list_all (method_closed l.image l.reach) l.slot-items
