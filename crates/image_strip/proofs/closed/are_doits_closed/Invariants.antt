use Rattle.std.proofs.Common.{◌≡◌, drop}
use Rattle.std.specs.List.{list_all}
use Rattle.image_strip.specs.SlotsClosed.{doit_closed}
use Rattle.image_strip.proofs.closed.are_doits_closed.Given as goal

abbrev pub invariant-loop-number : goal.invariant-loop-number
invariant-loop-number g l = list_all (doit_closed l.image l.reach) (drop l.number l.image.doits) ≡ list_all (doit_closed l.image l.reach) l.image.doits
