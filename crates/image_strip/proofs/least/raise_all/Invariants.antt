use Rattle.std.proofs.Common.{take}
use Rattle.image_strip.specs.Least.{IsPass}
use Rattle.image_strip.specs.SlotsClosed.{class_closed}
use Rattle.image_strip.proofs.least.raise_all.Given as goal

abbrev pub invariant-loop-id : goal.invariant-loop-id
invariant-loop-id l = IsPass l.image (class_closed l.image) (take l.id-index l.id-items) l.changed l.initial.reach l.reach
