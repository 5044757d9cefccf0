use Rattle.std.proofs.Common.{take}
use Rattle.image_strip.specs.Least.{AreDoItsAdded}
use Rattle.image_strip.proofs.least.add_doits.Given as goal

abbrev pub invariant-loop-number : goal.invariant-loop-number
invariant-loop-number g l = AreDoItsAdded l.image (take l.number l.image.doits) l.initial.reach l.reach
