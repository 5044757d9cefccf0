use Rattle.std.proofs.Common.{take}
use Rattle.image_strip.specs.Least.{IsPass, is_method_settled}
use Rattle.image_strip.proofs.least.visit_all.Given as goal

abbrev pub invariant-loop-slot : goal.invariant-loop-slot
invariant-loop-slot g l = IsPass l.image (is_method_settled l.image) (take l.slot-index l.slot-items) l.changed l.initial.reach l.reach
