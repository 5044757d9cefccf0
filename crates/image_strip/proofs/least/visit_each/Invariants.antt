use Rattle.image_strip.specs.Least.{IsStep}
use Rattle.image_strip.proofs.least.visit_each.Given as goal

abbrev pub invariant-loop-slot : goal.invariant-loop-slot
invariant-loop-slot g l = IsStep l.image l.initial.reach l.reach
