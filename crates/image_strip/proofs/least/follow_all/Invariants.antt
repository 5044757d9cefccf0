use Rattle.image_strip.specs.Least.{IsStep}
use Rattle.image_strip.proofs.least.follow_all.Given as goal

abbrev pub invariant-loop : goal.invariant-loop
invariant-loop g l = IsStep l.image l.fn.reach l.reach
