use Rattle.method_plans.proofs.Removed.{Removing}
use Rattle.method_plans.proofs.going.plan_method_removal.Given as goal

abbrev pub invariant-loop-slot : goal.invariant-loop-slot
invariant-loop-slot l = Removing l.image l.fn.method l.slot-index l.plan.changes l.plan.touched.items
