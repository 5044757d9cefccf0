use Rattle.temporary_plans.proofs.Retelling.{Retelling}
use Rattle.temporary_plans.proofs.planning.plan_retold.Given as goal

abbrev pub invariant-loop-slot : goal.invariant-loop-slot
invariant-loop-slot g l = Retelling l.image l.fn.method l.tree l.slot-index l.plan.changes l.plan.touched.items
