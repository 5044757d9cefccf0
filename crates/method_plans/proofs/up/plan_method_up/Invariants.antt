use Rattle.method_plans.proofs.Risen.{HasRisen}
use Rattle.method_plans.proofs.up.plan_method_up.Given as goal

abbrev pub invariant-loop-slot : goal.invariant-loop-slot
invariant-loop-slot l = HasRisen l.image l.fn.method l.class l.slot-index l.plan.changes l.plan.touched.items
