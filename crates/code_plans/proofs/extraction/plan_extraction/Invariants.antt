use Rattle.temporary_plans.proofs.Retelling.{Retelling}
use Rattle.code_plans.proofs.extraction.plan_extraction.Given as goal

abbrev pub invariant-loop-other : goal.invariant-loop-other
invariant-loop-other g l = Retelling l.roomy l.fn.part.method l.sender l.other-index l.plan.changes l.plan.touched.items
