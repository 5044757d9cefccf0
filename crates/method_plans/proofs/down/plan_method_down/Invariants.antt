use Rattle.std.proofs.Common.{◌≤◌, length}
use Rattle.method_plans.proofs.Lowered.{Lowering, Copying}
use Rattle.method_plans.proofs.down.plan_method_down.Given as goal

abbrev pub invariant-loop-left : goal.invariant-loop-left
invariant-loop-left l = (l.left ≤ length l.classes) × Copying l.fn.image l.image l.fn.method l.classes l.place l.slot l.left l.plan.changes l.plan.touched.items

abbrev pub decreases-loop-left : goal.decreases-loop-left
decreases-loop-left l = l.left

abbrev pub invariant-loop-place : goal.invariant-loop-place
invariant-loop-place l = (l.place ≤ length l.fn.image.method_order) × Lowering l.fn.image l.image l.fn.method l.place l.plan.changes l.plan.touched.items

abbrev pub decreases-loop-place : goal.decreases-loop-place
decreases-loop-place l = l.place
