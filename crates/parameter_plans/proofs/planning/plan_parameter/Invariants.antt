use Rattle.std.proofs.Common.{take}
use Rattle.parameter_plans.specs.Given.{remaking_of}
use Rattle.remade_plans.proofs.SoFar.{SoFar}
use Rattle.parameter_plans.proofs.planning.plan_parameter.Given as goal

abbrev pub invariant-loop-place : goal.invariant-loop-place
invariant-loop-place g l = SoFar l.image (remaking_of l.parameter) (take l.place-index l.place-items) l.changes l.touched.items
