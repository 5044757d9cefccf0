use Rattle.std.proofs.Common.{take}
use Rattle.remade_plans.proofs.SoFar.{SoFar}
use Rattle.abstract_plans.specs.Abstracted.{remaking_of}
use Rattle.abstract_plans.proofs.code.code_changes.Given as goal

abbrev pub invariant-loop-place : goal.invariant-loop-place
invariant-loop-place g l = SoFar l.image (remaking_of l.image l.abstraction) (take l.place-index l.place-items) l.changes l.touched.items
