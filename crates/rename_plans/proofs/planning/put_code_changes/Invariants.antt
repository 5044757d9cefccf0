use Rattle.std.proofs.Common.{take}
use Rattle.rename_plans.proofs.CodeSoFar.{SoFar}
use Rattle.rename_plans.proofs.planning.put_code_changes.Given as goal

abbrev pub invariant-loop-place : goal.invariant-loop-place
invariant-loop-place g l = SoFar l.image l.command (take l.place-index l.places) l.fn.changes l.fn.touched.items l.changes l.touched.items
