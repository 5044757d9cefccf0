use Rattle.class_table.proofs.TreeOf.{SoFar}
use Rattle.class_table.proofs.tree.classes_below.Given as goal

abbrev pub invariant-loop-id : goal.invariant-loop-id
invariant-loop-id l = SoFar l.classes l.order l.fn.class l.id-index l.flags.items l.found
