use Rattle.std.proofs.Common.{take}
use Rattle.image_draft.proofs.Passed.{AreForgotten}
use Rattle.image_draft.proofs.class_list.forget_from.Given as goal

abbrev pub invariant-loop-class : goal.invariant-loop-class
invariant-loop-class l = AreForgotten l.place l.fn.table l.table (take l.class-index l.classes)
