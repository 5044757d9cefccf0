use Rattle.std.proofs.Common.{◌≡◌, take}
use Rattle.image_model.specs.Valid.{class_names}
use Rattle.image_draft.proofs.reorder.names_of.Given as goal

abbrev pub invariant-loop-class : goal.invariant-loop-class
invariant-loop-class l = l.names ≡ class_names (take l.class-index l.classes)
