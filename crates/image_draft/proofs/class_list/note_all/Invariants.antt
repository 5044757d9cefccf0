use Rattle.std.proofs.Common.{◌≡◌, take}
use Rattle.image_draft.specs.Table.{IsPlaceTable}
use Rattle.image_draft.proofs.class_list.note_all.Given as goal

abbrev pub invariant-loop-class : goal.invariant-loop-class
invariant-loop-class l = (l.place ≡ l.class-index) × IsPlaceTable l.table (take l.class-index l.classes)
