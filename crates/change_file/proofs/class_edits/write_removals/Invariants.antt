use Rattle.std.proofs.Common.{◌≡◌, ◌≤◌, ◌++◌, take, length, not}
use Rattle.image_model.specs.Image.{ClassOf}
use Rattle.class_table.specs.View.{image_of}
use Rattle.file_model.specs.Filing.{Text}
use Rattle.file_model.specs.Written.{user_classes}
use Rattle.change_model.specs.Differs.{is_among}
use Rattle.change_model.specs.Equal.{is_namesake}
use Rattle.change_file.proofs.EditTexts.{removals_text}
use Rattle.change_file.proofs.class_edits.write_removals.Given as goal

abbrev pub invariant-loop-left : goal.invariant-loop-left
invariant-loop-left l =
    let xs = user_classes (image_of l.old.image.now) in
    let goes = λ (c : ClassOf Text). not (is_among is_namesake (user_classes (image_of l.new.image.now)) c) in
    (l.out ++ removals_text goes (take l.left xs) ≡ l.initial.out ++ removals_text goes xs) × (l.left ≤ length l.old.recs.items)

abbrev pub decreases-loop-left : goal.decreases-loop-left
decreases-loop-left l = l.left
