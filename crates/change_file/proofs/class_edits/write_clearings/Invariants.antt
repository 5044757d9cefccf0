use Rattle.std.proofs.Common.{◌≡◌, ◌++◌, drop, map}
use Rattle.std.specs.Prelude.{flat_map}
use Rattle.image_model.specs.Image.{ClassOf}
use Rattle.class_table.specs.View.{image_of}
use Rattle.file_model.specs.Filing.{Text}
use Rattle.file_model.specs.Places.{PlacedOf}
use Rattle.change_file.specs.Shown.{placed_class}
use Rattle.change_file.proofs.EditTexts.{clearing_text}
use Rattle.change_file.proofs.class_edits.write_clearings.Given as goal

abbrev pub invariant-loop-class : goal.invariant-loop-class
invariant-loop-class l =
    let texts = λ (p : PlacedOf (ClassOf Text)). clearing_text (image_of l.new.image.now) p.item in
    l.out ++ flat_map texts (map (placed_class l.old.image.now) (drop l.class-index l.differing))
    ≡ l.initial.out ++ flat_map texts (map (placed_class l.old.image.now) l.differing)
