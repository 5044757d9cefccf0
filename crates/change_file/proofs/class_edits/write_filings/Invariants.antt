use Rattle.std.proofs.Common.{◌≡◌, ◌++◌, drop, map}
use Rattle.std.specs.Prelude.{flat_map}
use Rattle.image_model.specs.Image.{ClassOf}
use Rattle.file_model.specs.Filing.{Text}
use Rattle.file_model.specs.Places.{PlacedOf}
use Rattle.change_model.specs.Edits.{filed}
use Rattle.change_file.specs.Texts.{edit_texts}
use Rattle.change_file.specs.Shown.{placed_class}
use Rattle.change_file.proofs.class_edits.write_filings.Given as goal

abbrev pub invariant-loop-class : goal.invariant-loop-class
invariant-loop-class l =
    let texts = λ (p : PlacedOf (ClassOf Text)). edit_texts (filed p) in
    l.out ++ flat_map texts (map (placed_class l.image) (drop l.class-index l.differing))
    ≡ l.initial.out ++ flat_map texts (map (placed_class l.image) l.differing)
