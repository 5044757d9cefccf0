use Rattle.std.proofs.Common.{◌≡◌, List, map, ◌++◌, ◌∙◌, ap, sym, subst}
use Rattle.std.specs.Prelude.{flat_map}
use Rattle.std.specs.List.{AllByRecursion}
use Rattle.std.proofs.lemmas.Result.{on_ok_weaker}
use Rattle.image_model.specs.Image.{ClassOf}
use Rattle.class_table.specs.Slots.{Slots}
use Rattle.class_table.specs.View.{image_of}
use Rattle.file_model.specs.Filing.{Text}
use Rattle.file_model.specs.Places.{PlacedOf}
use Rattle.image_file.specs.Writable.{IsWritableClass}
use Rattle.change_model.specs.Edits.{filed, clearings, class_removals, class_filings}
use Rattle.change_file.specs.declared.classes.PlacedClass.{PlacedClass}
use Rattle.change_file.specs.Shown.{placed_class}
use Rattle.change_file.specs.Texts.{edit_texts}
use Rattle.change_file.proofs.class_edits.write_class_edits.Goals as goal

pub write_filings-requires : goal.write_filings-requires
write_filings-requires c =
    subst (AllByRecursion (λ (p : PlacedClass). IsWritableClass c.args.new.now p.rec.now)) (sym c.as_slice-2.ensures.value)
    (subst (λ (s : Slots). AllByRecursion (λ (p : PlacedClass). IsWritableClass s p.rec.now) c.in_ok-come.come.items) c.in_ok-after.ensures.image c.in_ok-come.ensures.writable)

pub returns : goal.returns
returns c =
    let before = c.in_ok-before.ensures.image in
    let after = c.in_ok-after.ensures.image in
    let come = c.in_ok-come.come.items in
    let filings : edit_texts (flat_map filed (map (placed_class c.args.new.now) c.as_slice-2.result.now)) ≡ edit_texts (class_filings (image_of c.args.old.now) (image_of c.args.new.now)) =
    ap (λ (ps : List PlacedClass). edit_texts (flat_map filed (map (placed_class c.args.new.now) ps))) c.as_slice-2.ensures.value
    ∙ (λ k. edit_texts (flat_map filed (map (placed_class (sym after k)) come)))
    ∙ ap (λ (ps : List (PlacedOf (ClassOf Text))). edit_texts (flat_map filed ps)) c.in_ok-come.ensures.classes
    ∙ (λ k. edit_texts (class_filings (image_of (before k)) (image_of (after k)))) in
    on_ok_weaker c.write_filings.result
    (λ e. e ∙ ap (λ (t : Text). c.write_removals.new.out ++ t) filings
    ∙ ap (λ (t : Text). t ++ edit_texts (class_filings (image_of c.args.old.now) (image_of c.args.new.now)))
    (c.in_ok-write_removals.ensures ∙ (λ k. c.write_clearings.new.out ++ edit_texts (class_removals (image_of (before k)) (image_of (after k))))
    ∙ ap (λ (t : Text). t ++ edit_texts (class_removals (image_of c.args.old.now) (image_of c.args.new.now)))
    (c.in_ok-write_clearings.ensures ∙ (λ k. c.args.out.now ++ edit_texts (clearings (image_of (before k)) (image_of (after k)))))))
    c.write_filings.ensures
