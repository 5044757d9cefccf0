use Rattle.std.proofs.Common.{◌≡◌, List, map, ◌++◌, ◌∙◌, ap}
use Rattle.std.specs.Prelude.{flat_map}
use Rattle.std.proofs.lemmas.Result.{on_ok_weaker}
use Rattle.class_table.specs.View.{image_of}
use Rattle.file_model.specs.Filing.{Text}
use Rattle.file_model.specs.Places.{PlacedOf}
use Rattle.file_model.specs.Written.{user_methods}
use Rattle.change_model.specs.Differs.{differing_from, method_stays}
use Rattle.change_model.specs.Edits.{method_removals, method_filings}
use Rattle.change_file.specs.declared.methods.PlacedMethod.{PlacedMethod}
use Rattle.change_file.specs.Shown.{Shown, placed_method}
use Rattle.change_file.specs.Texts.{edit_texts, put_text}
use Rattle.change_file.proofs.EditTexts.{puts_written}
use Rattle.change_file.proofs.method_edits.write_method_edits.Goals as goal

pub returns : goal.returns
returns c =
    let before = c.in_ok-before.ensures.image in
    let after = c.in_ok-after.ensures.image in
    let i = image_of c.in_ok-before.before.image.now in
    let j = image_of c.in_ok-after.after.image.now in
    let filings : flat_map put_text (map placed_method c.as_slice.result.now) ≡ edit_texts (method_filings (image_of c.args.old.now) (image_of c.args.new.now)) =
    ap (λ (ps : List PlacedMethod). flat_map put_text (map placed_method ps)) c.as_slice.ensures.value
    ∙ ap (λ (ps : List (PlacedOf Shown)). flat_map put_text ps) c.in_ok-come.ensures
    ∙ puts_written (differing_from 1 (method_stays j i) (user_methods j))
    ∙ (λ k. edit_texts (method_filings (image_of (before k)) (image_of (after k)))) in
    on_ok_weaker c.write_filings.result
    (λ e. e ∙ ap (λ (t : Text). c.write_removals.new.out ++ t) filings
    ∙ ap (λ (t : Text). t ++ edit_texts (method_filings (image_of c.args.old.now) (image_of c.args.new.now)))
    (c.in_ok-write_removals.ensures ∙ (λ k. c.args.out.now ++ edit_texts (method_removals (image_of (before k)) (image_of (after k))))))
    c.write_filings.ensures
