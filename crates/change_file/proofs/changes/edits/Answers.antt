use Rattle.std.proofs.Common.{◌≡◌, [], ◌++◌, ◌∙◌, sym, ap, append_assoc}
use Rattle.class_table.specs.View.{image_of}
use Rattle.file_model.specs.Filing.{Text}
use Rattle.change_model.specs.Edits.{clearings, class_removals, class_filings, method_removals, method_filings, replacements}
use Rattle.change_file.specs.Texts.{edit_texts}
use Rattle.change_file.proofs.EditTexts.{edits_written}
use Rattle.change_file.proofs.changes.edits.Goals as goal

-- six pieces in an empty text
joined : (o p q r a b d e f g : Text) → o ≡ [] → p ≡ o ++ a ++ b ++ d → q ≡ p ++ e ++ f → r ≡ q ++ g → r ≡ a ++ (b ++ (d ++ (e ++ (f ++ g))))
joined o p q r a b d e f g t u v w =
    w ∙ ap (λ (x : Text). x ++ g) (v ∙ ap (λ (x : Text). x ++ e ++ f) (u ∙ ap (λ (x : Text). x ++ a ++ b ++ d) t)) ∙ simp append_assoc

pub returns : goal.returns
returns c =
    let i = image_of c.args.old.now in
    let j = image_of c.args.new.now in
    joined c.new-text.result c.write_class_edits.new.out c.write_method_edits.new.out c.write_replacements.new.out
    (edit_texts (clearings i j)) (edit_texts (class_removals i j)) (edit_texts (class_filings i j)) (edit_texts (method_removals i j)) (edit_texts (method_filings i j)) (edit_texts (replacements i j))
    c.new-text.ensures c.in_ok-write_class_edits.ensures c.in_ok-write_method_edits.ensures c.in_ok-write_replacements.ensures
    ∙ sym (edits_written i j)
