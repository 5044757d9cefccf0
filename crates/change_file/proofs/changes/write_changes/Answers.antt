use Rattle.std.proofs.Common.{◌≡◌, [], ◌∷◌, ◌++◌, ◌∙◌, length, ap, sym, refl, arith, append-nil}
use Rattle.std.proofs.lemmas.Bool.{eqb-true}
use Rattle.class_table.specs.View.{image_of}
use Rattle.file_model.specs.Filing.{Text}
use Rattle.change_file.proofs.Chosen.{no_change}
use Rattle.change_file.proofs.changes.write_changes.Goals as goal

-- a text without bytes
nothing : (t : Text) → length t ≡ 0 → t ≡ []
nothing [] e = refl
nothing (b ∷ t) e = absurd (omega (arith, e))

pub returns-then-is_empty-clause-ok : goal.returns-then-is_empty-clause-ok
returns-then-is_empty-clause-ok c =
    let i = image_of c.args.old.now in
    let j = image_of c.args.new.now in
    let none = nothing c.as_slice.result.now (eqb-true (length c.as_slice.result.now) 0 (sym c.is_empty.ensures ∙ c.if-is_empty.true)) in
    sym (append-nil c.args.out.now) ∙ ap (λ (t : Text). c.args.out.now ++ t) (sym (no_change i j (sym (c.as_slice.ensures ∙ c.in_ok-edits.ensures) ∙ none)))
