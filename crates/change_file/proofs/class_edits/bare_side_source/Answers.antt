use Rattle.std.proofs.Common.{[], ◌∷◌, ◌++◌, ◌∙◌, ap, sym, append_assoc}
use Rattle.std.specs.Prelude.{codes}
use Rattle.file_model.specs.Filing.{Text}
use Rattle.change_file.proofs.class_edits.bare_side_source.Goals as goal

pub returns : goal.returns
returns c =
    c.in_ok-push_slice.ensures.ok ∙ ap (λ (t : Text). t ++ codes " class instanceVariableNames: ''") c.in_ok-source.ensures
    ∙ sym (append_assoc c.args.name.now (codes " class instanceVariableNames: ") (39 ∷ 39 ∷ []))
