use Rattle.std.proofs.Common.{◌++◌, ◌∙◌, ap, sym}
use Rattle.std.proofs.lemmas.Result.{on_ok_weaker}
use Rattle.file_model.specs.Filing.{Text}
use Rattle.file_model.specs.Written.{paragraph}
use Rattle.change_file.specs.Shown.{placed_class}
use Rattle.change_file.proofs.Walks.{written_thrice, filed_text}
use Rattle.change_file.proofs.class_edits.write_filed.Goals as goal

pub returns : goal.returns
returns c =
    on_ok_weaker c.write_paragraph-2.result
    (λ e. written_thrice c.args.out.now c.write_paragraph.new.out c.write_side.new.out c.write_paragraph-2.new.out _ _ _
    (c.in_ok-write_paragraph.ensures ∙ ap (λ (t : Text). c.args.out.now ++ paragraph t) (c.as_slice.ensures ∙ c.in_ok-definition.ensures))
    c.in_ok-write_side.ensures
    (e ∙ ap (λ (t : Text). c.write_side.new.out ++ paragraph t) (c.as_slice-2.ensures ∙ c.in_ok-comment.ensures))
    ∙ ap (λ (t : Text). c.args.out.now ++ t) (sym (filed_text (placed_class c.args.image.now c.args.class.now))))
    c.write_paragraph-2.ensures
