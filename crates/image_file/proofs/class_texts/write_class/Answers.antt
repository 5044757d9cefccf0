use Rattle.std.proofs.Common.{◌≡◌, ◌++◌, ◌∙◌, ap}
use Rattle.std.proofs.lemmas.Result.{on_ok_weaker}
use Rattle.file_model.specs.Written.{paragraph}
use Rattle.image_file.proofs.Joined.{joined3}
use Rattle.image_file.proofs.class_texts.write_class.Goals as goal

pub returns : goal.returns
returns c =
    on_ok_weaker c.write_comment.result
    (λ e. joined3 c.args.out.now c.write_paragraph.new.out c.write_class_side.new.out c.write_comment.new.out _ _ _
    (c.in_ok-write_paragraph.ensures ∙ ap (λ t. c.args.out.now ++ paragraph t) (c.as_slice.ensures ∙ c.in_ok-source.ensures))
    c.in_ok-write_class_side.ensures e)
    c.write_comment.ensures
