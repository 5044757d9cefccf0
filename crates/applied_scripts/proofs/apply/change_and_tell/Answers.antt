use Rattle.std.proofs.Common.{ℕ, List, subst}
use Rattle.std.proofs.lemmas.Result.{IfOk-weaker}
use Rattle.image_model.specs.Image.{ImageOf}
use Rattle.class_table.specs.View.{image_of}
use Rattle.applied_scripts.specs.Changed.{IsChanged, IsAfterPart, is_same}
use Rattle.applied_scripts.proofs.Answering.{wrong}
use Rattle.applied_scripts.proofs.apply.change_and_tell.Goals as goal

pub returns-in-Ok-clause-changed : goal.returns-in-Ok-clause-changed
returns-in-Ok-clause-changed c =
    IfOk-weaker c.perform_counted-changed.result _ _
    (λ changed answered.
    subst (λ (i : ImageOf (List ℕ)). IsChanged i c.args.script.now (image_of c.perform_counted-changed.new.image) c.perform_counted-changed.new.out changed) c.script_lines.ensures.image
    (answered c.args.script.now c.in-Ok.ensures.said)) c.perform_counted-changed.ensures.changed

pub returns-in_ok-push_script_line-in-Err-clause-changed : goal.returns-in_ok-push_script_line-in-Err-clause-changed
returns-in_ok-push_script_line-in-Err-clause-changed c =
    wrong (image_of c.args.image.now) (image_of c.script_lines.new.image) c.args.script.now c.push_script_line.new.out c.in-Err.fault c.in-Err.ensures.fault (rw c.requires.empty at c.in_ok-push_script_line-in-Err.ensures.told)

pub returns-in-Ok-clause-part : goal.returns-in-Ok-clause-part
returns-in-Ok-clause-part c =
    subst (λ (i : ImageOf (List ℕ)). IsAfterPart i c.args.script.now (image_of c.perform_counted-changed.new.image)) c.script_lines.ensures.image
    (c.perform_counted-changed.ensures.part c.args.script.now c.in-Ok.ensures.said)

pub returns-in_err-push_script_line-in-Err-clause-part : goal.returns-in_err-push_script_line-in-Err-clause-part
returns-in_err-push_script_line-in-Err-clause-part c = is_same c.script_lines.ensures.image

pub returns-in_ok-push_script_line-in-Err-clause-part : goal.returns-in_ok-push_script_line-in-Err-clause-part
returns-in_ok-push_script_line-in-Err-clause-part c = is_same c.script_lines.ensures.image
