use Rattle.std.proofs.Common.{subst}
use Rattle.std.proofs.lemmas.Result.{IfOk-weaker}
use Rattle.image_model.specs.Image.{ImageOf}
use Rattle.query_model.specs.Lines.{Text}
use Rattle.class_table.specs.View.{image_of}
use Rattle.why_model.specs.Why.{WhyIn}
use Rattle.explained_scripts.proofs.Answered.{wrong-script}
use Rattle.explained_scripts.proofs.explain.explain_and_tell.Goals as goal

pub returns-in-Ok : goal.returns-in-Ok
returns-in-Ok c =
    IfOk-weaker c.explain_counted-status.result _ _
    (λ status why. subst (λ (i : ImageOf Text). WhyIn i c.args.script.now status c.explain_counted-status.new.out) c.lines_twice.ensures.image why) c.explain_counted-status.ensures

pub returns-in_ok-push_script_line-in-Err : goal.returns-in_ok-push_script_line-in-Err
returns-in_ok-push_script_line-in-Err c =
    wrong-script (image_of c.args.image.now) c.args.script.now c.push_script_line.new.out c.in-Err.fault c.in-Err.ensures.fault (rw c.requires.empty at c.in_ok-push_script_line-in-Err.ensures.told)
