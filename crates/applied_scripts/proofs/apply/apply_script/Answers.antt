use Rattle.std.proofs.Common.{sym, ◌∙◌}
use Rattle.std.proofs.lemmas.Result.{err_from_is_err_and}
use Rattle.class_table.specs.View.{image_of}
use Rattle.applied_scripts.proofs.Answering.{told_answer, done_answer, nothing_sent}
use Rattle.applied_scripts.proofs.apply.apply_script.Goals as goal

pub returns-in_ok-write_image-in-Done-clause-answered : goal.returns-in_ok-write_image-in-Done-clause-answered
returns-in_ok-write_image-in-Done-clause-answered c =
    done_answer (image_of c.args.image.now) (image_of c.change_image.new.image) c.args.script.now c.change_image.new.out c.write_image.new.out c.in-Done.commands
    (rw c.in-Done.is at c.in_ok-change_image.ensures.changed) c.in_ok-write_image-in-Done.ensures.ok

pub returns-in-Told-clause-answered : goal.returns-in-Told-clause-answered
returns-in-Told-clause-answered c =
    told_answer (image_of c.args.image.now) (image_of c.change_image.new.image) c.args.script.now c.change_image.new.out c.in-Told.status (rw c.in-Told.is at c.in_ok-change_image.ensures.changed)

pub returns-in_err-write_image-in-Done-clause-kept : goal.returns-in_err-write_image-in-Done-clause-kept
returns-in_err-write_image-in-Done-clause-kept c =
    let e = err_from_is_err_and c.from_residual-in_err-write_image-in-Done.result c.from_residual-in_err-write_image-in-Done.ensures.1 in
    let empty = nothing_sent (image_of c.args.image.now) (image_of c.change_image.new.image) c.args.script.now c.change_image.new.out c.in-Done.commands (rw c.in-Done.is at c.in_ok-change_image.ensures.changed) in
    rw e.1 (c.in_err-write_image-in-Done.ensures.err ∙ empty ∙ sym c.requires.empty)
