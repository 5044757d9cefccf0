use Rattle.std.proofs.Common.{List, ℕ, sym, subst, ◌∙◌}
use Rattle.std.proofs.lemmas.Result.{err_from_is_err_and}
use Rattle.class_table.specs.View.{image_of}
use Rattle.image_model.specs.Image.{ImageOf}
use Rattle.applied_scripts.specs.declared.apply.Changed.TheVariants as changed
use Rattle.applied_scripts.specs.Changed.{IsChanged}
use Rattle.applied_scripts.proofs.Answering.{nothing_sent}
use Rattle.changed_scripts.proofs.Answering.{told_answer, done_apart, done_answer}
use Rattle.changed_scripts.proofs.change.change_script.Goals as goal

pub write_changes-requires-clause-old_apart : goal.write_changes-requires-clause-old_apart
write_changes-requires-clause-old_apart c = c.law_of_one_text.ensures.apart (image_of c.args.old.now) (image_of c.args.image.now) c.requires.one_text

pub write_changes-requires-clause-new_apart : goal.write_changes-requires-clause-new_apart
write_changes-requires-clause-new_apart c =
    let i = image_of c.args.old.now in
    let j = image_of c.args.image.now in
    done_apart i (image_of c.change_image.new.image) c.args.script.now c.change_image.new.out c.in-Done.commands (c.law_of_one_text.ensures.after i j c.args.script.now c.requires.one_text)
    (subst (λ (k : ImageOf (List ℕ)). IsChanged k c.args.script.now (image_of c.change_image.new.image) c.change_image.new.out (changed.Done c.in-Done.commands)) (c.law_of_one_text.ensures.same i j c.requires.one_text) (rw c.in-Done.is at c.in_ok-change_image.ensures.changed))

pub returns-in_ok-write_changes-in-Done-clause-answered : goal.returns-in_ok-write_changes-in-Done-clause-answered
returns-in_ok-write_changes-in-Done-clause-answered c =
    let i = image_of c.args.old.now in
    let j = image_of c.args.image.now in
    done_answer i (image_of c.change_image.new.image) c.args.script.now c.change_image.new.out c.write_changes.new.out c.in-Done.commands
    (subst (λ (k : ImageOf (List ℕ)). IsChanged k c.args.script.now (image_of c.change_image.new.image) c.change_image.new.out (changed.Done c.in-Done.commands)) (c.law_of_one_text.ensures.same i j c.requires.one_text) (rw c.in-Done.is at c.in_ok-change_image.ensures.changed))
    c.in_ok-write_changes-in-Done.ensures.ok

pub returns-in-Told-clause-answered : goal.returns-in-Told-clause-answered
returns-in-Told-clause-answered c =
    let i = image_of c.args.old.now in
    let j = image_of c.args.image.now in
    told_answer i (image_of c.change_image.new.image) c.args.script.now c.change_image.new.out c.in-Told.status
    (subst (λ (k : ImageOf (List ℕ)). IsChanged k c.args.script.now (image_of c.change_image.new.image) c.change_image.new.out (changed.Told c.in-Told.status)) (c.law_of_one_text.ensures.same i j c.requires.one_text) (rw c.in-Told.is at c.in_ok-change_image.ensures.changed))

pub returns-in_err-write_changes-in-Done-clause-kept : goal.returns-in_err-write_changes-in-Done-clause-kept
returns-in_err-write_changes-in-Done-clause-kept c =
    let e = err_from_is_err_and c.from_residual-in_err-write_changes-in-Done.result c.from_residual-in_err-write_changes-in-Done.ensures.1 in
    let empty = nothing_sent (image_of c.args.image.now) (image_of c.change_image.new.image) c.args.script.now c.change_image.new.out c.in-Done.commands (rw c.in-Done.is at c.in_ok-change_image.ensures.changed) in
    rw e.1 (c.in_err-write_changes-in-Done.ensures.err ∙ empty ∙ sym c.requires.empty)
