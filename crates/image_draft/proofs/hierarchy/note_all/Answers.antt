use Rattle.std.proofs.Common.{sym, ◌∙◌}
use Rattle.image_draft.specs.NameSets.{has}
use Rattle.image_draft.proofs.NameTests.{noted_one, was_new}
use Rattle.image_draft.proofs.hierarchy.note_all.Goals as goal

pub loop-name-preserved : goal.loop-name-preserved
loop-name-preserved c =
    noted_one (has c.args.set.now) c.args.names.now c.loop-name.rest.now c.in-Some.others.now c.in-Some.name.now c.loop-name.set c.note.new.self c.loop-name.invariant c.in-Some.ensures.cases.0
    (was_new (has c.loop-name.set c.in-Some.name.now) (sym c.in_ok-note.ensures.fresh ∙ c.if-not-branch.false)) c.in_ok-note.ensures.noted
