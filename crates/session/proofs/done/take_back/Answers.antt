use Rattle.std.proofs.Common.{sym, subst, ◌∙◌}
use Rattle.class_table.specs.Slots.{Slots}
use Rattle.session.specs.Log.{taken_back, done_again, left_again, CanGoForth}
use Rattle.session.proofs.Kept.{went-back}
use Rattle.session.proofs.done.take_back.Goals as goal

pub redo_each-requires : goal.redo_each-requires
redo_each-requires g c =
    let s = c.args.image.now in
    let ds = c.args.commands.now in
    subst (λ (z : Slots). CanGoForth z c.undo_each.new.commands) (sym c.undo_each.ensures.image) (
    subst (CanGoForth (taken_back s ds)) (sym c.undo_each.ensures.commands) (went-back s ds c.requires.closed c.requires.orderly c.requires.can).can)

pub returns-in-Err-clause-same_image : goal.returns-in-Err-clause-same_image
returns-in-Err-clause-same_image g c =
    let s = c.args.image.now in
    let ds = c.args.commands.now in
    c.redo_each.ensures.image ∙ (λ i. done_again (c.undo_each.ensures.image i) (c.undo_each.ensures.commands i)) ∙ (went-back s ds c.requires.closed c.requires.orderly c.requires.can).slots

pub returns-in-Err-clause-same_commands : goal.returns-in-Err-clause-same_commands
returns-in-Err-clause-same_commands g c =
    let s = c.args.image.now in
    let ds = c.args.commands.now in
    c.redo_each.ensures.commands ∙ (λ i. left_again (c.undo_each.ensures.image i) (c.undo_each.ensures.commands i)) ∙ (went-back s ds c.requires.closed c.requires.orderly c.requires.can).left
