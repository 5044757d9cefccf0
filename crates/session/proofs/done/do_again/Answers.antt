use Rattle.std.proofs.Common.{sym, subst, ◌∙◌}
use Rattle.class_table.specs.Slots.{Slots}
use Rattle.session.specs.Log.{done_again, taken_back, left_back, CanGoBack}
use Rattle.session.proofs.Kept.{went-forth}
use Rattle.session.proofs.done.do_again.Goals as goal

pub undo_each-requires : goal.undo_each-requires
undo_each-requires g c =
    let s = c.args.image.now in
    let ds = c.args.commands.now in
    subst (λ (z : Slots). CanGoBack z c.redo_each.new.commands) (sym c.redo_each.ensures.image) (
    subst (CanGoBack (done_again s ds)) (sym c.redo_each.ensures.commands) (went-forth s ds c.requires.closed c.requires.orderly c.requires.can).can)

pub returns-in-Err-clause-same_image : goal.returns-in-Err-clause-same_image
returns-in-Err-clause-same_image g c =
    let s = c.args.image.now in
    let ds = c.args.commands.now in
    c.undo_each.ensures.image ∙ (λ i. taken_back (c.redo_each.ensures.image i) (c.redo_each.ensures.commands i)) ∙ (went-forth s ds c.requires.closed c.requires.orderly c.requires.can).slots

pub returns-in-Err-clause-same_commands : goal.returns-in-Err-clause-same_commands
returns-in-Err-clause-same_commands g c =
    let s = c.args.image.now in
    let ds = c.args.commands.now in
    c.undo_each.ensures.commands ∙ (λ i. left_back (c.redo_each.ensures.image i) (c.redo_each.ensures.commands i)) ∙ (went-forth s ds c.requires.closed c.requires.orderly c.requires.can).left
