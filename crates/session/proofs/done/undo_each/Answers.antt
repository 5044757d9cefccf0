use Rattle.std.proofs.Common.{◌≡◌, sym, ap, subst, ◌∙◌, arith}
use Rattle.std.proofs.lemmas.Grind.{common_steps}
use Rattle.change_set.specs.Changes.{all_undone, inverses_undone, CanUndoAll}
use Rattle.session.specs.Log.{DoneCommand, taken_back, left_back}
use Rattle.session.proofs.Loops.{undone_at, can_turn_back, after_turn}
use Rattle.session.proofs.done.undo_each.Goals as goal

pub undo_all-requires : goal.undo_all-requires
undo_all-requires c =
    let s = c.loop-number.image in
    let d : DoneCommand = c.index-commands-number.result in
    let same : d.changes ≡ c.command.inside.changes = ap (λ (z : DoneCommand). z.changes) (c.index-commands-number.is ∙ sym c.command.view_is) in
    subst (CanUndoAll s) same (can_turn_back s c.loop-number.commands c.loop-number.number d c.loop-number-test.true c.loop-number.invariant.within c.index-commands-number.is c.loop-number.invariant.can).can

pub loop-number-preserved : goal.loop-number-preserved
loop-number-preserved c =
    let s = c.loop-number.image in
    let d : DoneCommand = c.index-commands-number.result in
    let same : c.command.inside.changes ≡ d.changes = ap (λ (z : DoneCommand). z.changes) (c.command.view_is ∙ sym c.index-commands-number.is) in
    let new : DoneCommand = record { changes = c.undo_all.new.changes; renames = c.command.inside.renames } in
    let left : new ≡ undone_at s d = λ i. record { changes = (c.undo_all.ensures.changes ∙ ap (inverses_undone s) same) i; renames = ap (λ (z : DoneCommand). z.renames) (c.command.view_is ∙ sym c.index-commands-number.is) i } in
    let after = after_turn s c.undo_all.new.image c.loop-number.commands c.loop-number.number d new (taken_back c.args.image.now c.args.commands.now) (left_back c.args.image.now c.args.commands.now) c.loop-number-test.true c.loop-number.invariant.within c.index-commands-number.is
    (c.undo_all.ensures.image ∙ ap (all_undone s) same) left (record { can = c.loop-number.invariant.can; slots = c.loop-number.invariant.slots; left = c.loop-number.invariant.left }) in
    record { within = grind (arith, common_steps); can = after.can; slots = after.slots; left = after.left }
