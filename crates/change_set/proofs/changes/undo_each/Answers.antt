use Rattle.std.proofs.Common.{◌≡◌, sym, ap, subst, ◌∙◌, arith}
use Rattle.std.proofs.lemmas.Grind.{common_steps}
use Rattle.change_set.specs.Change.{applied, inverse, CanApply}
use Rattle.change_set.specs.Changes.{all_undone, inverses_undone}
use Rattle.change_set.proofs.Loops.{can_turn_back, after_turn}
use Rattle.change_set.proofs.changes.undo_each.Goals as goal

pub apply_change-requires : goal.apply_change-requires
apply_change-requires c =
    let s = c.loop-number.image in
    subst (CanApply s) c.index-changes-number.is (can_turn_back s c.loop-number.changes c.loop-number.number c.index-changes-number.result c.loop-number-test.true c.loop-number.invariant.within c.index-changes-number.is c.loop-number.invariant.can)

pub loop-number-preserved : goal.loop-number-preserved
loop-number-preserved c =
    let s = c.loop-number.image in
    let image : c.apply_change.new.image ≡ applied s c.index-changes-number.result = c.apply_change.ensures.image ∙ ap (applied s) (sym c.index-changes-number.is) in
    let change : c.apply_change.new.change ≡ inverse s c.index-changes-number.result = c.apply_change.ensures.change ∙ ap (inverse s) (sym c.index-changes-number.is) in
    let after = after_turn s c.apply_change.new.image c.loop-number.changes c.loop-number.number c.index-changes-number.result c.apply_change.new.change (all_undone c.args.image.now c.args.changes.now) (inverses_undone c.args.image.now c.args.changes.now) c.loop-number-test.true c.loop-number.invariant.within c.index-changes-number.is image change
    (record { can = c.loop-number.invariant.can; image = c.loop-number.invariant.image; changes = c.loop-number.invariant.changes }) in
    record { within = grind (arith, common_steps); can = after.can; image = after.image; changes = after.changes }
