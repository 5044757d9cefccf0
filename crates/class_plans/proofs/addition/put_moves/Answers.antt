use Rattle.std.proofs.Common.{◌++◌, [], option_map, ap, sym, ◌∙◌}
use Rattle.std.specs.List.{cons_option}
use Rattle.std.proofs.lemmas.List.{append-nil}
use Rattle.change_set.specs.declared.change.Change.TheVariants as change
use Rattle.class_plans.specs.Added.{moved_under}
use Rattle.class_plans.proofs.Moves.{moves-more}
use Rattle.class_plans.proofs.addition.put_moves.Goals as goal
use Rattle.class_plans.proofs.addition.put_moves.Goals.{in-Some+in_ok-push, in_default}

pub loop-id-preserved : goal.loop-id-preserved
loop-id-preserved c =
    moves-more (moved_under c.args.image.now c.args.names.now c.args.superclass) c.classes-id-items.result.now c.loop-id.id-index c.id-item.result c.args.changes.now c.loop-id.changes c.match-branch-2.changes
    c.loop-id-test.true c.id-item.is c.loop-id.invariant (
    elim c.match-branch-2.branch [
      | in-Some+in_ok-push w ↦
          w.changes-is ∙ w.in_ok-push.ensures.ok ∙ ap (λ o. c.loop-id.changes ++ cons_option (option_map (change.Class c.id-item.result) o) []) (sym w.in-Some.is ∙ c.in_ok-rec.ensures)
      | in_default w ↦
          w.changes-is ∙ sym (append-nil c.loop-id.changes) ∙ ap (λ o. c.loop-id.changes ++ cons_option (option_map (change.Class c.id-item.result) o) []) (sym w.in_default.is ∙ c.in_ok-rec.ensures)
    ])
