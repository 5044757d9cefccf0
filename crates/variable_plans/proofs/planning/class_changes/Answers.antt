use Rattle.std.proofs.Common.{◌≡◌, ◌++◌, [], Option, option_map, sym, ap, ◌∙◌}
use Rattle.std.specs.List.{cons_option}
use Rattle.std.proofs.lemmas.List.{append-nil}
use Rattle.class_table.specs.declared.record.ClassRec.{ClassRec}
use Rattle.change_set.specs.declared.change.Change.TheVariants as change
use Rattle.variable_plans.specs.Records.{record_given}
use Rattle.variable_plans.proofs.Written.{one-more}
use Rattle.variable_plans.proofs.planning.class_changes.Goals as goal
use Rattle.variable_plans.proofs.planning.class_changes.Goals.{in-Some-2+in_ok-push, in_default-2}

pub loop-id-preserved : goal.loop-id-preserved
loop-id-preserved c =
    let k = c.id-item.result in
    let put : c.match-branch-2.changes ≡ c.loop-id.changes ++ cons_option (option_map (change.Class k) c.in_ok-rec.field-0) [] =
    elim c.match-branch-2.branch [
      | in-Some-2+in_ok-push w ↦ w.changes-is ∙ w.in_ok-push.ensures.ok ∙ ap (λ (o : Option ClassRec). c.loop-id.changes ++ cons_option (option_map (change.Class k) o) []) (sym w.in-Some-2.is)
      | in_default-2 w ↦ w.changes-is ∙ sym (ap (λ (o : Option ClassRec). c.loop-id.changes ++ cons_option (option_map (change.Class k) o) []) w.in_default-2.is ∙ append-nil c.loop-id.changes)
    ] in
    one-more (record_given c.args.image.now c.in-Some.route) c.classes-id-items.result.now c.loop-id.id-index k c.in_ok-rec.field-0 c.loop-id.changes c.match-branch-2.changes c.loop-id-test.true c.id-item.is c.in_ok-rec.ensures c.loop-id.invariant put
