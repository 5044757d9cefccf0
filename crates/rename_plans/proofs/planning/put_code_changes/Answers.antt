use Rattle.std.proofs.Common.{◌∙◌}
use Rattle.renamed_code.specs.ChangedCode.{change_at}
use Rattle.rename_plans.proofs.CodeSoFar.{one_more}
use Rattle.rename_plans.proofs.planning.put_code_changes.Goals as goal

pub loop-place-preserved : goal.loop-place-preserved
loop-place-preserved g c =
    one_more c.args.image.now c.args.command.now c.args.places.now c.loop-place.place-index c.place-item.result c.args.changes.now c.args.touched.now.items c.loop-place.changes c.loop-place.touched.items c.in_ok-change.change
    c.put_change.new.changes c.put_change.new.touched.items c.loop-place-test.true c.place-item.is
    (c.in_ok-change.ensures.change ∙ (λ j. change_at c.args.image.now (c.renamed_by.ensures j) (c.new_name.ensures j) c.place-item.result)) c.in_ok-put_change.ensures.changes c.in_ok-put_change.ensures.touched c.loop-place.invariant
