use Rattle.std.proofs.Common.{nat_eq}
use Rattle.std.proofs.lemmas.List.Folds.{list_any_more}
use Rattle.reference_index.specs.Rows.{mentions}
use Rattle.reference_index.proofs.ListLemmas.{settled-more}
use Rattle.reference_index.proofs.lists.settle_each.Goals as goal

pub loop-name-preserved : goal.loop-name-preserved
loop-name-preserved c =
    λ n. rw (list_any_more (nat_eq n) c.args.names.now c.loop-name.name-index 0 c.loop-name-test.true)
    (settled-more (mentions c.args.rows.now n) _ _ _ _ _ (c.loop-name.invariant n) (c.settle.ensures n))
