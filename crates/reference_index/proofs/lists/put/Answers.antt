use Rattle.std.proofs.Common.{◌∙◌}
use Rattle.reference_index.proofs.RowLemmas.{list-push}
use Rattle.reference_index.proofs.lists.put.Goals as goal

pub loop-alloc-preserved : goal.loop-alloc-preserved
loop-alloc-preserved c = λ n. rw (c.in_ok-push.ensures.items, c.new.ensures) (list-push _ n ∙ c.loop-alloc.invariant n)
