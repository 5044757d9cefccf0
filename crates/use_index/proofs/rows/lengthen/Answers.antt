use Rattle.std.proofs.Common.{arith, ◌∙◌}
use Rattle.std.proofs.lemmas.Grind.{common_steps}
use Rattle.use_index.proofs.RowLemmas.{row-push}
use Rattle.use_index.proofs.rows.lengthen.Goals as goal

pub loop-alloc-preserved : goal.loop-alloc-preserved
loop-alloc-preserved c = (
  (λ k. rw (c.in_ok-push.ensures.items, c.new.ensures) (row-push _ k ∙ c.loop-alloc.invariant.0 k)),
  grind (arith, common_steps),
  grind (arith, common_steps),
)
