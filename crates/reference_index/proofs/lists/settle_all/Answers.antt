use Rattle.std.proofs.Common.{arith}
use Rattle.std.proofs.lemmas.Bool.Decides.{nat_tests}
use Rattle.reference_index.proofs.lists.settle_all.Goals as goal

pub loop-name-preserved : goal.loop-name-preserved
loop-name-preserved c = (
  (λ n h. grind (arith, nat_tests, c.settle.ensures n, c.loop-name.invariant.0 n, c.loop-name.invariant.1 n)),
  (λ n h. grind (arith, nat_tests, c.settle.ensures n, c.loop-name.invariant.1 n)),
)
