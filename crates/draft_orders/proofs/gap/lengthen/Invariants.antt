use Rattle.std.proofs.Common.{◌≡◌, ◌≤◌, ◌++◌, length, reverse, vec_len}
use Rattle.draft_orders.proofs.gap.lengthen.Given as goal

abbrev pub invariant-loop-back : goal.invariant-loop-back
invariant-loop-back g l = (l.front.items ++ reverse l.back.items ≡ l.fn.front.items ++ reverse l.fn.back.items) × (length l.front.items ≤ l.count)

abbrev pub decreases-loop-back : goal.decreases-loop-back
decreases-loop-back g l = vec_len l.back
