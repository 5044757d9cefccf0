use Rattle.std.proofs.Common.{◌≡◌, ◌++◌, reverse, vec_len}
use Rattle.draft_orders.proofs.gap.shorten.Given as goal

abbrev pub invariant-loop-front : goal.invariant-loop-front
invariant-loop-front g l = l.front.items ++ reverse l.back.items ≡ l.fn.front.items ++ reverse l.fn.back.items

abbrev pub decreases-loop-front : goal.decreases-loop-front
decreases-loop-front g l = vec_len l.front
