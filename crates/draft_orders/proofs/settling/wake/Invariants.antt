use Rattle.std.proofs.Common.{◌≡◌}
use Rattle.draft_orders.specs.Chains.{is_below, last_before}
use Rattle.draft_orders.specs.Ready.{stands}
use Rattle.draft_orders.specs.Settling.{is_there}
use Rattle.draft_orders.proofs.Chained.{reach}
use Rattle.draft_orders.proofs.Waking.{Woken}
use Rattle.draft_orders.proofs.settling.wake.Given as goal

abbrev pub invariant-loop-next : goal.invariant-loop-next
invariant-loop-next l =
    (l.next ≡ last_before (is_below l.chains.above.items l.name) (reach l.next))
    × Woken (is_below l.chains.above.items l.name) (is_there l.slots) (stands l.fn.ready) (reach l.next) (stands l.ready)

abbrev pub decreases-loop-next : goal.decreases-loop-next
decreases-loop-next l = reach l.next
