-- What stays where nodes are read whole one after the other.
use Rattle.std.proofs.Common.{◌≡◌, reverse, length}
use Rattle.event_spans.specs.Building.{close}
use Rattle.event_spans.proofs.building.close.Given as goal

abbrev pub invariant-nodes : goal.invariant-nodes
invariant-nodes l = close l.fn.waiting.items (reverse l.fn.places.items) ≡ close l.waiting.items (reverse l.places.items)

abbrev pub decreases-nodes : goal.decreases-nodes
decreases-nodes l = length l.waiting.items
