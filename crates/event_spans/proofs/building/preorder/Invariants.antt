-- What stays where the events are read from the last to the first.
use Rattle.std.proofs.Common.{◌≡◌, [], reverse, length}
use Rattle.event_spans.specs.Building.{back, state}
use Rattle.event_spans.proofs.building.preorder.Given as goal

abbrev pub invariant-events : goal.invariant-events
invariant-events l = back l.fn.events (state [] []) ≡ back l.rest (state l.waiting.items (reverse l.places.items))

abbrev pub decreases-events : goal.decreases-events
decreases-events l = length l.rest
