use Rattle.std.proofs.Common.{◌≡◌, [], drop}
use Rattle.event_checks.specs.Heights.{first_tall_in}
use Rattle.event_checks.proofs.heights.tall_in_events.Given as goal

abbrev pub invariant-loop-event : goal.invariant-loop-event
invariant-loop-event l = first_tall_in 0 [] l.events ≡ first_tall_in l.depth l.heights.items (drop l.event-index l.events)
