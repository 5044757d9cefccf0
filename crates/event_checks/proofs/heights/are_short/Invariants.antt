use Rattle.std.proofs.Common.{◌≡◌, drop}
use Rattle.event_checks.specs.Heights.{all_short}
use Rattle.event_checks.proofs.heights.are_short.Given as goal

abbrev pub invariant-loop-event : goal.invariant-loop-event
invariant-loop-event l = all_short 0 200 l.events ≡ all_short l.depth l.left (drop l.event-index l.events)
