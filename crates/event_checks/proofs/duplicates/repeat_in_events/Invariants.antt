use Rattle.std.proofs.Common.{◌≡◌, drop}
use Rattle.event_checks.specs.Duplicates.{first_duplicate_in}
use Rattle.event_checks.proofs.duplicates.repeat_in_events.Given as goal

abbrev pub invariant-loop-event : goal.invariant-loop-event
invariant-loop-event l = first_duplicate_in l.events ≡ first_duplicate_in (drop l.event-index l.events)
