use Rattle.std.proofs.Common.{◌≡◌, drop}
use Rattle.std.specs.List.{list_any}
use Rattle.event_checks.specs.FixedNames.{is_target}
use Rattle.event_checks.proofs.fixed_names.has_target.Given as goal

abbrev pub invariant-loop-event : goal.invariant-loop-event
invariant-loop-event l = list_any is_target l.events ≡ list_any is_target (drop l.event-index l.events)
