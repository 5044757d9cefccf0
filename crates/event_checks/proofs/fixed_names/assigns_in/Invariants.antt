use Rattle.std.proofs.Common.{◌≡◌, drop}
use Rattle.event_checks.specs.FixedNames.{texts, assigns_in}
use Rattle.event_checks.proofs.fixed_names.assigns_in.Given as goal

abbrev pub invariant-loop-event : goal.invariant-loop-event
invariant-loop-event l = assigns_in (texts l.names) l.events ≡ assigns_in (texts l.names) (drop l.event-index l.events)
