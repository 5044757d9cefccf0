use Rattle.std.proofs.Common.{◌≡◌, ◌++◌, drop}
use Rattle.event_checks.specs.FixedNames.{texts, parameters_in}
use Rattle.event_checks.proofs.fixed_names.put_all_parameters.Given as goal

abbrev pub invariant-loop-event : goal.invariant-loop-event
invariant-loop-event l = texts l.fn.names.items ++ parameters_in l.events ≡ texts l.names.items ++ parameters_in (drop l.event-index l.events)
