use Rattle.std.proofs.Common.{◌≡◌, drop}
use Rattle.event_checks.specs.Scopes.{Scoped, IsScopes, first_fixed_in}
use Rattle.event_checks.proofs.assignments.fixed_in_events.Given as goal

abbrev pub invariant-loop-event : goal.invariant-loop-event
invariant-loop-event l = (known : Scoped) → IsScopes l.fn.scopes known.now known.outer →
    (here : Scoped) × IsScopes l.scopes here.now here.outer × (first_fixed_in known l.events ≡ first_fixed_in here (drop l.event-index l.events))
