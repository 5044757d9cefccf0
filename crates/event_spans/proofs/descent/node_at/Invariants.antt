-- What stays where steps are followed.
use Rattle.std.proofs.Common.{◌≡◌, drop, None}
use Rattle.event_spans.specs.Descent.{descend}
use Rattle.event_spans.proofs.descent.node_at.Given as goal

abbrev pub invariant-steps : goal.invariant-steps
invariant-steps l = descend None l.places l.path ≡ descend l.found l.nodes (drop l.step-index l.path)
