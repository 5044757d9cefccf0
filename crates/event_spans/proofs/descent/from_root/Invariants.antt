-- What stays where outermost nodes are passed.
use Rattle.std.proofs.Common.{◌≡◌}
use Rattle.event_spans.specs.Descent.{from_root}
use Rattle.event_spans.proofs.descent.from_root.Given as goal

abbrev pub invariant-roots : goal.invariant-roots
invariant-roots l = from_root l.number l.places ≡ from_root l.left l.rest

abbrev pub decreases-roots : goal.decreases-roots
decreases-roots l = l.left
