-- What stays where outermost nodes are passed.
use Rattle.std.proofs.Common.{◌≡◌, length}
use Rattle.event_spans.specs.Runs.{roots, ending}
use Rattle.event_spans.proofs.runs.ending.Given as goal

abbrev pub invariant-roots : goal.invariant-roots
invariant-roots l = ending 2 l.to (roots 0 l.places) ≡ ending l.number l.to (roots 0 l.rest)

abbrev pub decreases-roots : goal.decreases-roots
decreases-roots l = length l.rest
