-- What stays where outermost nodes are passed.
use Rattle.std.proofs.Common.{◌≡◌, length}
use Rattle.event_spans.specs.Runs.{roots, run_of}
use Rattle.event_spans.proofs.runs.run_in.Given as goal

abbrev pub invariant-roots : goal.invariant-roots
invariant-roots l = run_of 0 l.span (roots 0 l.places) ≡ run_of l.first l.span (roots 0 l.rest)

abbrev pub decreases-roots : goal.decreases-roots
decreases-roots l = length l.rest
