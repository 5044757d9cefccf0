-- What stays where nodes are passed.
use Rattle.std.proofs.Common.{◌≡◌, [], length}
use Rattle.event_spans.specs.Walk.{walked, run_found}
use Rattle.event_spans.proofs.search.run_found.Given as goal

abbrev pub invariant-nodes : goal.invariant-nodes
invariant-nodes l = run_found l.span (walked [] l.places) ≡ run_found l.span (walked l.steps.items l.rest)

abbrev pub decreases-nodes : goal.decreases-nodes
decreases-nodes l = length l.rest
