-- What stays where nodes are passed.
use Rattle.std.proofs.Common.{◌≡◌, [], drop}
use Rattle.event_spans.specs.Walk.{walked, node_found}
use Rattle.event_spans.proofs.search.node_found.Given as goal

abbrev pub invariant-loop-place : goal.invariant-loop-place
invariant-loop-place l = node_found l.span (walked [] l.places) ≡ node_found l.span (walked l.steps.items (drop l.place-index l.places))
