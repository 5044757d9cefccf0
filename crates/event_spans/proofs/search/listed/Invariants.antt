-- What stays where nodes are passed.
use Rattle.std.proofs.Common.{◌≡◌, [], ◌++◌, drop}
use Rattle.event_spans.specs.Walk.{walked, listed}
use Rattle.event_spans.proofs.search.listed.Given as goal

abbrev pub invariant-loop-place : goal.invariant-loop-place
invariant-loop-place l = listed (walked [] l.places) ≡ l.spans.items ++ listed (walked l.steps.items (drop l.place-index l.places))
