use Rattle.std.proofs.Common.{◌≡◌, drop}
use Rattle.std.specs.List.{list_any}
use Rattle.method_questions.specs.Reached.{begins_at}
use Rattle.method_questions.proofs.reached.begins_at.Given as goal

abbrev pub invariant-loop-place : goal.invariant-loop-place
invariant-loop-place g l = list_any (begins_at l.image l.name l.selector) (drop l.place-index l.places) ≡ list_any (begins_at l.image l.name l.selector) l.places
