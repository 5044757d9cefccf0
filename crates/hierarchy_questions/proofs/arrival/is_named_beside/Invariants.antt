use Rattle.std.proofs.Common.{◌≡◌, drop}
use Rattle.std.specs.List.{list_any}
use Rattle.hierarchy_questions.specs.Arrivals.{is_place_named}
use Rattle.hierarchy_questions.proofs.arrival.is_named_beside.Given as goal

abbrev pub invariant-loop-place : goal.invariant-loop-place
invariant-loop-place g l =
    list_any (is_place_named l.image l.arrival) (drop l.place-index l.places) ≡ list_any (is_place_named l.image l.arrival) l.places
