use Rattle.std.proofs.Common.{◌≡◌, drop}
use Rattle.std.specs.List.{list_any}
use Rattle.parameter_questions.specs.Questions.{is_place_found}
use Rattle.parameter_questions.proofs.places.is_found_at.Given as goal

abbrev pub invariant-loop-place : goal.invariant-loop-place
invariant-loop-place g l =
    list_any (is_place_found l.image l.question.selector l.question.fault) (drop l.place-index l.places)
    ≡ list_any (is_place_found l.image l.question.selector l.question.fault) l.places
