use Rattle.std.proofs.Common.{◌≡◌, drop}
use Rattle.std.specs.List.{list_any}
use Rattle.code_conditions.specs.HighCode.{is_place_high}
use Rattle.code_conditions.proofs.abstracted.is_any_high.Given as goal

abbrev pub invariant-loop-place : goal.invariant-loop-place
invariant-loop-place g l = list_any (is_place_high l.image l.abstraction) (drop l.place-index l.places) ≡ list_any (is_place_high l.image l.abstraction) l.places
