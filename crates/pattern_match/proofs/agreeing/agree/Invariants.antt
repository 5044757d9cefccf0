use Rattle.std.proofs.Common.{drop, map}
use Rattle.std.specs.List.{AllByRecursion}
use Rattle.pattern_match.specs.Gathering.{place_of}
use Rattle.pattern_match.specs.FirstPlaces.{IsFirst}
use Rattle.pattern_match.proofs.agreeing.agree.Given as goal

abbrev pub invariant-loop-i : goal.invariant-loop-i
invariant-loop-i l = AllByRecursion (IsFirst (map place_of l.places)) (drop l.i (map place_of l.places)) → AllByRecursion (IsFirst (map place_of l.places)) (map place_of l.places)
