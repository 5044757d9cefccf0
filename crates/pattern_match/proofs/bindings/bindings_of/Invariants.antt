use Rattle.std.proofs.Common.{◌≡◌, [], map}
use Rattle.pattern_match.specs.Gathering.{place_of}
use Rattle.pattern_match.specs.Bound.{held_of, with_others}
use Rattle.pattern_match.proofs.bindings.bindings_of.Given as goal

abbrev pub invariant-loop-i : goal.invariant-loop-i
invariant-loop-i l = with_others (map place_of l.places) l.i (map held_of l.bindings.items) ≡ with_others (map place_of l.places) 0 []
