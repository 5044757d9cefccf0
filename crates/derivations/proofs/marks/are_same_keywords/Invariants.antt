use Rattle.std.proofs.Common.{◌≡◌, drop, map}
use Rattle.std.specs.Cmp.Lexicographic.{pointwise}
use Rattle.patterns.specs.View.{keyword_of}
use Rattle.derivations.specs.Signs.{same_keyword}
use Rattle.derivations.proofs.marks.are_same_keywords.Given as goal

abbrev pub invariant-loop-i : goal.invariant-loop-i
invariant-loop-i l = pointwise same_keyword (map keyword_of (drop l.i l.a)) (map keyword_of (drop l.i l.b)) ≡ pointwise same_keyword (map keyword_of l.a) (map keyword_of l.b)
