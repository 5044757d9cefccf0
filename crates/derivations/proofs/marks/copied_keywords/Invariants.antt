use Rattle.std.proofs.Common.{◌≡◌, take, map}
use Rattle.patterns.specs.View.{keyword_of}
use Rattle.derivations.proofs.marks.copied_keywords.Given as goal

abbrev pub invariant-loop-keyword : goal.invariant-loop-keyword
invariant-loop-keyword l = map keyword_of l.copied.items ≡ map keyword_of (take l.keyword-index l.keywords)
