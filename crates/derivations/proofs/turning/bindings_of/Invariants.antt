use Rattle.std.proofs.Common.{take, map}
use Rattle.pattern_match.specs.Bound.{held_of}
use Rattle.filled_patterns.specs.Left.{Holds}
use Rattle.derivations.proofs.turning.bindings_of.Given as goal

abbrev pub invariant-loop-one : goal.invariant-loop-one
invariant-loop-one l = Holds (map held_of (take l.one-index l.held)) l.bindings.items
