use Rattle.std.proofs.Common.{◌≡◌, ◌+◌, drop}
use Rattle.part_questions.specs.Round.{innermost_from}
use Rattle.part_questions.proofs.places.innermost_from.Given as goal

abbrev pub invariant-loop-i : goal.invariant-loop-i
invariant-loop-i l = innermost_from l.found (l.i + 1) l.node (drop l.i l.path) ≡ innermost_from 0 1 l.initial.node l.path
