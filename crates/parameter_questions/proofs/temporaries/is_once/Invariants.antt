use Rattle.std.proofs.Common.{◌≡◌, ◌+◌, ◌≤◌, length, drop}
use Rattle.std.specs.Prelude.{nat_eq, filter}
use Rattle.parameter_questions.proofs.temporaries.is_once.Given as goal

abbrev pub invariant-loop-other : goal.invariant-loop-other
invariant-loop-other l =
    (l.count ≤ l.other-index) × (l.count + length (filter (nat_eq l.name) (drop l.other-index l.names)) ≡ length (filter (nat_eq l.name) l.names))
