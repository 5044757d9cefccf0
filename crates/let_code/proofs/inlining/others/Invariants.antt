use Rattle.std.proofs.Common.{◌≡◌, take, not}
use Rattle.std.specs.Prelude.{nat_eq, filter}
use Rattle.let_code.proofs.inlining.others.Given as goal

abbrev pub invariant-loop-other : goal.invariant-loop-other
invariant-loop-other l = l.found ≡ filter (λ n. not (nat_eq l.name n)) (take l.other-index l.other-items)
