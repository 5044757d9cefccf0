use Rattle.std.proofs.Common.{◌≡◌, ◌&&◌, filter, not, take}
use Rattle.std.specs.Prelude.{nat_eq}
use Rattle.variable_plans.proofs.records.moved_names.Given as goal

abbrev pub invariant-loop-name : goal.invariant-loop-name
invariant-loop-name l = l.found ≡ filter (λ y. not (l.leaves && nat_eq l.variable y)) (take l.name-index l.name-items)
