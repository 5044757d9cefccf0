use Rattle.std.proofs.Common.{◌≡◌, ◌+◌, ◌-◌, ℕ}
use Rattle.reference_index.specs.Lists.{list_of}
use Rattle.reference_index.proofs.lists.put.Given as goal

abbrev pub invariant-loop-alloc : goal.invariant-loop-alloc
invariant-loop-alloc l = (n : ℕ) → list_of l.lists.items n ≡ list_of l.initial.lists.items n

abbrev pub decreases-loop-alloc : goal.decreases-loop-alloc
decreases-loop-alloc l = l.name-inside.0 + 1 - l.lists.len
