use Rattle.std.proofs.Common.{◌≡◌, ◌≤◌, ◌+◌, ◌-◌, ℕ, length, take}
use Rattle.use_index.specs.Rows.{row_of}
use Rattle.use_index.proofs.rows.lengthen.Given as goal

abbrev pub invariant-loop-alloc : goal.invariant-loop-alloc
invariant-loop-alloc l =
    ((k : ℕ) → row_of l.rows.items k ≡ row_of l.initial.rows.items k)
    × (length l.initial.rows.items ≤ length l.rows.items)
    × (take (length l.initial.rows.items) l.rows.items ≡ l.initial.rows.items)

abbrev pub decreases-loop-alloc : goal.decreases-loop-alloc
decreases-loop-alloc l = l.at + 1 - l.rows.len
