use Rattle.std.proofs.Common.{◌≡◌, ◌<◌, ◌≤◌, ℕ, filter}
use Rattle.reference_index.specs.Rows.{mentions}
use Rattle.reference_index.specs.Lists.{list_of}
use Rattle.reference_index.proofs.lists.settle_all.Given as goal

abbrev pub invariant-loop-name : goal.invariant-loop-name
invariant-loop-name l =
    ((n : ℕ) → n < l.name → list_of l.lists.items n ≡ filter (mentions l.rows n) (list_of l.initial.lists.items n))
    × ((n : ℕ) → l.name ≤ n → list_of l.lists.items n ≡ list_of l.initial.lists.items n)
