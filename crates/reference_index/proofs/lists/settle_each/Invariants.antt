use Rattle.std.proofs.Common.{◌≡◌, ℕ, take, nat_eq, filter, if◌then◌else◌}
use Rattle.std.specs.List.{list_any}
use Rattle.reference_index.specs.Rows.{mentions}
use Rattle.reference_index.specs.Lists.{list_of}
use Rattle.reference_index.proofs.lists.settle_each.Given as goal

abbrev pub invariant-loop-name : goal.invariant-loop-name
invariant-loop-name l =
    (n : ℕ) → list_of l.lists.items n ≡ (if list_any (nat_eq n) (take l.name-index l.names) then filter (mentions l.rows n) (list_of l.initial.lists.items n) else list_of l.initial.lists.items n)
