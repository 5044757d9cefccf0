use Rattle.std.proofs.Common.{◌≡◌, ◌++◌, ◌∷◌, [], ◌&&◌, not, ℕ, take, nat_eq, if◌then◌else◌}
use Rattle.std.specs.List.{list_any}
use Rattle.reference_index.specs.Rows.{mentions}
use Rattle.reference_index.specs.Lists.{list_of}
use Rattle.reference_index.proofs.lists.enter.Given as goal

abbrev pub invariant-loop-name : goal.invariant-loop-name
invariant-loop-name l =
    (n : ℕ) → list_of l.lists.items n ≡ list_of l.initial.lists.items n ++ (if list_any (nat_eq n) (take l.name-index l.fresh.names) && not (mentions l.rows n l.fresh.place) then l.fresh.place ∷ [] else [])
