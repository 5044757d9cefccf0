use Rattle.std.proofs.Common.{◌≡◌, ◌++◌, ℕ, take}
use Rattle.std.specs.List.{flat_map}
use Rattle.reference_index.specs.Fresh.{comes}
use Rattle.reference_index.specs.Lists.{list_of}
use Rattle.reference_index.proofs.lists.enter_all.Given as goal

abbrev pub invariant-loop-place : goal.invariant-loop-place
invariant-loop-place l =
    (n : ℕ) → list_of l.lists.items n ≡ list_of l.initial.lists.items n ++ flat_map (comes l.rows n) (take l.place-index l.fresh)
