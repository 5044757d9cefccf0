use Rattle.std.proofs.Common.{◌≡◌, ◌++◌, take}
use Rattle.std.specs.List.{flat_map}
use Rattle.class_table.specs.Slots.{Slots}
use Rattle.std.specs.Prelude.{ℕ, nat_eq}
use Rattle.refusal_witnesses.specs.Witnesses.{a_node, where_true}
use Rattle.witness_lists.specs.Views.{owner_of, shown}
use Rattle.part_witnesses.proofs.declarations.nodes_times.Given as goal

abbrev pub invariant-loop-other : goal.invariant-loop-other
invariant-loop-other l =
    (s : Slots) → shown s l.found.items ≡ shown s l.initial.found.items ++ flat_map (λ (y : ℕ). where_true (nat_eq l.name y) (a_node (owner_of s l.owner) l.path)) (take l.other-index l.names)
