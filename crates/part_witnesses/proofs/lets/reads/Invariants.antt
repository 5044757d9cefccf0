use Rattle.std.proofs.Common.{◌≡◌, ◌++◌, take}
use Rattle.std.specs.List.{flat_map}
use Rattle.std.specs.Prelude.{ℕ, List, [], ◌∷◌}
use Rattle.refusal_witnesses.specs.Witnesses.{a_node}
use Rattle.witness_lists.specs.declared.witness.Owner.TheVariants as owner
use Rattle.witness_lists.specs.Views.{owner_of, shown}
use Rattle.part_witnesses.proofs.lets.reads.Given as goal

abbrev pub invariant-loop-read : goal.invariant-loop-read
invariant-loop-read l =
    shown l.image l.found.items ≡ shown l.image l.initial.found.items ++ flat_map (λ (r : List ℕ). a_node (owner_of l.image (owner.Method l.method.slot)) r ∷ []) (take l.read-index l.read-items)
