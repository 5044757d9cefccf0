use Rattle.std.proofs.Common.{◌≡◌, ◌++◌, take}
use Rattle.std.specs.List.{flat_map}
use Rattle.placed_nodes.specs.declared.placed.PlacedNode.{PlacedNode}
use Rattle.part_witnesses.specs.Changed.{declared_at}
use Rattle.witness_lists.specs.Views.{owner_of, shown}
use Rattle.part_witnesses.proofs.declarations.block_declarations.Given as goal

abbrev pub invariant-loop-placed : goal.invariant-loop-placed
invariant-loop-placed l =
    shown l.image l.found.items ≡ shown l.image l.initial.found.items ++ flat_map (λ (p : PlacedNode). declared_at (owner_of l.image l.owner) l.name (p.path, p.node.now)) (take l.placed-index l.placed-items)
