use Rattle.std.proofs.Common.{◌≡◌, ◌++◌, take}
use Rattle.std.specs.List.{flat_map}
use Rattle.placed_nodes.specs.declared.placed.PlacedNode.{PlacedNode}
use Rattle.witness_lists.specs.Views.{shown}
use Rattle.method_witnesses.specs.Moved.{difference_at}
use Rattle.method_witnesses.proofs.meanings.differences.Given as goal

abbrev pub invariant-loop-placed : goal.invariant-loop-placed
invariant-loop-placed l =
    shown l.image l.found.items
    ≡ shown l.image l.initial.found.items ++ flat_map (λ (p : PlacedNode). difference_at l.image l.moved (p.path, p.node.now)) (take l.placed-index l.placed-items)
