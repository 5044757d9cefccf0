use Rattle.std.proofs.Common.{◌≡◌, ◌++◌, take}
use Rattle.std.specs.List.{flat_map}
use Rattle.placed_nodes.specs.declared.placed.PlacedNode.{PlacedNode}
use Rattle.refusal_witnesses.specs.Witnesses.{a_node, where_true}
use Rattle.witness_lists.specs.Views.{owner_of, shown}
use Rattle.part_questions.specs.Faults.{is_at_fault}
use Rattle.part_witnesses.proofs.parts.nodes_at_fault.Given as goal

abbrev pub invariant-loop-placed : goal.invariant-loop-placed
invariant-loop-placed l =
    shown l.image l.found.items
    ≡ shown l.image l.initial.found.items ++ flat_map (λ (p : PlacedNode). where_true (is_at_fault l.asked l.fault (p.path, p.node.now)) (a_node (owner_of l.image l.owner) p.path)) (take l.placed-index l.placed-items)
