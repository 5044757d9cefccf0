use Rattle.std.proofs.Common.{◌≡◌, ◌++◌, take}
use Rattle.std.specs.List.{flat_map}
use Rattle.parameter_questions.specs.Codes.{means_in}
use Rattle.placed_nodes.specs.declared.placed.PlacedNode.{PlacedNode}
use Rattle.refusal_witnesses.specs.Witnesses.{a_node, where_true}
use Rattle.witness_lists.specs.Views.{owner_of, shown}
use Rattle.use_witnesses.specs.Uses.{is_use}
use Rattle.use_witnesses.proofs.uses.uses_in_code.Given as goal

abbrev pub invariant-loop-placed : goal.invariant-loop-placed
invariant-loop-placed l =
    shown l.image l.found.items
    ≡ shown l.image l.initial.found.items ++ flat_map (λ (p : PlacedNode). where_true (is_use l.what (means_in l.image l.code) (p.path, p.node.now)) (a_node (owner_of l.image l.owner) p.path)) (take l.placed-index l.placed-items)
