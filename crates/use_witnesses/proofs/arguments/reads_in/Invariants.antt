use Rattle.std.proofs.Common.{◌≡◌, ◌++◌, take}
use Rattle.std.specs.List.{flat_map}
use Rattle.placed_nodes.specs.declared.placed.PlacedNode.{PlacedNode}
use Rattle.st_tree.specs.View.{method_of}
use Rattle.parameter_questions.proofs.Reading.{formal_at}
use Rattle.refusal_witnesses.specs.Witnesses.{a_node, where_true}
use Rattle.witness_lists.specs.Views.{owner_of, shown}
use Rattle.use_witnesses.proofs.arguments.reads_in.Given as goal

abbrev pub invariant-loop-placed : goal.invariant-loop-placed
invariant-loop-placed l =
    shown l.image l.found.items
    ≡ shown l.image l.initial.found.items ++ flat_map (λ (p : PlacedNode). where_true (formal_at l.image.names (method_of l.tree) l.name p.path l.name) (a_node (owner_of l.image l.owner) p.path)) (take l.placed-index l.placed-items)
