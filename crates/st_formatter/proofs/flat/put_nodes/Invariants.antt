use Rattle.std.proofs.Common.{◌≡◌, ◌+◌, ◌≤◌, ◌&&◌, drop}
use Rattle.tree_model.specs.Tree.{trees_of}
use Rattle.tree_model.specs.Measure.{trees_weight}
use Rattle.text_model.specs.Flat.{are_trees_flat}
use Rattle.st_formatter.specs.Waiting.{trees_at}
use Rattle.st_formatter.proofs.flat.put_nodes.Given as goal

abbrev pub invariant-loop-node : goal.invariant-loop-node
invariant-loop-node l =
    let rest = trees_of (drop l.node-index l.nodes) in
    record {
      flat : (are_trees_flat (trees_at l.waiting.items) && are_trees_flat rest) ≡ (are_trees_flat (trees_at l.initial.waiting.items) && are_trees_flat (trees_of l.nodes));
      weight : trees_weight (trees_at l.waiting.items) + trees_weight rest ≤ trees_weight (trees_at l.initial.waiting.items) + trees_weight (trees_of l.nodes);
    }
