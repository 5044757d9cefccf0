use Rattle.std.proofs.Common.{◌≡◌, drop}
use Rattle.tree_model.specs.Tree.{trees_of}
use Rattle.scope_model.specs.Control.{are_plain_blocks}
use Rattle.st_scope.proofs.control.are_plain_blocks.Given as goal

abbrev pub invariant-loop-node : goal.invariant-loop-node
invariant-loop-node l = are_plain_blocks (trees_of l.nodes) ≡ are_plain_blocks (trees_of (drop l.node-index l.nodes))
