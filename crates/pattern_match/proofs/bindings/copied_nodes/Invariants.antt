use Rattle.std.proofs.Common.{◌≡◌, take}
use Rattle.pattern_match.proofs.bindings.copied_nodes.Given as goal

abbrev pub invariant-loop-node : goal.invariant-loop-node
invariant-loop-node l = l.items.items ≡ take l.node-index l.nodes
