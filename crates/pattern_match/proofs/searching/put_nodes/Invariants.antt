use Rattle.std.proofs.Common.{◌≡◌, ◌++◌, drop}
use Rattle.tree_model.specs.Tree.{trees_of}
use Rattle.pattern_model.specs.MatchTree.{numbered}
use Rattle.pattern_match.specs.Gathering.{parts_from}
use Rattle.pattern_match.proofs.searching.put_nodes.Given as goal

abbrev pub invariant-loop-node : goal.invariant-loop-node
invariant-loop-node l = parts_from l.parts.items ++ numbered l.step (trees_of (drop l.node-index l.nodes)) ≡ parts_from l.initial.parts.items ++ numbered l.first (trees_of l.nodes)
