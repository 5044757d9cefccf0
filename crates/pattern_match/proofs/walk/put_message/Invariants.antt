use Rattle.std.proofs.Common.{◌≡◌, ◌++◌, drop}
use Rattle.tree_model.specs.Tree.{trees_of}
use Rattle.pattern_model.specs.MatchTree.{numbered}
use Rattle.pattern_match.specs.Gathering.{parts_from, under}
use Rattle.pattern_match.proofs.walk.put_message.Given as goal

abbrev pub invariant-loop-node : goal.invariant-loop-node
invariant-loop-node l =
    parts_from l.parts.items ++ under l.walk.steps.items (numbered l.step (trees_of (drop l.node-index l.arguments))) ≡ under l.walk.steps.items (numbered l.first (trees_of l.arguments))
