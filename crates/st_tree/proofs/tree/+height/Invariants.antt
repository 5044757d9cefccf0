use Rattle.std.proofs.Common.{◌≡◌, ◌≤◌, min, max, drop}
use Rattle.tree_model.specs.Tree.{trees_of}
use Rattle.tree_model.specs.Measure.{trees_height, messages_height, statements_height}
use Rattle.st_tree.specs.View.{messages_of, statements_of}
use Rattle.st_tree.proofs.tree.+height.Given as goal

abbrev pub invariant-Nodes::height-loop-node : goal.invariant-Nodes::height-loop-node
invariant-Nodes::height-loop-node l =
    (l.most ≤ 18446744073709551615) × (min (max l.most (trees_height (trees_of (drop l.node-index l.node-items)))) 18446744073709551615 ≡ min (trees_height (trees_of l.self)) 18446744073709551615)

abbrev pub invariant-Messages::height-loop-message : goal.invariant-Messages::height-loop-message
invariant-Messages::height-loop-message l =
    (l.most ≤ 18446744073709551615) × (min (max l.most (messages_height (messages_of (drop l.message-index l.message-items)))) 18446744073709551615 ≡ min (messages_height (messages_of l.self)) 18446744073709551615)

abbrev pub invariant-Statements::height-loop-statement : goal.invariant-Statements::height-loop-statement
invariant-Statements::height-loop-statement l =
    (l.most ≤ 18446744073709551615) × (min (max l.most (statements_height (statements_of (drop l.statement-index l.statement-items)))) 18446744073709551615 ≡ min (statements_height (statements_of l.self)) 18446744073709551615)
