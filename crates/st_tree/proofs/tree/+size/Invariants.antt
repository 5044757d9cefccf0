use Rattle.std.proofs.Common.{◌≡◌, ◌≤◌, min, ◌+◌, drop}
use Rattle.tree_model.specs.Tree.{trees_of}
use Rattle.tree_model.specs.Measure.{trees_size, messages_size, statements_size}
use Rattle.st_tree.specs.View.{messages_of, statements_of}
use Rattle.st_tree.proofs.tree.+size.Given as goal

abbrev pub invariant-Nodes::size-loop-node : goal.invariant-Nodes::size-loop-node
invariant-Nodes::size-loop-node l =
    (l.sum ≤ 18446744073709551615) × (min (l.sum + (trees_size (trees_of (drop l.node-index l.node-items)))) 18446744073709551615 ≡ min (trees_size (trees_of l.self)) 18446744073709551615)

abbrev pub invariant-Messages::size-loop-message : goal.invariant-Messages::size-loop-message
invariant-Messages::size-loop-message l =
    (l.sum ≤ 18446744073709551615) × (min (l.sum + (messages_size (messages_of (drop l.message-index l.message-items)))) 18446744073709551615 ≡ min (messages_size (messages_of l.self)) 18446744073709551615)

abbrev pub invariant-Statements::size-loop-statement : goal.invariant-Statements::size-loop-statement
invariant-Statements::size-loop-statement l =
    (l.sum ≤ 18446744073709551615) × (min (l.sum + (statements_size (statements_of (drop l.statement-index l.statement-items)))) 18446744073709551615 ≡ min (statements_size (statements_of l.self)) 18446744073709551615)
