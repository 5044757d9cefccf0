use Rattle.std.proofs.Common.{◌+◌, ◌*◌, ◌≤◌}
use Rattle.tree_model.specs.Tree.{trees_of}
use Rattle.tree_model.specs.Measure.{weight, trees_weight, messages_weight, statements_weight}
use Rattle.st_tree.specs.View.{tree_of, messages_of, statements_of}
use Rattle.st_tree.proofs.+node.Given as goal

-- what is dropped by a call is lighter each time
abbrev pub decreases-tree::put_node : goal.decreases-tree::put_node
decreases-tree::put_node a = 3 * weight a.node + 4

abbrev pub decreases-tree::put_nodes : goal.decreases-tree::put_nodes
decreases-tree::put_nodes a = 3 * trees_weight (trees_of a.nodes) + 3

abbrev pub decreases-tree::put_statements : goal.decreases-tree::put_statements
decreases-tree::put_statements a = 3 * statements_weight (statements_of a.body.statements) + 3

abbrev pub decreases-tree::put_messages : goal.decreases-tree::put_messages
decreases-tree::put_messages a = 3 * messages_weight (messages_of a.messages) + 3

abbrev pub decreases-tree::put_below : goal.decreases-tree::put_below
decreases-tree::put_below a = 3 * weight (tree_of a.kind) + 2

abbrev pub invariant-tree::Node::drop-loop-node : goal.invariant-tree::Node::drop-loop-node
invariant-tree::Node::drop-loop-node l = trees_weight (trees_of l.waiting.items) ≤ weight l.fn.self + 1

abbrev pub decreases-tree::Node::drop-loop-node : goal.decreases-tree::Node::drop-loop-node
decreases-tree::Node::drop-loop-node l = trees_weight (trees_of l.waiting.items)

abbrev pub invariant-tree::put_nodes-loop-node : goal.invariant-tree::put_nodes-loop-node
invariant-tree::put_nodes-loop-node l = record {
  sum : trees_weight (trees_of l.waiting.items) + trees_weight (trees_of l.items.items) ≤ trees_weight (trees_of l.initial.waiting.items) + trees_weight (trees_of l.fn.nodes);
  left : trees_weight (trees_of l.items.items) ≤ trees_weight (trees_of l.fn.nodes);
}

abbrev pub invariant-tree::put_messages-loop-message : goal.invariant-tree::put_messages-loop-message
invariant-tree::put_messages-loop-message l = record {
  sum : trees_weight (trees_of l.waiting.items) + messages_weight (messages_of l.items.items) ≤ trees_weight (trees_of l.initial.waiting.items) + messages_weight (messages_of l.fn.messages);
  left : messages_weight (messages_of l.items.items) ≤ messages_weight (messages_of l.fn.messages);
}

abbrev pub invariant-tree::put_statements-loop-statement : goal.invariant-tree::put_statements-loop-statement
invariant-tree::put_statements-loop-statement l = record {
  sum : trees_weight (trees_of l.waiting.items) + statements_weight (statements_of l.items.items) ≤ trees_weight (trees_of l.initial.waiting.items) + statements_weight (statements_of l.fn.body.statements);
  left : statements_weight (statements_of l.items.items) ≤ statements_weight (statements_of l.fn.body.statements);
}

abbrev pub decreases-tree::put_messages-loop-message : goal.decreases-tree::put_messages-loop-message
decreases-tree::put_messages-loop-message l = goal.left-tree::put_messages-loop-message l

abbrev pub decreases-tree::put_nodes-loop-node : goal.decreases-tree::put_nodes-loop-node
decreases-tree::put_nodes-loop-node l = goal.left-tree::put_nodes-loop-node l

abbrev pub decreases-tree::put_statements-loop-statement : goal.decreases-tree::put_statements-loop-statement
decreases-tree::put_statements-loop-statement l = goal.left-tree::put_statements-loop-statement l
