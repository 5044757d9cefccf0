use Rattle.std.proofs.Common.{◌≡◌, ◌++◌, ◌*◌, ◌+◌, drop}
use Rattle.tree_model.specs.Tree.{trees_of}
use Rattle.tree_model.specs.Measure.{weight, trees_weight, messages_weight, statements_weight}
use Rattle.st_tree.specs.View.{messages_of, statements_of}
use Rattle.placed_nodes.specs.Placing.{placed, in_trees, in_messages, in_statements}
use Rattle.placed_nodes.proofs.placed.+put.Given as goal

abbrev pub decreases-put_below : goal.decreases-put_below
decreases-put_below l = 2 * weight l.node.now + 1

abbrev pub decreases-put_node : goal.decreases-put_node
decreases-put_node l = 2 * weight l.node.now

abbrev pub decreases-put_nodes : goal.decreases-put_nodes
decreases-put_nodes l = 2 * trees_weight (trees_of l.nodes.now)

abbrev pub decreases-put_messages : goal.decreases-put_messages
decreases-put_messages l = 2 * messages_weight (messages_of l.messages.now)

abbrev pub decreases-put_statements : goal.decreases-put_statements
decreases-put_statements l = 2 * statements_weight (statements_of l.statements.now)

abbrev pub invariant-put_nodes-loop-i : goal.invariant-put_nodes-loop-i
invariant-put_nodes-loop-i l =
    (l.path.items ≡ l.initial.path.items)
    × (placed l.found.items ++ in_trees l.initial.path.items (l.first + l.i) (trees_of (drop l.i l.nodes))
    ≡ placed l.initial.found.items ++ in_trees l.initial.path.items l.first (trees_of l.nodes))

abbrev pub invariant-put_messages-loop-message : goal.invariant-put_messages-loop-message
invariant-put_messages-loop-message l =
    (l.path.items ≡ l.initial.path.items)
    × (placed l.found.items ++ in_messages l.initial.path.items l.first (messages_of (drop l.message-index l.messages))
    ≡ placed l.initial.found.items ++ in_messages l.initial.path.items 1 (messages_of l.messages))

abbrev pub invariant-put_statements-loop-i : goal.invariant-put_statements-loop-i
invariant-put_statements-loop-i l =
    (l.path.items ≡ l.initial.path.items)
    × (placed l.found.items ++ in_statements l.initial.path.items l.i (statements_of (drop l.i l.statements))
    ≡ placed l.initial.found.items ++ in_statements l.initial.path.items 0 (statements_of l.statements))
