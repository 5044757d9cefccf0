use Rattle.std.proofs.Common.{◌≡◌, ◌++◌, drop}
use Rattle.tree_model.specs.Tree.{trees_of}
use Rattle.tree_model.specs.Measure.{weight, trees_weight, messages_weight, statements_weight}
use Rattle.st_tree.specs.View.{messages_of, statements_of}
use Rattle.mentions.specs.NodeLists.{nodes_in_trees, nodes_in_messages, nodes_in_statements}
use Rattle.mentions.specs.Listing.{pointed}
use Rattle.mentions.proofs.walk.+put.Given as goal

abbrev pub decreases-put_node : goal.decreases-put_node
decreases-put_node l = weight l.node.now

abbrev pub decreases-put_nodes : goal.decreases-put_nodes
decreases-put_nodes l = trees_weight (trees_of l.nodes.now)

abbrev pub decreases-put_messages : goal.decreases-put_messages
decreases-put_messages l = messages_weight (messages_of l.messages.now)

abbrev pub decreases-put_statements : goal.decreases-put_statements
decreases-put_statements l = statements_weight (statements_of l.statements.now)

abbrev pub invariant-put_nodes-loop-node : goal.invariant-put_nodes-loop-node
invariant-put_nodes-loop-node l =
    pointed l.found.items ++ nodes_in_trees (trees_of (drop l.node-index l.nodes)) ≡ pointed l.initial.found.items ++ nodes_in_trees (trees_of l.nodes)

abbrev pub invariant-put_messages-loop-message : goal.invariant-put_messages-loop-message
invariant-put_messages-loop-message l =
    pointed l.found.items ++ nodes_in_messages (messages_of (drop l.message-index l.messages)) ≡ pointed l.initial.found.items ++ nodes_in_messages (messages_of l.messages)

abbrev pub invariant-put_statements-loop-statement : goal.invariant-put_statements-loop-statement
invariant-put_statements-loop-statement l =
    pointed l.found.items ++ nodes_in_statements (statements_of (drop l.statement-index l.statements)) ≡ pointed l.initial.found.items ++ nodes_in_statements (statements_of l.statements)
