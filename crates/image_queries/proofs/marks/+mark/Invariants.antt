use Rattle.std.proofs.Common.{◌≡◌, ◌++◌, drop}
use Rattle.tree_model.specs.Tree.{trees_of}
use Rattle.tree_model.specs.Measure.{weight, trees_weight, messages_weight, statements_weight}
use Rattle.st_tree.specs.View.{messages_of, statements_of}
use Rattle.image_queries.specs.Asked.{query_of, mentions}
use Rattle.image_queries.specs.Marks.{trees_marks, messages_marks, statements_marks}
use Rattle.image_queries.proofs.marks.+mark.Given as goal

abbrev pub decreases-mark : goal.decreases-mark
decreases-mark l = weight l.node.now

abbrev pub decreases-mark_nodes : goal.decreases-mark_nodes
decreases-mark_nodes l = trees_weight (trees_of l.nodes.now)

abbrev pub decreases-mark_messages : goal.decreases-mark_messages
decreases-mark_messages l = messages_weight (messages_of l.messages.now)

abbrev pub decreases-mark_statements : goal.decreases-mark_statements
decreases-mark_statements l = statements_weight (statements_of l.statements.now)

abbrev pub invariant-mark_nodes-loop-node : goal.invariant-mark_nodes-loop-node
invariant-mark_nodes-loop-node l =
    l.marks.items ++ trees_marks (mentions (query_of l.query)) (trees_of (drop l.node-index l.nodes))
    ≡ l.initial.marks.items ++ trees_marks (mentions (query_of l.query)) (trees_of l.nodes)

abbrev pub invariant-mark_messages-loop-message : goal.invariant-mark_messages-loop-message
invariant-mark_messages-loop-message l =
    l.marks.items ++ messages_marks (mentions (query_of l.query)) (messages_of (drop l.message-index l.messages))
    ≡ l.initial.marks.items ++ messages_marks (mentions (query_of l.query)) (messages_of l.messages)

abbrev pub invariant-mark_statements-loop-statement : goal.invariant-mark_statements-loop-statement
invariant-mark_statements-loop-statement l =
    l.marks.items ++ statements_marks (mentions (query_of l.query)) (statements_of (drop l.statement-index l.statements))
    ≡ l.initial.marks.items ++ statements_marks (mentions (query_of l.query)) (statements_of l.statements)
