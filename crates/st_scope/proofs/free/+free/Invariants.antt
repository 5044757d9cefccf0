use Rattle.std.proofs.Common.{◌≡◌, drop, nat_eq}
use Rattle.tree_model.specs.Tree.{trees_of}
use Rattle.tree_model.specs.Measure.{weight, trees_weight, messages_weight, statements_weight}
use Rattle.scope_model.specs.NameTests.{is_pseudo_in}
use Rattle.scope_model.specs.FreeNames.{free_in_trees, free_in_messages, free_in_statements}
use Rattle.st_tree.specs.View.{messages_of, statements_of}
use Rattle.st_scope.specs.NameLists.{gathered}
use Rattle.st_scope.proofs.free.+free.Given as goal

abbrev pub decreases-gather : goal.decreases-gather
decreases-gather l = weight l.node.now

abbrev pub decreases-gather_nodes : goal.decreases-gather_nodes
decreases-gather_nodes l = trees_weight (trees_of l.nodes.now)

abbrev pub decreases-gather_messages : goal.decreases-gather_messages
decreases-gather_messages l = messages_weight (messages_of l.messages.now)

abbrev pub decreases-gather_statements : goal.decreases-gather_statements
decreases-gather_statements l = statements_weight (statements_of l.statements.now)

abbrev pub invariant-gather_nodes-loop-node : goal.invariant-gather_nodes-loop-node
invariant-gather_nodes-loop-node l =
    (l.bound ≡ l.initial.bound)
    × (gathered l.initial.bound l.found (free_in_trees nat_eq (is_pseudo_in l.names) (trees_of (drop l.node-index l.nodes)))
    ≡ gathered l.initial.bound l.initial.found (free_in_trees nat_eq (is_pseudo_in l.names) (trees_of l.nodes)))

abbrev pub invariant-gather_messages-loop-message : goal.invariant-gather_messages-loop-message
invariant-gather_messages-loop-message l =
    (l.bound ≡ l.initial.bound)
    × (gathered l.initial.bound l.found (free_in_messages nat_eq (is_pseudo_in l.names) (messages_of (drop l.message-index l.messages)))
    ≡ gathered l.initial.bound l.initial.found (free_in_messages nat_eq (is_pseudo_in l.names) (messages_of l.messages)))

abbrev pub invariant-gather_statements-loop-statement : goal.invariant-gather_statements-loop-statement
invariant-gather_statements-loop-statement l =
    (l.bound ≡ l.initial.bound)
    × (gathered l.initial.bound l.found (free_in_statements nat_eq (is_pseudo_in l.names) (statements_of (drop l.statement-index l.statements)))
    ≡ gathered l.initial.bound l.initial.found (free_in_statements nat_eq (is_pseudo_in l.names) (statements_of l.statements)))
