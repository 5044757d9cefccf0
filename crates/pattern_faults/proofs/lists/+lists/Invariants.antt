use Rattle.std.proofs.Common.{◌≡◌, ◌+◌, ◌*◌, drop}
use Rattle.rb_base.specs.Names.{name_at}
use Rattle.tree_model.specs.Tree.{trees_of}
use Rattle.tree_model.specs.Measure.{weight, trees_weight, messages_weight, statements_weight}
use Rattle.st_tree.specs.View.{messages_of, statements_of}
use Rattle.pattern_faults.specs.Lists.{spells_list, state_of, trees_walked, messages_walked, statements_walked}
use Rattle.pattern_faults.proofs.lists.+lists.Given as goal

abbrev pub decreases-walk_node : goal.decreases-walk_node
decreases-walk_node l = 2 * weight l.node.now

abbrev pub decreases-walk_nodes : goal.decreases-walk_nodes
decreases-walk_nodes l = 2 * trees_weight (trees_of l.nodes.now)

abbrev pub decreases-walk_messages : goal.decreases-walk_messages
decreases-walk_messages l = 2 * messages_weight (messages_of l.messages.now) + 1

abbrev pub decreases-walk_statements : goal.decreases-walk_statements
decreases-walk_statements l = 2 * statements_weight (statements_of l.statements.now)

abbrev pub invariant-walk_nodes-loop-node : goal.invariant-walk_nodes-loop-node
invariant-walk_nodes-loop-node l =
    trees_walked (λ n. spells_list (name_at l.names n)) (trees_of (drop l.node-index l.nodes)) (state_of l.search) ≡ trees_walked (λ n. spells_list (name_at l.names n)) (trees_of l.nodes) (state_of l.initial.search)

abbrev pub invariant-walk_messages-loop-message : goal.invariant-walk_messages-loop-message
invariant-walk_messages-loop-message l =
    messages_walked (λ n. spells_list (name_at l.names n)) (messages_of (drop l.message-index l.messages)) (state_of l.search) ≡ messages_walked (λ n. spells_list (name_at l.names n)) (messages_of l.messages) (state_of l.initial.search)

abbrev pub invariant-walk_statements-loop-statement : goal.invariant-walk_statements-loop-statement
invariant-walk_statements-loop-statement l =
    statements_walked (λ n. spells_list (name_at l.names n)) l.had (statements_of (drop l.statement-index l.statements)) (state_of l.search)
    ≡ statements_walked (λ n. spells_list (name_at l.names n)) l.initial.had (statements_of l.statements) (state_of l.initial.search)
