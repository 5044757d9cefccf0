use Rattle.std.proofs.Common.{◌≡◌, ◌+◌, ◌*◌, ◌||◌, drop}
use Rattle.tree_model.specs.Tree.{trees_of, more_trees}
use Rattle.tree_model.specs.Measure.{weight, trees_weight, messages_weight, statements_weight}
use Rattle.st_tree.specs.View.{messages_of, statements_of}
use Rattle.renamed_code.specs.Renamings.{trees_after, messages_after, statements_after, is_in_trees, is_in_messages, is_in_statements}
use Rattle.renamed_code.proofs.Loops.{onto, put_message, put_statement}
use Rattle.renamed_code.proofs.anew.+anew.Given as goal

abbrev pub decreases-node_anew : goal.decreases-node_anew
decreases-node_anew l = 3 * weight l.node.now

abbrev pub decreases-child_anew : goal.decreases-child_anew
decreases-child_anew l = 3 * weight l.node.now + 1

abbrev pub decreases-boxed_child : goal.decreases-boxed_child
decreases-boxed_child l = 3 * weight l.node.now + 2

abbrev pub decreases-nodes_anew : goal.decreases-nodes_anew
decreases-nodes_anew l = 3 * trees_weight (trees_of l.nodes.now)

abbrev pub decreases-messages_anew : goal.decreases-messages_anew
decreases-messages_anew l = 3 * messages_weight (messages_of l.messages.now)

abbrev pub decreases-statements_anew : goal.decreases-statements_anew
decreases-statements_anew l = 3 * statements_weight (statements_of l.statements.now)

abbrev pub decreases-sequence_anew : goal.decreases-sequence_anew
decreases-sequence_anew l = 3 * statements_weight (statements_of l.body.now.statements) + 1

abbrev pub invariant-nodes_anew-loop-node : goal.invariant-nodes_anew-loop-node
invariant-nodes_anew-loop-node l = record {
  step : l.step ≡ l.initial.step + l.node-index;
  steps : l.walk.steps.items ≡ l.initial.walk.steps.items;
  trees : onto more_trees l.list (trees_after l.renaming l.initial.walk.steps.items l.step (trees_of (drop l.node-index l.nodes))) ≡ trees_after l.renaming l.initial.walk.steps.items l.initial.step (trees_of l.nodes);
  found : (l.walk.found || is_in_trees l.renaming l.initial.walk.steps.items l.step (trees_of (drop l.node-index l.nodes))) ≡ (l.initial.walk.found || is_in_trees l.renaming l.initial.walk.steps.items l.initial.step (trees_of l.nodes));
}

abbrev pub invariant-messages_anew-loop-message : goal.invariant-messages_anew-loop-message
invariant-messages_anew-loop-message l = record {
  steps : l.walk.steps.items ≡ l.initial.walk.steps.items;
  messages : onto put_message l.list (messages_after l.renaming l.initial.walk.steps.items l.step (messages_of (drop l.message-index l.messages))) ≡ messages_after l.renaming l.initial.walk.steps.items 1 (messages_of l.messages);
  found : (l.walk.found || is_in_messages l.renaming l.initial.walk.steps.items l.step (messages_of (drop l.message-index l.messages))) ≡ (l.initial.walk.found || is_in_messages l.renaming l.initial.walk.steps.items 1 (messages_of l.messages));
}

abbrev pub invariant-statements_anew-loop-statement : goal.invariant-statements_anew-loop-statement
invariant-statements_anew-loop-statement l = record {
  step : l.step ≡ l.statement-index;
  steps : l.walk.steps.items ≡ l.initial.walk.steps.items;
  statements : onto put_statement l.list (statements_after l.renaming l.initial.walk.steps.items l.step (statements_of (drop l.statement-index l.statements))) ≡ statements_after l.renaming l.initial.walk.steps.items 0 (statements_of l.statements);
  found : (l.walk.found || is_in_statements l.renaming l.initial.walk.steps.items l.step (statements_of (drop l.statement-index l.statements))) ≡ (l.initial.walk.found || is_in_statements l.renaming l.initial.walk.steps.items 0 (statements_of l.statements));
}
