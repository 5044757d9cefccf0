use Rattle.std.proofs.Common.{◌≡◌, ◌+◌, ◌*◌, take, drop}
use Rattle.tree_model.specs.Tree.{trees_of, more_trees}
use Rattle.tree_model.specs.Measure.{weight, trees_weight, messages_weight, statements_weight}
use Rattle.st_tree.specs.View.{tree_of, messages_of, statements_of}
use Rattle.command_model.specs.Walk.{rebuilt_trees, rebuilt_messages, rebuilt_statements}
use Rattle.remade_code.specs.Below.{below}
use Rattle.remade_code.proofs.Written.{onto, put_message, put_statement}
use Rattle.remade_code.proofs.remaking.+remake.Given as goal

abbrev pub decreases-remake_below : goal.decreases-remake_below
decreases-remake_below g l = 2 * weight (tree_of l.kind.now)

abbrev pub decreases-remake_child : goal.decreases-remake_child
decreases-remake_child g l = 2 * weight l.node.now + 1

abbrev pub decreases-remake_nodes : goal.decreases-remake_nodes
decreases-remake_nodes g l = 2 * trees_weight (trees_of l.nodes.now)

abbrev pub decreases-remake_messages : goal.decreases-remake_messages
decreases-remake_messages g l = 2 * messages_weight (messages_of l.messages.now)

abbrev pub decreases-remake_sequence : goal.decreases-remake_sequence
decreases-remake_sequence g l = 2 * statements_weight (statements_of l.body.now.statements) + 1

abbrev pub invariant-remake_nodes-loop-node : goal.invariant-remake_nodes-loop-node
invariant-remake_nodes-loop-node g l = record {
  unvisited : goal.unvisited-remake_nodes-loop-node g l;
  step : l.step ≡ l.initial.step + l.node-index;
  steps : l.steps.items ≡ l.initial.steps.items;
  made : onto more_trees (take l.node-index l.nodes) (rebuilt_trees (below l.initial.steps.items (g.M.Making.making l.making)) l.step (trees_of (drop l.node-index l.initial.nodes))) ≡ rebuilt_trees (below l.initial.steps.items (g.M.Making.making l.making)) l.initial.step (trees_of l.initial.nodes);
}

abbrev pub invariant-remake_messages-loop-message : goal.invariant-remake_messages-loop-message
invariant-remake_messages-loop-message g l = record {
  unvisited : goal.unvisited-remake_messages-loop-message g l;
  steps : l.steps.items ≡ l.initial.steps.items;
  made : onto put_message (take l.message-index l.messages) (rebuilt_messages (below l.initial.steps.items (g.M.Making.making l.making)) l.step (messages_of (drop l.message-index l.initial.messages))) ≡ rebuilt_messages (below l.initial.steps.items (g.M.Making.making l.making)) 1 (messages_of l.initial.messages);
}

abbrev pub invariant-remake_sequence-loop-statement : goal.invariant-remake_sequence-loop-statement
invariant-remake_sequence-loop-statement g l = record {
  unvisited : goal.unvisited-remake_sequence-loop-statement g l;
  step : l.step ≡ l.statement-index;
  steps : l.steps.items ≡ l.initial.steps.items;
  made : onto put_statement (take l.statement-index l.statement-items) (rebuilt_statements (below l.initial.steps.items (g.M.Making.making l.making)) l.step (statements_of (drop l.statement-index l.initial.statement-items))) ≡ rebuilt_statements (below l.initial.steps.items (g.M.Making.making l.making)) 0 (statements_of l.initial.statement-items);
}
