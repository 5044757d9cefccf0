use Rattle.std.proofs.Common.{ℕ, List, ◌+◌, ◌*◌, max, map, take}
use Rattle.tree_model.specs.Tree.{trees_of}
use Rattle.tree_model.specs.Measure.{height, trees_height, messages_height, statements_height}
use Rattle.st_tree.specs.View.{tree_of, messages_of, statements_of}
use Rattle.event_trees.specs.Naming.{Grows}
use Rattle.pattern_match.specs.Gathering.{bound_from}
use Rattle.pattern_match.specs.Bound.{held_of}
use Rattle.rewritten_code.specs.Changed.{Paired, becomes, IsChanged, IsMessageChanged, IsStatementChanged, AreChanged}
use Rattle.rewritten_code.specs.Lower.{height_bound, doubled_height, bindings_height}
use Rattle.rewritten_code.proofs.rewriting.+rewriting.Given as goal

abbrev pub decreases-rewritten_node : goal.decreases-rewritten_node
decreases-rewritten_node l = 8 * height l.node.now + 6

abbrev pub decreases-rewritten_match : goal.decreases-rewritten_match
decreases-rewritten_match l = 8 * height l.node.now + 5

abbrev pub decreases-rewritten_below : goal.decreases-rewritten_below
decreases-rewritten_below l = 8 * height (tree_of l.kind.now) + 4

abbrev pub decreases-boxed_node : goal.decreases-boxed_node
decreases-boxed_node l = 8 * height l.node.now + 7

abbrev pub decreases-rewritten_send : goal.decreases-rewritten_send
decreases-rewritten_send l = 8 * max (height l.receiver.now) (trees_height (trees_of l.arguments.now)) + 11

abbrev pub decreases-rewritten_cascade : goal.decreases-rewritten_cascade
decreases-rewritten_cascade l = 8 * max (height l.receiver.now) (messages_height (messages_of l.messages.now)) + 11

abbrev pub decreases-rewritten_assignment : goal.decreases-rewritten_assignment
decreases-rewritten_assignment l = 8 * height l.value.now + 11

abbrev pub decreases-rewritten_block : goal.decreases-rewritten_block
decreases-rewritten_block l = 8 * statements_height (statements_of l.body.now.statements) + 11

abbrev pub decreases-rewritten_brace : goal.decreases-rewritten_brace
decreases-rewritten_brace l = 8 * trees_height (trees_of l.items.now) + 11

abbrev pub decreases-rewritten_return : goal.decreases-rewritten_return
decreases-rewritten_return l = 8 * height l.value.now + 11

abbrev pub decreases-rewritten_nodes : goal.decreases-rewritten_nodes
decreases-rewritten_nodes l = 8 * trees_height (trees_of l.nodes.now) + 8

abbrev pub decreases-rewritten_messages : goal.decreases-rewritten_messages
decreases-rewritten_messages l = 8 * messages_height (messages_of l.messages.now) + 9

abbrev pub decreases-rewritten_statements : goal.decreases-rewritten_statements
decreases-rewritten_statements l = 8 * statements_height (statements_of l.statements.now) + 8

abbrev pub decreases-rewritten_part : goal.decreases-rewritten_part
decreases-rewritten_part l = 8 * height_bound (bound_from l.standing.now) + 10

abbrev pub decreases-rewritten_binding : goal.decreases-rewritten_binding
decreases-rewritten_binding l = 8 * doubled_height (held_of l.held.now) + 11

abbrev pub decreases-rewritten_bindings : goal.decreases-rewritten_bindings
decreases-rewritten_bindings l = 8 * bindings_height l.held.now + 12

abbrev pub invariant-rewritten_nodes-loop-node : goal.invariant-rewritten_nodes-loop-node
invariant-rewritten_nodes-loop-node l = record {
  grows : Grows l.initial.names l.names;
  changed : (final : List (List ℕ)) → Grows l.names final → Paired (IsChanged final (becomes final l.rule)) (take l.node-index l.nodes) l.made.items;
}

abbrev pub invariant-rewritten_messages-loop-message : goal.invariant-rewritten_messages-loop-message
invariant-rewritten_messages-loop-message l = record {
  grows : Grows l.initial.names l.names;
  changed : (final : List (List ℕ)) → Grows l.names final → Paired (IsMessageChanged final (becomes final l.rule)) (take l.message-index l.messages) l.made.items;
}

abbrev pub invariant-rewritten_statements-loop-statement : goal.invariant-rewritten_statements-loop-statement
invariant-rewritten_statements-loop-statement l = record {
  grows : Grows l.initial.names l.names;
  changed : (final : List (List ℕ)) → Grows l.names final → Paired (IsStatementChanged final (becomes final l.rule)) (take l.statement-index l.statements) l.made.items;
}

abbrev pub invariant-rewritten_bindings-loop-one : goal.invariant-rewritten_bindings-loop-one
invariant-rewritten_bindings-loop-one l = record {
  grows : Grows l.initial.names l.names;
  changed : (final : List (List ℕ)) → Grows l.names final → AreChanged final (becomes final l.rule) (map held_of (take l.one-index l.held)) l.made.items;
}
