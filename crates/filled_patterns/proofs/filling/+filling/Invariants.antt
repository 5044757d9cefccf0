use Rattle.std.proofs.Common.{ℕ, List, ◌+◌, ◌*◌, take, drop}
use Rattle.tree_model.specs.Tree.{trees_of}
use Rattle.st_tree.specs.View.{messages_of}
use Rattle.event_trees.specs.Naming.{Grows}
use Rattle.patterns.specs.View.{patterns_of, messages_from, statements_from}
use Rattle.patterns.specs.Weights.{pattern_weight, patterns_weight, messages_like_weight, statements_like_weight}
use Rattle.filled_patterns.specs.Left.{Leaves}
use Rattle.filled_patterns.specs.Filling.{Later, Over, state_of, AreFilled, AreMessagesFilled, AreMade}
use Rattle.filled_patterns.proofs.filling.+filling.Given as goal

abbrev pub decreases-filled_node : goal.decreases-filled_node
decreases-filled_node l = 3 * pattern_weight l.pattern.now

abbrev pub decreases-boxed_node : goal.decreases-boxed_node
decreases-boxed_node l = 3 * pattern_weight l.pattern.now + 1

abbrev pub decreases-filled_send : goal.decreases-filled_send
decreases-filled_send l = 3 * (pattern_weight l.receiver.now + patterns_weight (patterns_of l.message.now.arguments.items)) + 2

abbrev pub decreases-filled_cascade : goal.decreases-filled_cascade
decreases-filled_cascade l = 3 * (pattern_weight l.receiver.now + messages_like_weight (messages_from l.messages.now)) + 2

abbrev pub decreases-filled_assignment : goal.decreases-filled_assignment
decreases-filled_assignment l = 3 * pattern_weight l.value.now + 2

abbrev pub decreases-filled_block : goal.decreases-filled_block
decreases-filled_block l = 3 * statements_like_weight (statements_from l.body.now.statements.items) + 2

abbrev pub decreases-filled_brace : goal.decreases-filled_brace
decreases-filled_brace l = 3 * patterns_weight (patterns_of l.patterns.now) + 2

abbrev pub decreases-filled_return : goal.decreases-filled_return
decreases-filled_return l = 3 * pattern_weight l.value.now + 2

abbrev pub decreases-filled_nodes : goal.decreases-filled_nodes
decreases-filled_nodes l = 3 * patterns_weight (patterns_of l.patterns.now)

abbrev pub decreases-filled_message : goal.decreases-filled_message
decreases-filled_message l = 3 * patterns_weight (patterns_of l.message.now.arguments.items) + 1

abbrev pub decreases-filled_messages : goal.decreases-filled_messages
decreases-filled_messages l = 3 * messages_like_weight (messages_from l.patterns.now)

abbrev pub decreases-put_statement : goal.decreases-put_statement
decreases-put_statement l = 3 * pattern_weight l.statement.now.node + 1

abbrev pub decreases-filled_sequence : goal.decreases-filled_sequence
decreases-filled_sequence l = 3 * statements_like_weight (statements_from l.body.now.statements.items)

abbrev pub invariant-filled_nodes-loop-pattern : goal.invariant-filled_nodes-loop-pattern
invariant-filled_nodes-loop-pattern l = record {
  filled : (final : List (List ℕ)) → Later l.names final → Over final l.initial.bindings (λ bs. AreFilled final bs (patterns_of (take l.pattern-index l.patterns)) (trees_of l.nodes.items));
  left : Leaves l.initial.bindings l.bindings;
  grows : Grows l.initial.names l.names;
}

abbrev pub invariant-filled_messages-loop-pattern : goal.invariant-filled_messages-loop-pattern
invariant-filled_messages-loop-pattern l = record {
  filled : (final : List (List ℕ)) → Later l.names final → Over final l.initial.bindings (λ bs. AreMessagesFilled final bs (messages_from (take l.pattern-index l.patterns)) (messages_of l.messages.items));
  left : Leaves l.initial.bindings l.bindings;
  grows : Grows l.initial.names l.names;
}

abbrev pub invariant-filled_sequence-loop-statement : goal.invariant-filled_sequence-loop-statement
invariant-filled_sequence-loop-statement l = record {
  filled : (final : List (List ℕ)) → Later l.names final → Over final l.initial.bindings (λ bs. AreMade final bs (statements_from l.body.statements.items) (statements_from (drop l.statement-index l.body.statements.items)) l.body.tail (state_of l.made));
  left : Leaves l.initial.bindings l.bindings;
  grows : Grows l.initial.names l.names;
}
