use Rattle.std.proofs.Common.{List, ◌+◌, ◌*◌, take}
use Rattle.tree_model.specs.Tree.{trees_of}
use Rattle.tree_model.specs.Measure.{weight, trees_weight, messages_weight, statements_weight}
use Rattle.grammar_model.specs.Terminal.{Text}
use Rattle.st_tree.specs.View.{messages_of, statements_of}
use Rattle.patterns.specs.View.{patterns_of, messages_from, statements_from}
use Rattle.event_trees.specs.Naming.{Grows}
use Rattle.pattern_trees.specs.Reading.{ArePatterns, AreMessages, AreStatements}
use Rattle.pattern_trees.proofs.walk.+pattern.Given as goal

abbrev pub decreases-node_pattern : goal.decreases-node_pattern
decreases-node_pattern l = 3 * weight l.node.now

abbrev pub decreases-send_pattern : goal.decreases-send_pattern
decreases-send_pattern l = 3 * (weight l.receiver.now + trees_weight (trees_of l.arguments.now)) + 2

abbrev pub decreases-cascade_pattern : goal.decreases-cascade_pattern
decreases-cascade_pattern l = 3 * (weight l.receiver.now + messages_weight (messages_of l.messages.now)) + 2

abbrev pub decreases-assignment_pattern : goal.decreases-assignment_pattern
decreases-assignment_pattern l = 3 * weight l.value.now + 2

abbrev pub decreases-block_pattern : goal.decreases-block_pattern
decreases-block_pattern l = 3 * statements_weight (statements_of l.body.now.statements) + 2

abbrev pub decreases-brace_pattern : goal.decreases-brace_pattern
decreases-brace_pattern l = 3 * trees_weight (trees_of l.nodes.now) + 2

abbrev pub decreases-return_pattern : goal.decreases-return_pattern
decreases-return_pattern l = 3 * weight l.value.now + 2

abbrev pub decreases-boxed_pattern : goal.decreases-boxed_pattern
decreases-boxed_pattern l = 3 * weight l.node.now + 1

abbrev pub decreases-node_patterns : goal.decreases-node_patterns
decreases-node_patterns l = 3 * trees_weight (trees_of l.nodes.now)

abbrev pub decreases-message_pattern : goal.decreases-message_pattern
decreases-message_pattern l = 3 * trees_weight (trees_of l.arguments.now) + 1

abbrev pub decreases-message_patterns : goal.decreases-message_patterns
decreases-message_patterns l = 3 * messages_weight (messages_of l.messages.now)

abbrev pub decreases-sequence_pattern : goal.decreases-sequence_pattern
decreases-sequence_pattern l = 3 * statements_weight (statements_of l.body.now.statements)

abbrev pub invariant-node_patterns-loop-node : goal.invariant-node_patterns-loop-node
invariant-node_patterns-loop-node l = record {
  read : (final : List Text) → Grows l.names final → ArePatterns final (trees_of (take l.node-index l.nodes)) (patterns_of l.patterns.items);
  grows : Grows l.initial.names l.names;
}

abbrev pub invariant-message_patterns-loop-message : goal.invariant-message_patterns-loop-message
invariant-message_patterns-loop-message l = record {
  read : (final : List Text) → Grows l.names final → AreMessages final (messages_of (take l.message-index l.messages)) (messages_from l.patterns.items);
  grows : Grows l.initial.names l.names;
}

abbrev pub invariant-sequence_pattern-loop-statement : goal.invariant-sequence_pattern-loop-statement
invariant-sequence_pattern-loop-statement l = record {
  read : (final : List Text) → Grows l.names final → AreStatements final (statements_of (take l.statement-index l.body.statements)) (statements_from l.statements.items);
  grows : Grows l.initial.names l.names;
}
