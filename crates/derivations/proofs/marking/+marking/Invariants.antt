use Rattle.std.proofs.Common.{◌≡◌, ◌+◌, ◌*◌, take, map}
use Rattle.patterns.specs.View.{patterns_of, messages_from, statements_from}
use Rattle.patterns.specs.Weights.{pattern_weight, patterns_weight, messages_like_weight, statements_like_weight}
use Rattle.derivations.specs.Numbered.{table_of, numbered, message_in, statement_in}
use Rattle.derivations.proofs.marking.+marking.Given as goal

abbrev pub decreases-marked_node : goal.decreases-marked_node
decreases-marked_node l = 3 * pattern_weight l.pattern.now

abbrev pub decreases-boxed_node : goal.decreases-boxed_node
decreases-boxed_node l = 3 * pattern_weight l.pattern.now + 1

abbrev pub decreases-marked_send : goal.decreases-marked_send
decreases-marked_send l = 3 * (pattern_weight l.receiver.now + patterns_weight (patterns_of l.message.now.arguments.items)) + 2

abbrev pub decreases-marked_cascade : goal.decreases-marked_cascade
decreases-marked_cascade l = 3 * (pattern_weight l.receiver.now + messages_like_weight (messages_from l.messages.now)) + 2

abbrev pub decreases-marked_block : goal.decreases-marked_block
decreases-marked_block l = 3 * statements_like_weight (statements_from l.body.now.statements.items) + 2

abbrev pub decreases-marked_nodes : goal.decreases-marked_nodes
decreases-marked_nodes l = 3 * patterns_weight (patterns_of l.patterns.now)

abbrev pub decreases-marked_message : goal.decreases-marked_message
decreases-marked_message l = 3 * patterns_weight (patterns_of l.message.now.arguments.items) + 1

abbrev pub decreases-marked_messages : goal.decreases-marked_messages
decreases-marked_messages l = 3 * messages_like_weight (messages_from l.patterns.now)

abbrev pub decreases-marked_statements : goal.decreases-marked_statements
decreases-marked_statements l = 3 * statements_like_weight (statements_from l.patterns.now)

abbrev pub invariant-marked_nodes-loop-pattern : goal.invariant-marked_nodes-loop-pattern
invariant-marked_nodes-loop-pattern l = l.nodes.items ≡ map (numbered (table_of l.marks)) (take l.pattern-index l.patterns)

abbrev pub invariant-marked_messages-loop-pattern : goal.invariant-marked_messages-loop-pattern
invariant-marked_messages-loop-pattern l = l.messages.items ≡ map (message_in (table_of l.marks)) (take l.pattern-index l.patterns)

abbrev pub invariant-marked_statements-loop-pattern : goal.invariant-marked_statements-loop-pattern
invariant-marked_statements-loop-pattern l = l.statements.items ≡ map (statement_in (table_of l.marks)) (take l.pattern-index l.patterns)
