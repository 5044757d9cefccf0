use Rattle.std.proofs.Common.{◌≡◌, ◌+◌, ◌*◌, ◌++◌, ◌≤◌, take, drop, length, codes}
use Rattle.rb_base.specs.Names.{name_at}
use Rattle.tree_model.specs.Tree.{trees_of, map_trees, map_messages, map_statements}
use Rattle.tree_model.specs.Measure.{weight, trees_weight, messages_weight, statements_weight}
use Rattle.st_tree.specs.View.{messages_of, statements_of}
use Rattle.text_model.specs.Pieces.{keywords_of, pieces_behind, pieces_in_turn}
use Rattle.text_model.specs.Flat.{are_trees_flat, are_messages_flat}
use Rattle.text_model.specs.Expressions.{expression_texts, argument_texts, message_texts, statement_lines}
use Rattle.st_formatter.proofs.trees.+tree.Given as goal

abbrev pub decreases-write_expression : goal.decreases-write_expression
decreases-write_expression l = 3 * weight l.node.now

abbrev pub decreases-write_operand : goal.decreases-write_operand
decreases-write_operand l = 3 * weight l.node.now + 1

abbrev pub decreases-write_send : goal.decreases-write_send
decreases-write_send l = 3 * (weight l.receiver.now + trees_weight (trees_of l.arguments.now)) + 2

abbrev pub decreases-write_message : goal.decreases-write_message
decreases-write_message l = 3 * trees_weight (trees_of l.arguments.now) + 1

abbrev pub decreases-write_argument : goal.decreases-write_argument
decreases-write_argument l = 3 * trees_weight (trees_of l.arguments.now)

abbrev pub decreases-write_messages : goal.decreases-write_messages
decreases-write_messages l = 3 * messages_weight (messages_of l.messages.now)

abbrev pub decreases-write_next : goal.decreases-write_next
decreases-write_next l = 3 * trees_weight (trees_of l.next.now.arguments) + 2

abbrev pub decreases-write_brace : goal.decreases-write_brace
decreases-write_brace l = 3 * trees_weight (trees_of l.items.now)

abbrev pub decreases-write_block : goal.decreases-write_block
decreases-write_block l = 3 * statements_weight (statements_of l.body.now.statements) + 2

abbrev pub decreases-write_inside : goal.decreases-write_inside
decreases-write_inside l = 3 * statements_weight (statements_of l.body.now.statements) + 1

abbrev pub decreases-write_lines : goal.decreases-write_lines
decreases-write_lines l = 3 * statements_weight (statements_of l.body.now.statements)

abbrev pub invariant-write_message-loop-at : goal.invariant-write_message-loop-at
invariant-write_message-loop-at l =
    let rest = map_trees (name_at l.names) (trees_of (drop l.at l.arguments)) in
    record {
      flat : l.flat ≡ are_trees_flat rest;
      words : keywords_of l.words ≡ take l.at (keywords_of l.initial.words);
      out : l.out ≡ pieces_behind (codes " ") (pieces_in_turn (drop l.at (keywords_of l.initial.words)) (argument_texts l.level l.message rest)) ++ l.initial.out;
    }

abbrev pub decreases-write_message-loop-at : goal.decreases-write_message-loop-at
decreases-write_message-loop-at l = l.at

abbrev pub invariant-write_messages-loop-at : goal.invariant-write_messages-loop-at
invariant-write_messages-loop-at l =
    let rest = map_messages (name_at l.names) (messages_of (drop l.at l.rest)) in
    record {
      within : l.at ≤ length l.rest;
      flat : l.flat ≡ are_messages_flat rest;
      out : l.out ≡ pieces_behind (codes ";") (message_texts l.level rest) ++ l.initial.out;
    }

abbrev pub decreases-write_messages-loop-at : goal.decreases-write_messages-loop-at
decreases-write_messages-loop-at l = l.at

abbrev pub invariant-write_brace-loop-at : goal.invariant-write_brace-loop-at
invariant-write_brace-loop-at l =
    let rest = map_trees (name_at l.names) (trees_of (drop l.at l.rest)) in
    record {
      within : l.at ≤ length l.rest;
      flat : l.flat ≡ are_trees_flat rest;
      out : l.out ≡ pieces_behind (codes ". ") (expression_texts l.level rest) ++ l.initial.out;
    }

abbrev pub decreases-write_brace-loop-at : goal.decreases-write_brace-loop-at
decreases-write_brace-loop-at l = l.at

abbrev pub invariant-write_lines-loop-at : goal.invariant-write_lines-loop-at
invariant-write_lines-loop-at l =
    (l.at ≤ length l.statements)
    × (l.out ≡ pieces_behind (codes "\n") (statement_lines l.level (map_statements (name_at l.names) (statements_of (drop l.at l.statements)))) ++ l.initial.out)

abbrev pub decreases-write_lines-loop-at : goal.decreases-write_lines-loop-at
decreases-write_lines-loop-at l = l.at
