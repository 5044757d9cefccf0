use Rattle.std.proofs.Common.{◌≡◌, ◌+◌, ◌*◌, ◌++◌, drop, map}
use Rattle.pattern_model.specs.Patterns.{trees_metas, metas_in_turn, messages_metas, statements_metas}
use Rattle.patterns.specs.View.{meta_of, keyword_of, patterns_of, messages_from, statements_from}
use Rattle.patterns.specs.Weights.{pattern_weight, patterns_weight, messages_like_weight, statements_like_weight}
use Rattle.pattern_match.proofs.metas.+metas.Given as goal

abbrev pub decreases-put_metas : goal.decreases-put_metas
decreases-put_metas l = 3 * pattern_weight l.pattern.now

abbrev pub decreases-put_all : goal.decreases-put_all
decreases-put_all l = 3 * patterns_weight (patterns_of l.patterns.now)

abbrev pub decreases-put_in_turn : goal.decreases-put_in_turn
decreases-put_in_turn l = 3 * patterns_weight (patterns_of l.patterns.now)

abbrev pub decreases-put_message : goal.decreases-put_message
decreases-put_message l = 3 * patterns_weight (patterns_of l.message.now.arguments.items) + 1

abbrev pub decreases-put_messages : goal.decreases-put_messages
decreases-put_messages l = 3 * messages_like_weight (messages_from l.messages.now)

abbrev pub decreases-put_statements : goal.decreases-put_statements
decreases-put_statements l = 3 * statements_like_weight (statements_from l.statements.now)

abbrev pub invariant-put_all-loop-pattern : goal.invariant-put_all-loop-pattern
invariant-put_all-loop-pattern l =
    map meta_of l.found.items ++ trees_metas (patterns_of (drop l.pattern-index l.patterns)) ≡ map meta_of l.initial.found.items ++ trees_metas (patterns_of l.patterns)

abbrev pub invariant-put_in_turn-loop-pattern : goal.invariant-put_in_turn-loop-pattern
invariant-put_in_turn-loop-pattern l =
    map meta_of l.found.items ++ metas_in_turn (patterns_of (drop l.pattern-index l.patterns)) (map keyword_of l.rest)
    ≡ map meta_of l.initial.found.items ++ metas_in_turn (patterns_of l.patterns) (map keyword_of l.keywords)

abbrev pub invariant-put_messages-loop-message : goal.invariant-put_messages-loop-message
invariant-put_messages-loop-message l =
    map meta_of l.found.items ++ messages_metas (messages_from (drop l.message-index l.messages)) ≡ map meta_of l.initial.found.items ++ messages_metas (messages_from l.messages)

abbrev pub invariant-put_statements-loop-statement : goal.invariant-put_statements-loop-statement
invariant-put_statements-loop-statement l =
    map meta_of l.found.items ++ statements_metas (statements_from (drop l.statement-index l.statements)) ≡ map meta_of l.initial.found.items ++ statements_metas (statements_from l.statements)
