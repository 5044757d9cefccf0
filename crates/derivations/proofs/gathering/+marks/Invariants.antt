use Rattle.std.proofs.Common.{◌≡◌, ◌+◌, ◌*◌, ◌++◌, drop, map}
use Rattle.patterns.specs.View.{patterns_of, messages_from, statements_from}
use Rattle.patterns.specs.Weights.{pattern_weight, patterns_weight, messages_like_weight, statements_like_weight}
use Rattle.derivations.specs.Signs.{sign_of, trees_signs, messages_signs, statements_signs}
use Rattle.derivations.proofs.gathering.+marks.Given as goal

abbrev pub decreases-put_marks : goal.decreases-put_marks
decreases-put_marks l = 3 * pattern_weight l.pattern.now

abbrev pub decreases-put_all : goal.decreases-put_all
decreases-put_all l = 3 * patterns_weight (patterns_of l.patterns.now)

abbrev pub decreases-put_message : goal.decreases-put_message
decreases-put_message l = 3 * patterns_weight (patterns_of l.message.now.arguments.items) + 1

abbrev pub decreases-put_messages : goal.decreases-put_messages
decreases-put_messages l = 3 * messages_like_weight (messages_from l.messages.now)

abbrev pub decreases-put_statements : goal.decreases-put_statements
decreases-put_statements l = 3 * statements_like_weight (statements_from l.statements.now)

abbrev pub invariant-put_all-loop-pattern : goal.invariant-put_all-loop-pattern
invariant-put_all-loop-pattern l =
    map sign_of l.found.items ++ trees_signs (patterns_of (drop l.pattern-index l.patterns)) ≡ map sign_of l.initial.found.items ++ trees_signs (patterns_of l.patterns)

abbrev pub invariant-put_messages-loop-message : goal.invariant-put_messages-loop-message
invariant-put_messages-loop-message l =
    map sign_of l.found.items ++ messages_signs (messages_from (drop l.message-index l.messages)) ≡ map sign_of l.initial.found.items ++ messages_signs (messages_from l.messages)

abbrev pub invariant-put_statements-loop-statement : goal.invariant-put_statements-loop-statement
invariant-put_statements-loop-statement l =
    map sign_of l.found.items ++ statements_signs (statements_from (drop l.statement-index l.statements)) ≡ map sign_of l.initial.found.items ++ statements_signs (statements_from l.statements)
