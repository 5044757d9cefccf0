use Rattle.std.proofs.Common.{map, arith}
use Rattle.patterns.proofs.Weights.{weight-pattern, weight-message_like, weight-statement_like}
use Rattle.derivations.specs.Signs.{sign_of}
use Rattle.derivations.proofs.Listed.{pattern_listed, message_listed, statement_listed, patterns_listed, messages_listed, statements_listed}
use Rattle.derivations.proofs.gathering.+marks.Goals as goal

pub put_all-put_marks-requires : goal.put_all-put_marks-requires
put_all-put_marks-requires t c = (omega (arith, weight-pattern c.args.patterns.now c.loop-pattern.pattern-index c.pattern-item.result c.loop-pattern-test.true c.pattern-item.is), tt)

pub put_all-loop-pattern-preserved : goal.put_all-loop-pattern-preserved
put_all-loop-pattern-preserved t c =
    let l = c.loop-pattern in
    pattern_listed (map sign_of l.found.items) (map sign_of c.put_marks.new.found.items) _ c.args.patterns.now l.pattern-index c.pattern-item.result c.loop-pattern-test.true c.pattern-item.is c.in_ok-put_marks.ensures l.invariant

pub put_all-returns : goal.put_all-returns
put_all-returns t c = patterns_listed (map sign_of c.loop-pattern.found.items) _ c.args.patterns.now c.loop-pattern.pattern-index c.loop-pattern-test.false c.loop-pattern.invariant

pub put_messages-put_message-requires : goal.put_messages-put_message-requires
put_messages-put_message-requires t c = (omega (arith, weight-message_like c.args.messages.now c.loop-message.message-index c.message-item.result c.loop-message-test.true c.message-item.is), tt)

pub put_messages-loop-message-preserved : goal.put_messages-loop-message-preserved
put_messages-loop-message-preserved t c =
    let l = c.loop-message in
    message_listed (map sign_of l.found.items) (map sign_of c.put_message.new.found.items) _ c.args.messages.now l.message-index c.message-item.result c.loop-message-test.true c.message-item.is c.in_ok-put_message.ensures l.invariant

pub put_messages-returns : goal.put_messages-returns
put_messages-returns t c = messages_listed (map sign_of c.loop-message.found.items) _ c.args.messages.now c.loop-message.message-index c.loop-message-test.false c.loop-message.invariant

pub put_statements-put_marks-requires : goal.put_statements-put_marks-requires
put_statements-put_marks-requires t c = (omega (arith, weight-statement_like c.args.statements.now c.loop-statement.statement-index c.statement-item.result c.loop-statement-test.true c.statement-item.is), tt)

pub put_statements-loop-statement-preserved : goal.put_statements-loop-statement-preserved
put_statements-loop-statement-preserved t c =
    let l = c.loop-statement in
    statement_listed (map sign_of l.found.items) (map sign_of c.put_marks.new.found.items) _ c.args.statements.now l.statement-index c.statement-item.result c.loop-statement-test.true c.statement-item.is c.in_ok-put_marks.ensures l.invariant

pub put_statements-returns : goal.put_statements-returns
put_statements-returns t c = statements_listed (map sign_of c.loop-statement.found.items) _ c.args.statements.now c.loop-statement.statement-index c.loop-statement-test.false c.loop-statement.invariant
