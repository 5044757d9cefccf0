use Rattle.std.proofs.Common.{drop, map, arith, rules}
use Rattle.patterns.specs.View.{meta_of, patterns_of}
use Rattle.patterns.proofs.Weights.{weight-pattern, weight-message_like, weight-statement_like}
use Rattle.pattern_match.proofs.Listed.{pattern_listed, message_listed, statement_listed, keyword_listed, patterns_listed, messages_listed, statements_listed, arguments_listed, keywords_listed}
use Rattle.pattern_match.proofs.metas.+metas.Goals as goal

pub put_all-put_metas-requires : goal.put_all-put_metas-requires
put_all-put_metas-requires t c = (omega (arith, weight-pattern c.args.patterns.now c.loop-pattern.pattern-index c.pattern-item.result c.loop-pattern-test.true c.pattern-item.is), tt)

pub put_all-loop-pattern-preserved : goal.put_all-loop-pattern-preserved
put_all-loop-pattern-preserved t c =
    let l = c.loop-pattern in
    pattern_listed (map meta_of l.found.items) (map meta_of c.put_metas.new.found.items) _ c.args.patterns.now l.pattern-index c.pattern-item.result c.loop-pattern-test.true c.pattern-item.is c.in_ok-put_metas.ensures l.invariant

pub put_all-returns : goal.put_all-returns
put_all-returns t c = patterns_listed (map meta_of c.loop-pattern.found.items) _ c.args.patterns.now c.loop-pattern.pattern-index c.loop-pattern-test.false c.loop-pattern.invariant

pub put_in_turn-put_metas-requires : goal.put_in_turn-put_metas-requires
put_in_turn-put_metas-requires t c = (omega (arith, weight-pattern c.args.patterns.now c.loop-pattern.pattern-index c.pattern-item.result c.loop-pattern-test.true c.pattern-item.is), tt)

pub put_in_turn-loop-pattern-preserved : goal.put_in_turn-loop-pattern-preserved
put_in_turn-loop-pattern-preserved t c =
    let l = c.loop-pattern in
    keyword_listed (map meta_of l.found.items) (map meta_of c.put_metas.new.found.items) _ c.args.patterns.now l.pattern-index c.pattern-item.result l.rest.now c.in-Some.others.now c.in-Some.keyword.now
    (map meta_of c.put_keyword.new.found.items) c.loop-pattern-test.true c.pattern-item.is (search rules) c.in_ok-put_keyword.ensures c.in_ok-put_metas.ensures l.invariant

pub put_in_turn-returns-in_default : goal.put_in_turn-returns-in_default
put_in_turn-returns-in_default t c =
    let l = c.loop-pattern in
    keywords_listed (map meta_of l.found.items) _ (patterns_of (drop l.pattern-index c.args.patterns.now)) l.rest.now (rw c.in_default.is at c.split_first.ensures.cases) l.invariant

pub put_in_turn-returns : goal.put_in_turn-returns
put_in_turn-returns t c =
    arguments_listed (map meta_of c.loop-pattern.found.items) _ c.args.patterns.now c.loop-pattern.pattern-index c.loop-pattern.rest.now c.loop-pattern-test.false c.loop-pattern.invariant

pub put_messages-put_message-requires : goal.put_messages-put_message-requires
put_messages-put_message-requires t c = (omega (arith, weight-message_like c.args.messages.now c.loop-message.message-index c.message-item.result c.loop-message-test.true c.message-item.is), tt)

pub put_messages-loop-message-preserved : goal.put_messages-loop-message-preserved
put_messages-loop-message-preserved t c =
    let l = c.loop-message in
    message_listed (map meta_of l.found.items) (map meta_of c.put_message.new.found.items) _ c.args.messages.now l.message-index c.message-item.result c.loop-message-test.true c.message-item.is c.in_ok-put_message.ensures l.invariant

pub put_messages-returns : goal.put_messages-returns
put_messages-returns t c = messages_listed (map meta_of c.loop-message.found.items) _ c.args.messages.now c.loop-message.message-index c.loop-message-test.false c.loop-message.invariant

pub put_statements-put_metas-requires : goal.put_statements-put_metas-requires
put_statements-put_metas-requires t c = (omega (arith, weight-statement_like c.args.statements.now c.loop-statement.statement-index c.statement-item.result c.loop-statement-test.true c.statement-item.is), tt)

pub put_statements-loop-statement-preserved : goal.put_statements-loop-statement-preserved
put_statements-loop-statement-preserved t c =
    let l = c.loop-statement in
    statement_listed (map meta_of l.found.items) (map meta_of c.put_metas.new.found.items) _ c.args.statements.now l.statement-index c.statement-item.result c.loop-statement-test.true c.statement-item.is c.in_ok-put_metas.ensures l.invariant

pub put_statements-returns : goal.put_statements-returns
put_statements-returns t c = statements_listed (map meta_of c.loop-statement.found.items) _ c.args.statements.now c.loop-statement.statement-index c.loop-statement-test.false c.loop-statement.invariant
