use Rattle.std.proofs.Common.{ℕ, List, arith, sym, ap, ◌∙◌}
use Rattle.pattern_model.specs.Patterns.{PatternOf, send_like, cascade_like, block_like, brace_like}
use Rattle.patterns.specs.View.{selector_of, pattern_from, patterns_of, messages_from, statements_from}
use Rattle.patterns.specs.declared.tree.PatternSequence.{PatternSequence}
use Rattle.patterns.proofs.Weights.{weight-pattern, weight-message_like, weight-statement_like}
use Rattle.derivations.specs.Numbered.{table_of}
use Rattle.derivations.proofs.NodeKinds.{of_send, of_cascade, of_block, of_brace}
use Rattle.derivations.proofs.marking.+marking.Goals as goal

pub marked_node-returns-in-Send : goal.marked_node-returns-in-Send
marked_node-returns-in-Send t c =
    let m = c.in-Send.message in
    of_send (table_of c.args.marks.now) c.args.pattern.now c.deref.result.now m
    (sym c.pattern.view_is ∙ ap pattern_from c.in-Send.is ∙ ap (λ (r : PatternOf ℕ). send_like r (selector_of m.selector) (patterns_of m.arguments.items)) (sym c.deref.ensures)) c.marked_send.result c.marked_send.ensures

pub marked_node-returns-in-Cascade : goal.marked_node-returns-in-Cascade
marked_node-returns-in-Cascade t c =
    of_cascade (table_of c.args.marks.now) c.args.pattern.now c.deref-in-Cascade.result.now c.as_slice.result.now
    (sym c.pattern.view_is ∙ ap pattern_from c.in-Cascade.is ∙ (λ i. cascade_like (sym c.deref-in-Cascade.ensures i) (messages_from (sym c.as_slice.ensures.value i)))) c.marked_cascade.result c.marked_cascade.ensures

pub marked_node-returns-in-Block : goal.marked_node-returns-in-Block
marked_node-returns-in-Block t c =
    let d : PatternSequence = c.deref-in-Block.result.now in
    of_block (table_of c.args.marks.now) c.args.pattern.now c.in-Block.parameters d.temporaries d.statements.items d.tail
    (sym c.pattern.view_is ∙ ap pattern_from c.in-Block.is ∙ ap (λ (b : PatternSequence). block_like c.in-Block.parameters b.temporaries (statements_from b.statements.items) b.tail) (sym c.deref-in-Block.ensures)) c.marked_block.result c.marked_block.ensures

pub marked_node-returns-in_ok-items-in-Brace : goal.marked_node-returns-in_ok-items-in-Brace
marked_node-returns-in_ok-items-in-Brace t c =
    of_brace (table_of c.args.marks.now) c.args.pattern.now c.as_slice-in-Brace.result.now c.in_ok-items-in-Brace.items
    (sym c.pattern.view_is ∙ ap pattern_from c.in-Brace.is ∙ ap (λ (ps : List (PatternOf ℕ)). brace_like (patterns_of ps)) (sym c.as_slice-in-Brace.ensures.value)) c.in_ok-items-in-Brace.ensures

pub marked_nodes-marked_node-requires : goal.marked_nodes-marked_node-requires
marked_nodes-marked_node-requires t c = (omega (arith, weight-pattern c.args.patterns.now c.loop-pattern.pattern-index c.pattern-item.result c.loop-pattern-test.true c.pattern-item.is), tt)

pub marked_messages-marked_message-requires : goal.marked_messages-marked_message-requires
marked_messages-marked_message-requires t c = (omega (arith, weight-message_like c.args.patterns.now c.loop-pattern.pattern-index c.pattern-item.result c.loop-pattern-test.true c.pattern-item.is), tt)

pub marked_statements-marked_node-requires : goal.marked_statements-marked_node-requires
marked_statements-marked_node-requires t c = (omega (arith, weight-statement_like c.args.patterns.now c.loop-pattern.pattern-index c.pattern-item.result c.loop-pattern-test.true c.pattern-item.is), tt)
