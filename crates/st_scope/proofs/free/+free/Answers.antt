use Rattle.std.proofs.Common.{sym, ap, ◌∙◌}
use Rattle.scope_model.specs.NameTests.{is_pseudo_in}
use Rattle.st_tree.specs.View.{tree_of}
use Rattle.st_tree.specs.declared.tree.Sequence.{Sequence}
use Rattle.st_scope.proofs.Gathering.{gather_more, free_in_trees-drop, free_in_messages-drop, free_in_statements-drop, gathers_block}
use Rattle.st_scope.proofs.free.+free.Goals as goal

pub gather-returns-in_ok-gather_statements-in-Block-clause-bound : goal.gather-returns-in_ok-gather_statements-in-Block-clause-bound
gather-returns-in_ok-gather_statements-in-Block-clause-bound t c =
    (gathers_block (is_pseudo_in c.args.names.now) c.args.node.now
    c.in-Block.parameters c.in-Block.body.value.temporaries c.in-Block.body.value.statements c.in-Block.body.value.tail
    c.as_slice-in-Block.result.now c.as_slice-in-Block-2.result.now c.as_slice-in-Block-3.result.now
    c.args.bound.now c.declare.new.bound c.declare-in-Block.new.bound c.gather_statements.new.bound c.truncate.new.self
    c.args.found.now c.gather_statements.new.found c.len-around.result
    (sym c.node.view_is ∙ ap tree_of c.in-Block.is)
    c.as_slice-in-Block.ensures
    (c.as_slice-in-Block-2.ensures ∙ ap (λ (b : Sequence). b.temporaries) c.deref-in-Block.ensures)
    (c.as_slice-in-Block-3.ensures ∙ ap (λ (b : Sequence). b.statements) c.deref-in-Block-2.ensures)
    c.len-around.ensures c.in_ok-declare-in-Block.ensures c.in_ok-declare-in-Block-2.ensures
    c.in_ok-gather_statements-in-Block.ensures.bound c.truncate.ensures c.in_ok-gather_statements-in-Block.ensures.found).0

pub gather-returns-in_ok-gather_statements-in-Block-clause-found : goal.gather-returns-in_ok-gather_statements-in-Block-clause-found
gather-returns-in_ok-gather_statements-in-Block-clause-found t c =
    (gathers_block (is_pseudo_in c.args.names.now) c.args.node.now
    c.in-Block.parameters c.in-Block.body.value.temporaries c.in-Block.body.value.statements c.in-Block.body.value.tail
    c.as_slice-in-Block.result.now c.as_slice-in-Block-2.result.now c.as_slice-in-Block-3.result.now
    c.args.bound.now c.declare.new.bound c.declare-in-Block.new.bound c.gather_statements.new.bound c.truncate.new.self
    c.args.found.now c.gather_statements.new.found c.len-around.result
    (sym c.node.view_is ∙ ap tree_of c.in-Block.is)
    c.as_slice-in-Block.ensures
    (c.as_slice-in-Block-2.ensures ∙ ap (λ (b : Sequence). b.temporaries) c.deref-in-Block.ensures)
    (c.as_slice-in-Block-3.ensures ∙ ap (λ (b : Sequence). b.statements) c.deref-in-Block-2.ensures)
    c.len-around.ensures c.in_ok-declare-in-Block.ensures c.in_ok-declare-in-Block-2.ensures
    c.in_ok-gather_statements-in-Block.ensures.bound c.truncate.ensures c.in_ok-gather_statements-in-Block.ensures.found).1

pub gather_nodes-loop-node-preserved : goal.gather_nodes-loop-node-preserved
gather_nodes-loop-node-preserved t c =
    gather_more _ _ _ _ _ _ _ _ _ c.loop-node.invariant
    (free_in_trees-drop (is_pseudo_in c.args.names.now) c.args.nodes.now c.loop-node.node-index c.node-item.result c.loop-node-test.true c.node-item.is)
    c.in_ok-gather.ensures.bound c.in_ok-gather.ensures.found

pub gather_messages-loop-message-preserved : goal.gather_messages-loop-message-preserved
gather_messages-loop-message-preserved t c =
    gather_more _ _ _ _ _ _ _ _ _ c.loop-message.invariant
    (free_in_messages-drop (is_pseudo_in c.args.names.now) c.args.messages.now c.loop-message.message-index c.message-item.result c.as_slice.result.now
    c.loop-message-test.true c.message-item.is c.as_slice.ensures)
    c.in_ok-gather_nodes.ensures.bound c.in_ok-gather_nodes.ensures.found

pub gather_statements-loop-statement-preserved : goal.gather_statements-loop-statement-preserved
gather_statements-loop-statement-preserved t c =
    gather_more _ _ _ _ _ _ _ _ _ c.loop-statement.invariant
    (free_in_statements-drop (is_pseudo_in c.args.names.now) c.args.statements.now c.loop-statement.statement-index c.statement-item.result
    c.loop-statement-test.true c.statement-item.is)
    c.in_ok-gather.ensures.bound c.in_ok-gather.ensures.found
