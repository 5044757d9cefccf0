use Rattle.std.proofs.Common.{◌≡◌, ℕ, List, length, get_or, refl, rules, arith, sym, ap, subst, ◌∙◌}
use Rattle.std.specs.Prelude.{IfOk}
use Rattle.std.proofs.lemmas.Result.{IfOk-weaker}
use Rattle.tree_model.specs.Tree.{TreeOf, block, no_trees, no_messages, no_statements, trees_of}
use Rattle.tree_model.specs.Measure.{weight, trees_weight}
use Rattle.tree_model.specs.AllNames.{TreesNames}
use Rattle.st_tree.specs.View.{tree_of, messages_of, statements_of}
use Rattle.st_tree.specs.declared.tree.Message.{Message}
use Rattle.st_tree.specs.declared.tree.Statement.{Statement}
use Rattle.st_scope.proofs.Weights.{weight-tree, weight-message, weight-statement}
use Rattle.pattern_model.specs.Patterns.{PatternOf, literal_like, block_like}
use Rattle.patterns.specs.View.{patterns_of, messages_from, statements_from}
use Rattle.patterns.specs.declared.tree.PatternMessage.{PatternMessage}
use Rattle.patterns.specs.declared.tree.PatternStatement.{PatternStatement}
use Rattle.patterns.specs.declared.tree.PatternSequence.{PatternSequence}
use Rattle.event_trees.proofs.Known.{Grows-none, Grows-twice}
use Rattle.pattern_trees.specs.Reading.{Known, IsPattern, ArePatterns, IsMessage, AreMessages, AreStatements}
use Rattle.pattern_trees.proofs.Growing.{still_known, tree_known, trees_known, messages_known}
use Rattle.pattern_trees.proofs.Items.{tree_of_list, message_of_list, statement_of_list}
use Rattle.pattern_trees.proofs.Nodes.{declared_known, a_send, a_cascade, an_assignment, a_block, a_brace, a_return, a_whole, another}
use Rattle.pattern_trees.proofs.NodeKinds.{Reads, reads_literal, of_var, of_send, of_cascade, of_assign, of_block, of_brace, of_return, send_is, cascade_is, assign_is, block_is, brace_is, return_is}
use Rattle.pattern_trees.proofs.Read.{nodes_more, nodes_all, messages_more, messages_all, statements_more, statements_all}
use Rattle.pattern_trees.proofs.walk.+pattern.Goals as goal
use Rattle.pattern_trees.proofs.walk.+pattern.Goals.{message_pattern-in-Whole, message_pattern-in_default}

pub node_pattern-operand_pattern-requires : goal.node_pattern-operand_pattern-requires
node_pattern-operand_pattern-requires t c = of_var (Known c.args.names.now) c.args.node.now c.requires _ (sym c.node.view_is ∙ ap tree_of c.in-Var.is)

pub node_pattern-returns-in-Var-clause-read : goal.node_pattern-returns-in-Var-clause-read
node_pattern-returns-in-Var-clause-read t c = subst (λ (u : TreeOf ℕ). IfOk c.operand_pattern.result (Reads c.operand_pattern.new.names u)) (sym (sym c.node.view_is ∙ ap tree_of c.in-Var.is)) c.operand_pattern.ensures.read

pub node_pattern-send_pattern-requires : goal.node_pattern-send_pattern-requires
node_pattern-send_pattern-requires t c =
    let known = of_send (Known c.args.names.now) c.args.node.now c.requires _ _ _ (send_is (sym c.node.view_is ∙ ap tree_of c.in-Send.is) c.deref.ensures c.as_slice.ensures) in
    (omega (arith, ap (weight {N = ℕ}) (send_is (sym c.node.view_is ∙ ap tree_of c.in-Send.is) c.deref.ensures c.as_slice.ensures)), (known.0, (known.1, known.2)))

pub node_pattern-returns-in-Send-clause-read : goal.node_pattern-returns-in-Send-clause-read
node_pattern-returns-in-Send-clause-read t c = subst (λ (u : TreeOf ℕ). IfOk c.send_pattern.result (Reads c.send_pattern.new.names u)) (sym (send_is (sym c.node.view_is ∙ ap tree_of c.in-Send.is) c.deref.ensures c.as_slice.ensures)) c.send_pattern.ensures.read

pub node_pattern-cascade_pattern-requires : goal.node_pattern-cascade_pattern-requires
node_pattern-cascade_pattern-requires t c =
    let known = of_cascade (Known c.args.names.now) c.args.node.now c.requires _ _ (cascade_is (sym c.node.view_is ∙ ap tree_of c.in-Cascade.is) c.deref-in-Cascade.ensures c.as_slice-in-Cascade.ensures) in
    (omega (arith, ap (weight {N = ℕ}) (cascade_is (sym c.node.view_is ∙ ap tree_of c.in-Cascade.is) c.deref-in-Cascade.ensures c.as_slice-in-Cascade.ensures)), known)

pub node_pattern-returns-in-Cascade-clause-read : goal.node_pattern-returns-in-Cascade-clause-read
node_pattern-returns-in-Cascade-clause-read t c = subst (λ (u : TreeOf ℕ). IfOk c.cascade_pattern.result (Reads c.cascade_pattern.new.names u)) (sym (cascade_is (sym c.node.view_is ∙ ap tree_of c.in-Cascade.is) c.deref-in-Cascade.ensures c.as_slice-in-Cascade.ensures)) c.cascade_pattern.ensures.read

pub node_pattern-assignment_pattern-requires : goal.node_pattern-assignment_pattern-requires
node_pattern-assignment_pattern-requires t c =
    let known = of_assign (Known c.args.names.now) c.args.node.now c.requires _ _ (assign_is (sym c.node.view_is ∙ ap tree_of c.in-Assign.is) c.deref-in-Assign.ensures) in
    (omega (arith, ap (weight {N = ℕ}) (assign_is (sym c.node.view_is ∙ ap tree_of c.in-Assign.is) c.deref-in-Assign.ensures)), known)

pub node_pattern-returns-in-Assign-clause-read : goal.node_pattern-returns-in-Assign-clause-read
node_pattern-returns-in-Assign-clause-read t c = subst (λ (u : TreeOf ℕ). IfOk c.assignment_pattern.result (Reads c.assignment_pattern.new.names u)) (sym (assign_is (sym c.node.view_is ∙ ap tree_of c.in-Assign.is) c.deref-in-Assign.ensures)) c.assignment_pattern.ensures.read

pub node_pattern-block_pattern-requires : goal.node_pattern-block_pattern-requires
node_pattern-block_pattern-requires t c =
    let known = of_block (Known c.args.names.now) c.args.node.now c.requires _ _ _ _ (block_is (sym c.node.view_is ∙ ap tree_of c.in-Block.is) c.deref-in-Block.ensures) in
    (omega (arith, ap (weight {N = ℕ}) (block_is (sym c.node.view_is ∙ ap tree_of c.in-Block.is) c.deref-in-Block.ensures)), (known.0, (known.1, known.2)))

pub node_pattern-returns-in-Block-clause-read : goal.node_pattern-returns-in-Block-clause-read
node_pattern-returns-in-Block-clause-read t c = subst (λ (u : TreeOf ℕ). IfOk c.block_pattern.result (Reads c.block_pattern.new.names u)) (sym (block_is (sym c.node.view_is ∙ ap tree_of c.in-Block.is) c.deref-in-Block.ensures)) c.block_pattern.ensures.read

pub node_pattern-brace_pattern-requires : goal.node_pattern-brace_pattern-requires
node_pattern-brace_pattern-requires t c = (omega (arith, ap (weight {N = ℕ}) (brace_is (sym c.node.view_is ∙ ap tree_of c.in-Brace.is) c.as_slice-in-Brace.ensures)), of_brace (Known c.args.names.now) c.args.node.now c.requires _ (brace_is (sym c.node.view_is ∙ ap tree_of c.in-Brace.is) c.as_slice-in-Brace.ensures))

pub node_pattern-returns-in-Brace-clause-read : goal.node_pattern-returns-in-Brace-clause-read
node_pattern-returns-in-Brace-clause-read t c = subst (λ (u : TreeOf ℕ). IfOk c.brace_pattern.result (Reads c.brace_pattern.new.names u)) (sym (brace_is (sym c.node.view_is ∙ ap tree_of c.in-Brace.is) c.as_slice-in-Brace.ensures)) c.brace_pattern.ensures.read

pub node_pattern-return_pattern-requires : goal.node_pattern-return_pattern-requires
node_pattern-return_pattern-requires t c = (omega (arith, ap (weight {N = ℕ}) (return_is (sym c.node.view_is ∙ ap tree_of c.in-Return.is) c.deref-in-Return.ensures)), of_return (Known c.args.names.now) c.args.node.now c.requires _ (return_is (sym c.node.view_is ∙ ap tree_of c.in-Return.is) c.deref-in-Return.ensures))

pub node_pattern-returns-in-Return-clause-read : goal.node_pattern-returns-in-Return-clause-read
node_pattern-returns-in-Return-clause-read t c = subst (λ (u : TreeOf ℕ). IfOk c.return_pattern.result (Reads c.return_pattern.new.names u)) (sym (return_is (sym c.node.view_is ∙ ap tree_of c.in-Return.is) c.deref-in-Return.ensures)) c.return_pattern.ensures.read

pub node_pattern-returns-in-Literal-clause-read : goal.node_pattern-returns-in-Literal-clause-read
node_pattern-returns-in-Literal-clause-read t c = IfOk-weaker c.literal_pattern.result (λ p. p ≡ literal_like c.in-Literal.value) (Reads c.args.names.now c.args.node.now) (reads_literal c.args.names.now c.args.node.now c.requires c.in-Literal.value (sym c.node.view_is ∙ ap tree_of c.in-Literal.is)) c.literal_pattern.ensures

pub node_pattern-returns-in-Literal-clause-grows : goal.node_pattern-returns-in-Literal-clause-grows
node_pattern-returns-in-Literal-clause-grows t c = Grows-none c.args.names.now

pub send_pattern-boxed_pattern-requires : goal.send_pattern-boxed_pattern-requires
send_pattern-boxed_pattern-requires t c = (omega arith, c.requires.receiver)

pub send_pattern-message_pattern-requires : goal.send_pattern-message_pattern-requires
send_pattern-message_pattern-requires t c = (omega arith, (still_known c.boxed_pattern.ensures.grows c.args.selector c.requires.selector, trees_known c.boxed_pattern.ensures.grows (trees_of c.args.arguments.now) c.requires.arguments))

pub send_pattern-returns-in_err-message-clause-grows : goal.send_pattern-returns-in_err-message-clause-grows
send_pattern-returns-in_err-message-clause-grows t c = Grows-twice c.boxed_pattern.ensures.grows c.message_pattern.ensures.grows

pub send_pattern-returns-clause-grows : goal.send_pattern-returns-clause-grows
send_pattern-returns-clause-grows t c = Grows-twice c.boxed_pattern.ensures.grows c.message_pattern.ensures.grows

pub send_pattern-returns-clause-read : goal.send_pattern-returns-clause-read
send_pattern-returns-clause-read t c = λ final g. a_send final c.args.receiver.now c.args.selector (trees_of c.args.arguments.now) c.in_ok-receiver.receiver.value c.in_ok-message.message (c.in_ok-receiver.ensures.read final (Grows-twice c.message_pattern.ensures.grows g)) (c.in_ok-message.ensures.read final g)

pub cascade_pattern-boxed_pattern-requires : goal.cascade_pattern-boxed_pattern-requires
cascade_pattern-boxed_pattern-requires t c = (omega arith, c.requires.receiver)

pub cascade_pattern-message_patterns-requires : goal.cascade_pattern-message_patterns-requires
cascade_pattern-message_patterns-requires t c = (omega arith, messages_known c.boxed_pattern.ensures.grows (messages_of c.args.messages.now) c.requires.messages)

pub cascade_pattern-returns-in_err-messages-clause-grows : goal.cascade_pattern-returns-in_err-messages-clause-grows
cascade_pattern-returns-in_err-messages-clause-grows t c = Grows-twice c.boxed_pattern.ensures.grows c.message_patterns.ensures.grows

pub cascade_pattern-returns-clause-grows : goal.cascade_pattern-returns-clause-grows
cascade_pattern-returns-clause-grows t c = Grows-twice c.boxed_pattern.ensures.grows c.message_patterns.ensures.grows

pub cascade_pattern-returns-clause-read : goal.cascade_pattern-returns-clause-read
cascade_pattern-returns-clause-read t c = λ final g. a_cascade final c.args.receiver.now (messages_of c.args.messages.now) c.in_ok-receiver.receiver.value _ (c.in_ok-receiver.ensures.read final (Grows-twice c.message_patterns.ensures.grows g)) (c.in_ok-messages.ensures.read final g)

pub assignment_pattern-boxed_pattern-requires : goal.assignment_pattern-boxed_pattern-requires
assignment_pattern-boxed_pattern-requires t c = (omega arith, c.requires.value)

pub assignment_pattern-returns-clause-grows : goal.assignment_pattern-returns-clause-grows
assignment_pattern-returns-clause-grows t c = c.boxed_pattern.ensures.grows

pub assignment_pattern-returns-clause-read : goal.assignment_pattern-returns-clause-read
assignment_pattern-returns-clause-read t c = λ final g. an_assignment final c.args.name c.args.value.now c.in_ok-value.value.value (still_known (Grows-twice c.boxed_pattern.ensures.grows g) c.args.name c.requires.name) (c.in_ok-value.ensures.read final g)

pub block_pattern-sequence_pattern-requires : goal.block_pattern-sequence_pattern-requires
block_pattern-sequence_pattern-requires t c = (omega arith, c.requires.statements)

pub block_pattern-returns-clause-grows : goal.block_pattern-returns-clause-grows
block_pattern-returns-clause-grows t c = c.sequence_pattern.ensures.grows

pub block_pattern-returns-clause-read : goal.block_pattern-returns-clause-read
block_pattern-returns-clause-read t c =
    let body : PatternSequence = c.in_ok-sequence.sequence in
    λ final g.
    subst (λ (d : PatternSequence). IsPattern final (block c.args.parameters.now c.args.body.now.temporaries (statements_of c.args.body.now.statements) c.args.body.now.tail) (block_like c.in_ok-parameters.parameters d.temporaries (statements_from d.statements.items) d.tail)) (sym c.in_ok-body.ensures.ok)
    (subst (λ (ps : List ℕ). IsPattern final (block c.args.parameters.now c.args.body.now.temporaries (statements_of c.args.body.now.statements) c.args.body.now.tail) (block_like ps body.temporaries (statements_from body.statements.items) body.tail)) (sym c.in_ok-parameters.ensures)
    (a_block final c.args.parameters.now c.args.body.now body (declared_known (Grows-twice c.sequence_pattern.ensures.grows g) c.args.parameters.now c.args.body.now.temporaries c.requires.parameters c.requires.temporaries) (c.in_ok-sequence.ensures.read final g)))

pub brace_pattern-returns-clause-read : goal.brace_pattern-returns-clause-read
brace_pattern-returns-clause-read t c = λ final g. a_brace final (trees_of c.args.nodes.now) _ (c.in_ok-items.ensures.read final g)

pub return_pattern-returns-clause-read : goal.return_pattern-returns-clause-read
return_pattern-returns-clause-read t c = λ final g. a_return final c.args.value.now c.in_ok-value.value.value (c.in_ok-value.ensures.read final g)

pub node_patterns-loop-node-init : goal.node_patterns-loop-node-init
node_patterns-loop-node-init t c = record { read = λ final g. subst (λ (ps : List (PatternOf ℕ)). ArePatterns final no_trees (patterns_of ps)) (sym c.new-patterns.ensures.items) (record { same = refl; known = tt }); grows = Grows-none c.args.names.now }

pub node_patterns-node_pattern-requires : goal.node_patterns-node_pattern-requires
node_patterns-node_pattern-requires t c = (omega (arith, weight-tree c.args.nodes.now c.loop-node.node-index c.node-item.result c.loop-node-test.true c.node-item.is), tree_known c.loop-node.invariant.grows c.node-item.result (tree_of_list (Known c.args.names.now) c.args.nodes.now c.loop-node.node-index c.node-item.result c.loop-node-test.true c.node-item.is c.requires))

pub node_patterns-returns-in_err-pattern-clause-grows : goal.node_patterns-returns-in_err-pattern-clause-grows
node_patterns-returns-in_err-pattern-clause-grows t c = Grows-twice c.loop-node.invariant.grows c.node_pattern.ensures.grows

pub node_patterns-returns-in_err-push-clause-grows : goal.node_patterns-returns-in_err-push-clause-grows
node_patterns-returns-in_err-push-clause-grows t c = Grows-twice c.loop-node.invariant.grows c.node_pattern.ensures.grows

pub message_pattern-node_patterns-requires : goal.message_pattern-node_patterns-requires
message_pattern-node_patterns-requires t c = (omega arith, trees_known c.selector_pattern.ensures.grows (trees_of c.args.arguments.now) c.requires.arguments)

pub message_pattern-returns-in_err-arguments-clause-grows : goal.message_pattern-returns-in_err-arguments-clause-grows
message_pattern-returns-in_err-arguments-clause-grows t c = Grows-twice c.selector_pattern.ensures.grows c.node_patterns.ensures.grows

pub message_pattern-returns-clause-grows : goal.message_pattern-returns-clause-grows
message_pattern-returns-clause-grows t c = Grows-twice c.selector_pattern.ensures.grows c.node_patterns.ensures.grows

pub message_patterns-loop-message-init : goal.message_patterns-loop-message-init
message_patterns-loop-message-init t c = record { read = λ final g. subst (λ (ps : List PatternMessage). AreMessages final no_messages (messages_from ps)) (sym c.new-patterns.ensures.items) (record { same = refl; known = tt }); grows = Grows-none c.args.names.now }

pub message_patterns-message_pattern-requires : goal.message_patterns-message_pattern-requires
message_patterns-message_pattern-requires t c =
    let m : Message = c.message-item.result in
    let known = (message_of_list (Known c.args.names.now) c.args.messages.now c.loop-message.message-index c.message-item.result c.loop-message-test.true c.message-item.is c.requires) in (
      omega (arith, weight-message c.args.messages.now c.loop-message.message-index c.message-item.result c.loop-message-test.true c.message-item.is, ap (λ (ts : List (TreeOf ℕ)). trees_weight (trees_of ts)) c.as_slice-arguments.ensures),
      (still_known c.loop-message.invariant.grows m.selector known.0, subst (λ (ts : List (TreeOf ℕ)). TreesNames (Known c.loop-message.names) (trees_of ts)) (sym c.as_slice-arguments.ensures) (trees_known c.loop-message.invariant.grows (trees_of m.arguments) known.1)),
    )

pub message_patterns-returns-in_err-pattern-clause-grows : goal.message_patterns-returns-in_err-pattern-clause-grows
message_patterns-returns-in_err-pattern-clause-grows t c = Grows-twice c.loop-message.invariant.grows c.message_pattern.ensures.grows

pub message_patterns-returns-in_err-push-clause-grows : goal.message_patterns-returns-in_err-push-clause-grows
message_patterns-returns-in_err-push-clause-grows t c = Grows-twice c.loop-message.invariant.grows c.message_pattern.ensures.grows

pub sequence_pattern-loop-statement-init : goal.sequence_pattern-loop-statement-init
sequence_pattern-loop-statement-init t c = record { read = λ final g. subst (λ (ps : List PatternStatement). AreStatements final no_statements (statements_from ps)) (sym c.new-statements.ensures.items) (record { same = refl; known = tt }); grows = Grows-none c.args.names.now }

pub sequence_pattern-node_pattern-requires : goal.sequence_pattern-node_pattern-requires
sequence_pattern-node_pattern-requires t c =
    let x : Statement = c.statement-item.result in
    let ss : List Statement = c.args.body.now.statements in
    let all = c.as_slice-statement-items.ensures in
    (omega (arith, weight-statement ss c.loop-statement.statement-index x (omega (arith, c.loop-statement-test.true, ap (λ (ys : List Statement). length ys) all)) (c.statement-item.is ∙ ap (λ (ys : List Statement). get_or ys c.loop-statement.statement-index x) all)), tree_known c.loop-statement.invariant.grows x.node (statement_of_list (Known c.args.names.now) ss c.loop-statement.statement-index x (omega (arith, c.loop-statement-test.true, ap (λ (ys : List Statement). length ys) all)) (c.statement-item.is ∙ ap (λ (ys : List Statement). get_or ys c.loop-statement.statement-index x) all) c.requires))

pub sequence_pattern-returns-in_err-node-clause-grows : goal.sequence_pattern-returns-in_err-node-clause-grows
sequence_pattern-returns-in_err-node-clause-grows t c = Grows-twice c.loop-statement.invariant.grows c.node_pattern.ensures.grows

pub sequence_pattern-returns-in_err-push-clause-grows : goal.sequence_pattern-returns-in_err-push-clause-grows
sequence_pattern-returns-in_err-push-clause-grows t c = Grows-twice c.loop-statement.invariant.grows c.node_pattern.ensures.grows

pub sequence_pattern-returns-clause-read : goal.sequence_pattern-returns-clause-read
sequence_pattern-returns-clause-read t c =
    let ss : List Statement = c.args.body.now.statements in
    let all = c.as_slice-statement-items.ensures in
    λ final g.
    record {
      temporaries = c.in_ok-temporaries.ensures;
      statements = statements_all final ss c.loop-statement.statement-index c.loop-statement.statements.items (omega (arith, c.loop-statement-test.false, ap (λ (ys : List Statement). length ys) all)) (c.loop-statement.invariant.read final g);
      tail = c.in_ok-tail.ensures;
    }

pub node_patterns-loop-node-preserved : goal.node_patterns-loop-node-preserved
node_patterns-loop-node-preserved t c =
    let l = c.loop-node in
    record {
      read = λ final g.
          nodes_more final c.args.nodes.now l.node-index c.node-item.result c.loop-node-test.true c.node-item.is l.patterns.items c.push.new.self.items c.in_ok-pattern.pattern (search rules) (l.invariant.read final (Grows-twice c.in_ok-pattern.ensures.grows g))
          (c.in_ok-pattern.ensures.read final g);
      grows = Grows-twice l.invariant.grows c.in_ok-pattern.ensures.grows;
    }

pub node_patterns-returns-clause-read : goal.node_patterns-returns-clause-read
node_patterns-returns-clause-read t c = λ final g. nodes_all final c.args.nodes.now c.loop-node.node-index c.loop-node.patterns.items c.loop-node-test.false (c.loop-node.invariant.read final g)

pub message_patterns-returns-clause-read : goal.message_patterns-returns-clause-read
message_patterns-returns-clause-read t c = λ final g. messages_all final c.args.messages.now c.loop-message.message-index c.loop-message.patterns.items c.loop-message-test.false (c.loop-message.invariant.read final g)

pub boxed_pattern-returns-clause-read : goal.boxed_pattern-returns-clause-read
boxed_pattern-returns-clause-read t c = λ final g. subst (λ (p : PatternOf ℕ). IsPattern final c.args.node.now p) (sym c.in_ok-new.ensures.ok) (c.in_ok-pattern.ensures.read final g)

pub message_pattern-returns-then-matches-clause-read : goal.message_pattern-returns-then-matches-clause-read
message_pattern-returns-then-matches-clause-read t c = λ final g.
    a_whole final c.args.selector (trees_of c.args.arguments.now) (record { selector = c.in_ok-selector.selector; arguments = c.new.result })
    (elim c.match-matches.branch [
      | message_pattern-in-Whole w ↦ first_of (search rules, cc)
      | message_pattern-in_default w ↦ first_of (search rules, cc)
    ])
    c.new.ensures.items (c.in_ok-selector.ensures.read final g)

pub message_pattern-returns-clause-read : goal.message_pattern-returns-clause-read
message_pattern-returns-clause-read t c = λ final g.
    another final c.args.selector (trees_of c.args.arguments.now) (record { selector = c.in_ok-selector.selector; arguments = c.in_ok-arguments.arguments })
    (elim c.match-matches.branch [
      | message_pattern-in-Whole w ↦ first_of (search rules, cc)
      | message_pattern-in_default w ↦ first_of (search rules, cc)
    ])
    (c.in_ok-selector.ensures.read final (Grows-twice c.in_ok-arguments.ensures.grows g)) (c.in_ok-arguments.ensures.read final g)

pub message_patterns-loop-message-preserved : goal.message_patterns-loop-message-preserved
message_patterns-loop-message-preserved t c =
    let l = c.loop-message in
    let m : Message = c.message-item.result in
    record {
      read = λ final g.
          messages_more final c.args.messages.now l.message-index m c.loop-message-test.true c.message-item.is l.patterns.items c.push.new.self.items c.in_ok-pattern.pattern (search rules) (l.invariant.read final (Grows-twice c.in_ok-pattern.ensures.grows g))
          (subst (λ (ts : List (TreeOf ℕ)). IsMessage final m.selector (trees_of ts) c.in_ok-pattern.pattern) c.as_slice-arguments.ensures (c.in_ok-pattern.ensures.read final g));
      grows = Grows-twice l.invariant.grows c.in_ok-pattern.ensures.grows;
    }

pub sequence_pattern-loop-statement-preserved : goal.sequence_pattern-loop-statement-preserved
sequence_pattern-loop-statement-preserved t c =
    let l = c.loop-statement in
    let x : Statement = c.statement-item.result in
    let ss : List Statement = c.args.body.now.statements in
    let all = c.as_slice-statement-items.ensures in
    record {
      read = λ final g.
          statements_more final ss l.statement-index x (omega (arith, c.loop-statement-test.true, ap (λ (ys : List Statement). length ys) all)) (c.statement-item.is ∙ ap (λ (ys : List Statement). get_or ys l.statement-index x) all)
          l.statements.items c.push.new.self.items (record { comments = c.in_ok-comments.comments; node = c.in_ok-node.node }) (search rules) (l.invariant.read final (Grows-twice c.in_ok-node.ensures.grows g)) c.in_ok-comments.ensures (c.in_ok-node.ensures.read final g);
      grows = Grows-twice l.invariant.grows c.in_ok-node.ensures.grows;
    }
