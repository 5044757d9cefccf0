use Rattle.std.proofs.Common.{◌≡◌, ℕ, true, false, List, map, sym, ap, subst, arith, rules}
use Rattle.std.specs.Prelude.{IfOk}
use Rattle.std.specs.List.{AllByRecursion}
use Rattle.std.proofs.lemmas.Result.{IfOk-weaker}
use Rattle.tree_model.specs.Tree.{TreeOf, literal, trees_of}
use Rattle.tree_model.specs.AllNames.{AllNames, TreesNames, StatementsNames}
use Rattle.tree_model.specs.Measure.{height, trees_height, statements_height}
use Rattle.st_tree.specs.View.{tree_of, messages_of, statements_of}
use Rattle.st_tree.specs.declared.tree.Message.{Message}
use Rattle.st_tree.specs.declared.tree.Sequence.{Sequence}
use Rattle.st_tree.specs.declared.tree.Statement.{Statement}
use Rattle.event_trees.specs.Naming.{Grows}
use Rattle.event_trees.proofs.Known.{Grows-none, Grows-twice}
use Rattle.pattern_model.specs.Bindings.{BoundOf, a_part, a_run, a_message}
use Rattle.pattern_model.specs.Rewritten.{each_child}
use Rattle.patterns.specs.View.{meta_of}
use Rattle.pattern_match.specs.Bound.{bound_of, held_of}
use Rattle.pattern_match.specs.Gathering.{bound_from}
use Rattle.pattern_match.specs.declared.bindings.Held.{Held}
use Rattle.pattern_match.specs.declared.standing.Standing.{Standing}
use Rattle.filled_patterns.specs.declared.bindings.Binding.{Binding}
use Rattle.filled_patterns.specs.Bound.{BoundNames, BindingNames}
use Rattle.rewritten_code.specs.Changed.{Paired, Known, becomes, replaced, AreBoundIn, IsChanged, IsMessageChanged, IsStatementChanged, IsBoundChanged, AreChanged}
use Rattle.rewritten_code.specs.Lower.{height_bound, bindings_height}
use Rattle.rewritten_code.proofs.PatternsSame.{names_imply}
use Rattle.rewritten_code.proofs.Growing.{still_known, tree_known, trees_known, messages_known, rule_known, binding_known}
use Rattle.rewritten_code.proofs.LowerBound.{height_tree, height_message, height_statement, height_binding}
use Rattle.rewritten_code.proofs.Written.{paired_none, paired_put, paired_all, changed_none, changed_put, changed_all, tree_in, message_in, statement_in, binding_in, message_made, statement_made}
use Rattle.rewritten_code.proofs.Matching.{FillsSame, FillsKnown, goes_on, still_becomes, put_rewritten, then_replaced, found_some, found_none, found_low, meta_some, meta_none, is_whole_by, if_both}
use Rattle.rewritten_code.proofs.NodeKinds.{Becomes, BelowBecomes, BoundBecomes, of_send, of_cascade, of_assign, of_block, of_brace, of_return, send_is, cascade_is, assign_is, block_is, brace_is, return_is, made_send, made_cascade, made_assignment, block_made, made_brace, made_return, made_part, made_run, made_message, made_doubled, made_single, var_stays, literal_stays, copied_stays, doubled_same}
use Rattle.rewritten_code.proofs.rewriting.+rewriting.Goals as goal

pub rewritten_send-boxed_node-requires : goal.rewritten_send-boxed_node-requires
rewritten_send-boxed_node-requires t c = (omega arith, (c.requires.rule, c.requires.receiver))

pub rewritten_send-rewritten_nodes-requires : goal.rewritten_send-rewritten_nodes-requires
rewritten_send-rewritten_nodes-requires t c =
    let g = c.boxed_node.ensures.grows in
    (omega arith, (rule_known g c.args.rule.now c.requires.rule, trees_known g (trees_of c.args.arguments.now) c.requires.arguments))

pub rewritten_send-returns-clause-changed : goal.rewritten_send-returns-clause-changed
rewritten_send-returns-clause-changed t c = λ final g.
    let whole = Grows-twice c.boxed_node.ensures.grows (Grows-twice c.rewritten_nodes.ensures.grows g) in
    made_send final (becomes final c.args.rule.now) c.args.receiver.now c.in_ok-receiver.receiver.value c.args.selector c.args.arguments.now c.in_ok-arguments.arguments (still_known whole c.args.selector c.requires.selector)
    (c.in_ok-receiver.ensures.changed final (Grows-twice c.rewritten_nodes.ensures.grows g)) (c.in_ok-arguments.ensures.changed final g)

pub rewritten_nodes-loop-node-init : goal.rewritten_nodes-loop-node-init
rewritten_nodes-loop-node-init t c = record {
  grows = Grows-none c.args.names.now;
  changed = λ final g. paired_none (IsChanged final (becomes final c.args.rule.now)) c.args.nodes.now _ c.new-made.ensures.items;
}

pub rewritten_nodes-rewritten_node-requires : goal.rewritten_nodes-rewritten_node-requires
rewritten_nodes-rewritten_node-requires t c =
    let l = c.loop-node in
    let xs : List (TreeOf ℕ) = c.args.nodes.now in
    let x : TreeOf ℕ = c.node-item.result in (
      omega (arith, height_tree xs l.node-index x c.loop-node-test.true c.node-item.is),
      (rule_known l.invariant.grows c.args.rule.now c.requires.rule, tree_known l.invariant.grows x (tree_in (Known c.args.names.now) xs l.node-index x c.loop-node-test.true c.node-item.is c.requires.nodes)),
    )

pub rewritten_nodes-loop-node-preserved : goal.rewritten_nodes-loop-node-preserved
rewritten_nodes-loop-node-preserved t c =
    let l = c.loop-node in
    let g0 = c.rewritten_node.ensures.grows in
    record {
      grows = Grows-twice l.invariant.grows g0;
      changed = λ final g.
          paired_put (IsChanged final (becomes final c.args.rule.now)) c.args.nodes.now l.made.items c.push.new.self.items c.node-item.result c.in_ok-one.one l.node-index c.loop-node-test.true c.node-item.is (search rules)
          (l.invariant.changed final (Grows-twice g0 g)) (c.in_ok-one.ensures.changed final g);
    }

pub rewritten_nodes-returns-clause-changed : goal.rewritten_nodes-returns-clause-changed
rewritten_nodes-returns-clause-changed t c = λ final g.
    let l = c.loop-node in
    paired_all (IsChanged final (becomes final c.args.rule.now)) c.args.nodes.now l.made.items c.from_vec.result l.node-index c.loop-node-test.false c.from_vec.ensures (l.invariant.changed final g)

pub rewritten_cascade-boxed_node-requires : goal.rewritten_cascade-boxed_node-requires
rewritten_cascade-boxed_node-requires t c = (omega arith, (c.requires.rule, c.requires.receiver))

pub rewritten_cascade-rewritten_messages-requires : goal.rewritten_cascade-rewritten_messages-requires
rewritten_cascade-rewritten_messages-requires t c =
    let g = c.boxed_node.ensures.grows in
    (omega arith, (rule_known g c.args.rule.now c.requires.rule, messages_known g (messages_of c.args.messages.now) c.requires.messages))

pub rewritten_cascade-returns-clause-changed : goal.rewritten_cascade-returns-clause-changed
rewritten_cascade-returns-clause-changed t c = λ final g.
    made_cascade final (becomes final c.args.rule.now) c.args.receiver.now c.in_ok-receiver.receiver.value c.args.messages.now c.in_ok-messages.messages
    (c.in_ok-receiver.ensures.changed final (Grows-twice c.rewritten_messages.ensures.grows g)) (c.in_ok-messages.ensures.changed final g)

pub rewritten_assignment-returns-clause-changed : goal.rewritten_assignment-returns-clause-changed
rewritten_assignment-returns-clause-changed t c = λ final g.
    made_assignment final (becomes final c.args.rule.now) c.args.name c.args.value.now c.in_ok-value.value.value (still_known (Grows-twice c.boxed_node.ensures.grows g) c.args.name c.requires.name) (c.in_ok-value.ensures.changed final g)

pub rewritten_brace-returns-clause-changed : goal.rewritten_brace-returns-clause-changed
rewritten_brace-returns-clause-changed t c = λ final g. made_brace final (becomes final c.args.rule.now) c.args.items.now c.in_ok-items.items (c.in_ok-items.ensures.changed final g)

pub rewritten_return-returns-clause-changed : goal.rewritten_return-returns-clause-changed
rewritten_return-returns-clause-changed t c = λ final g. made_return final (becomes final c.args.rule.now) c.args.value.now c.in_ok-value.value.value (c.in_ok-value.ensures.changed final g)

pub rewritten_messages-loop-message-init : goal.rewritten_messages-loop-message-init
rewritten_messages-loop-message-init t c = record {
  grows = Grows-none c.args.names.now;
  changed = λ final g. paired_none (IsMessageChanged final (becomes final c.args.rule.now)) c.args.messages.now _ c.new-made.ensures.items;
}

pub rewritten_messages-rewritten_nodes-requires : goal.rewritten_messages-rewritten_nodes-requires
rewritten_messages-rewritten_nodes-requires t c =
    let l = c.loop-message in
    let xs : List Message = c.args.messages.now in
    let x : Message = c.message-item.result in
    let known = message_in (Known c.args.names.now) xs l.message-index x c.loop-message-test.true c.message-item.is c.requires.messages in (
      omega (arith, height_message xs l.message-index x c.loop-message-test.true c.message-item.is, ap (λ (ts : List (TreeOf ℕ)). trees_height (trees_of ts)) c.as_slice.ensures),
      (
        rule_known l.invariant.grows c.args.rule.now c.requires.rule,
        subst (λ (ts : List (TreeOf ℕ)). TreesNames (Known l.names) (trees_of ts)) (sym c.as_slice.ensures) (trees_known l.invariant.grows (trees_of x.arguments) known.1),
      ),
    )

pub rewritten_messages-loop-message-preserved : goal.rewritten_messages-loop-message-preserved
rewritten_messages-loop-message-preserved t c =
    let l = c.loop-message in
    let xs : List Message = c.args.messages.now in
    let x : Message = c.message-item.result in
    let known = message_in (Known c.args.names.now) xs l.message-index x c.loop-message-test.true c.message-item.is c.requires.messages in
    let g0 = c.rewritten_nodes.ensures.grows in
    record {
      grows = Grows-twice l.invariant.grows g0;
      changed = λ final g.
          paired_put (IsMessageChanged final (becomes final c.args.rule.now)) xs l.made.items c.push.new.self.items x (record { selector = x.selector; arguments = c.in_ok-arguments.arguments }) l.message-index c.loop-message-test.true c.message-item.is (search rules)
          (l.invariant.changed final (Grows-twice g0 g))
          (message_made final (becomes final c.args.rule.now) x c.in_ok-arguments.arguments (still_known (Grows-twice l.invariant.grows (Grows-twice g0 g)) x.selector known.0)
          (subst (λ (ts : List (TreeOf ℕ)). Paired (IsChanged final (becomes final c.args.rule.now)) ts c.in_ok-arguments.arguments) c.as_slice.ensures (c.in_ok-arguments.ensures.changed final g)));
    }

pub rewritten_messages-returns-clause-changed : goal.rewritten_messages-returns-clause-changed
rewritten_messages-returns-clause-changed t c = λ final g.
    let l = c.loop-message in
    paired_all (IsMessageChanged final (becomes final c.args.rule.now)) c.args.messages.now l.made.items c.from_vec.result l.message-index c.loop-message-test.false c.from_vec.ensures (l.invariant.changed final g)

pub rewritten_statements-loop-statement-init : goal.rewritten_statements-loop-statement-init
rewritten_statements-loop-statement-init t c = record {
  grows = Grows-none c.args.names.now;
  changed = λ final g. paired_none (IsStatementChanged final (becomes final c.args.rule.now)) c.args.statements.now _ c.new-made.ensures.items;
}

pub rewritten_statements-rewritten_node-requires : goal.rewritten_statements-rewritten_node-requires
rewritten_statements-rewritten_node-requires t c =
    let l = c.loop-statement in
    let xs : List Statement = c.args.statements.now in
    let x : Statement = c.statement-item.result in (
      omega (arith, height_statement xs l.statement-index x c.loop-statement-test.true c.statement-item.is),
      (rule_known l.invariant.grows c.args.rule.now c.requires.rule, tree_known l.invariant.grows x.node (statement_in (Known c.args.names.now) xs l.statement-index x c.loop-statement-test.true c.statement-item.is c.requires.statements)),
    )

pub rewritten_statements-loop-statement-preserved : goal.rewritten_statements-loop-statement-preserved
rewritten_statements-loop-statement-preserved t c =
    let l = c.loop-statement in
    let x : Statement = c.statement-item.result in
    let g0 = c.rewritten_node.ensures.grows in
    record {
      grows = Grows-twice l.invariant.grows g0;
      changed = λ final g.
          paired_put (IsStatementChanged final (becomes final c.args.rule.now)) c.args.statements.now l.made.items c.push.new.self.items x (record { comments = c.in_ok-comments.comments; node = c.in_ok-node.node }) l.statement-index c.loop-statement-test.true c.statement-item.is (search rules)
          (l.invariant.changed final (Grows-twice g0 g)) (statement_made final (becomes final c.args.rule.now) x c.in_ok-comments.comments c.in_ok-node.node c.in_ok-comments.ensures (c.in_ok-node.ensures.changed final g));
    }

pub rewritten_statements-returns-clause-changed : goal.rewritten_statements-returns-clause-changed
rewritten_statements-returns-clause-changed t c = λ final g.
    let l = c.loop-statement in
    paired_all (IsStatementChanged final (becomes final c.args.rule.now)) c.args.statements.now l.made.items c.from_vec.result l.statement-index c.loop-statement-test.false c.from_vec.ensures (l.invariant.changed final g)

pub rewritten_bindings-loop-one-init : goal.rewritten_bindings-loop-one-init
rewritten_bindings-loop-one-init t c = record {
  grows = Grows-none c.args.names.now;
  changed = λ final g. changed_none final (becomes final c.args.rule.now) c.args.held.now _ c.new-made.ensures.items;
}

pub rewritten_bindings-rewritten_binding-requires : goal.rewritten_bindings-rewritten_binding-requires
rewritten_bindings-rewritten_binding-requires t c =
    let l = c.loop-one in
    let xs : List Held = c.args.held.now in
    let x : Held = c.one-item.result in (
      omega (arith, height_binding xs l.one-index x c.loop-one-test.true c.one-item.is),
      (
        rule_known l.invariant.grows c.args.rule.now c.requires.rule,
        binding_known l.invariant.grows (held_of x) (binding_in (Known c.args.names.now) xs l.one-index x c.loop-one-test.true c.one-item.is c.requires.held),
      ),
    )

pub rewritten_bindings-loop-one-preserved : goal.rewritten_bindings-loop-one-preserved
rewritten_bindings-loop-one-preserved t c =
    let l = c.loop-one in
    let g0 = c.rewritten_binding.ensures.grows in
    record {
      grows = Grows-twice l.invariant.grows g0;
      changed = λ final g.
          changed_put final (becomes final c.args.rule.now) c.args.held.now l.made.items c.push.new.self.items c.one-item.result c.in_ok-binding.binding l.one-index c.loop-one-test.true c.one-item.is (search rules)
          (l.invariant.changed final (Grows-twice g0 g)) (c.in_ok-binding.ensures.changed final g);
    }

pub rewritten_bindings-returns-clause-changed : goal.rewritten_bindings-returns-clause-changed
rewritten_bindings-returns-clause-changed t c = λ final g.
    let l = c.loop-one in
    changed_all final (becomes final c.args.rule.now) c.args.held.now l.made.items l.one-index c.loop-one-test.false (l.invariant.changed final g)

pub rewritten_below-returns-in-Var-clause-changed : goal.rewritten_below-returns-in-Var-clause-changed
rewritten_below-returns-in-Var-clause-changed t c = var_stays c.args.names.now c.args.rule.now (tree_of c.args.kind.now) c.in-Var.name c.requires.node (ap tree_of c.in-Var.is)

pub rewritten_below-returns-in-Literal-clause-changed : goal.rewritten_below-returns-in-Literal-clause-changed
rewritten_below-returns-in-Literal-clause-changed t c =
    let names = c.args.names.now in
    let k : TreeOf ℕ = tree_of c.args.kind.now in
    IfOk-weaker c.literal_node.result (λ u. u ≡ literal c.in-Literal.value) (BelowBecomes names c.args.rule.now k)
    (λ u e. literal_stays names c.args.rule.now k u c.in-Literal.value c.requires.node (ap tree_of c.in-Literal.is) e)
    c.literal_node.ensures

pub rewritten_below-rewritten_send-requires : goal.rewritten_below-rewritten_send-requires
rewritten_below-rewritten_send-requires t c =
    let is = send_is (ap tree_of c.in-Send.is) c.deref.ensures c.as_slice-arguments.ensures in
    let known = of_send (Known c.args.names.now) (tree_of c.args.kind.now) c.requires.node _ _ _ is in
    (omega (arith, ap (height {N = ℕ}) is), (c.requires.rule, (known.0, (known.1, known.2))))

pub rewritten_below-returns-in-Send-clause-changed : goal.rewritten_below-returns-in-Send-clause-changed
rewritten_below-returns-in-Send-clause-changed t c =
    subst (λ (k : TreeOf ℕ). IfOk c.rewritten_send.result (BelowBecomes c.rewritten_send.new.names c.args.rule.now k)) (sym (send_is (ap tree_of c.in-Send.is) c.deref.ensures c.as_slice-arguments.ensures)) c.rewritten_send.ensures.changed

pub rewritten_below-rewritten_cascade-requires : goal.rewritten_below-rewritten_cascade-requires
rewritten_below-rewritten_cascade-requires t c =
    let is = cascade_is (ap tree_of c.in-Cascade.is) c.deref-in-Cascade.ensures c.as_slice.ensures in
    let known = of_cascade (Known c.args.names.now) (tree_of c.args.kind.now) c.requires.node _ _ is in
    (omega (arith, ap (height {N = ℕ}) is), (c.requires.rule, known))

pub rewritten_below-returns-in-Cascade-clause-changed : goal.rewritten_below-returns-in-Cascade-clause-changed
rewritten_below-returns-in-Cascade-clause-changed t c =
    subst (λ (k : TreeOf ℕ). IfOk c.rewritten_cascade.result (BelowBecomes c.rewritten_cascade.new.names c.args.rule.now k)) (sym (cascade_is (ap tree_of c.in-Cascade.is) c.deref-in-Cascade.ensures c.as_slice.ensures)) c.rewritten_cascade.ensures.changed

pub rewritten_below-rewritten_assignment-requires : goal.rewritten_below-rewritten_assignment-requires
rewritten_below-rewritten_assignment-requires t c =
    let is = assign_is (ap tree_of c.in-Assign.is) c.deref-in-Assign.ensures in
    let known = of_assign (Known c.args.names.now) (tree_of c.args.kind.now) c.requires.node _ _ is in
    (omega (arith, ap (height {N = ℕ}) is), (c.requires.rule, known))

pub rewritten_below-returns-in-Assign-clause-changed : goal.rewritten_below-returns-in-Assign-clause-changed
rewritten_below-returns-in-Assign-clause-changed t c =
    subst (λ (k : TreeOf ℕ). IfOk c.rewritten_assignment.result (BelowBecomes c.rewritten_assignment.new.names c.args.rule.now k)) (sym (assign_is (ap tree_of c.in-Assign.is) c.deref-in-Assign.ensures)) c.rewritten_assignment.ensures.changed

pub rewritten_below-rewritten_block-requires : goal.rewritten_below-rewritten_block-requires
rewritten_below-rewritten_block-requires t c =
    let is = block_is (ap tree_of c.in-Block.is) c.deref-in-Block.ensures in
    let known = of_block (Known c.args.names.now) (tree_of c.args.kind.now) c.requires.node _ _ _ _ is in
    (omega (arith, ap (height {N = ℕ}) is), (c.requires.rule, (known.0, (known.1, known.2))))

pub rewritten_below-returns-in-Block-clause-changed : goal.rewritten_below-returns-in-Block-clause-changed
rewritten_below-returns-in-Block-clause-changed t c =
    subst (λ (k : TreeOf ℕ). IfOk c.rewritten_block.result (BelowBecomes c.rewritten_block.new.names c.args.rule.now k)) (sym (block_is (ap tree_of c.in-Block.is) c.deref-in-Block.ensures)) c.rewritten_block.ensures.changed

pub rewritten_below-rewritten_brace-requires : goal.rewritten_below-rewritten_brace-requires
rewritten_below-rewritten_brace-requires t c =
    let is = brace_is (ap tree_of c.in-Brace.is) c.as_slice-in-Brace.ensures in
    (omega (arith, ap (height {N = ℕ}) is), (c.requires.rule, of_brace (Known c.args.names.now) (tree_of c.args.kind.now) c.requires.node _ is))

pub rewritten_below-returns-in-Brace-clause-changed : goal.rewritten_below-returns-in-Brace-clause-changed
rewritten_below-returns-in-Brace-clause-changed t c =
    subst (λ (k : TreeOf ℕ). IfOk c.rewritten_brace.result (BelowBecomes c.rewritten_brace.new.names c.args.rule.now k)) (sym (brace_is (ap tree_of c.in-Brace.is) c.as_slice-in-Brace.ensures)) c.rewritten_brace.ensures.changed

pub rewritten_below-rewritten_return-requires : goal.rewritten_below-rewritten_return-requires
rewritten_below-rewritten_return-requires t c =
    let is = return_is (ap tree_of c.in-Return.is) c.deref-in-Return.ensures in
    (omega (arith, ap (height {N = ℕ}) is), (c.requires.rule, of_return (Known c.args.names.now) (tree_of c.args.kind.now) c.requires.node _ is))

pub rewritten_below-returns-in-Return-clause-changed : goal.rewritten_below-returns-in-Return-clause-changed
rewritten_below-returns-in-Return-clause-changed t c =
    subst (λ (k : TreeOf ℕ). IfOk c.rewritten_return.result (BelowBecomes c.rewritten_return.new.names c.args.rule.now k)) (sym (return_is (ap tree_of c.in-Return.is) c.deref-in-Return.ensures)) c.rewritten_return.ensures.changed

pub boxed_node-returns-clause-changed : goal.boxed_node-returns-clause-changed
boxed_node-returns-clause-changed t c = λ final g.
    subst (λ (u : TreeOf ℕ). IsChanged final (becomes final c.args.rule.now) c.args.node.now u) (sym c.in_ok-new.ensures.ok) (c.in_ok-made.ensures.changed final g)

pub rewritten_block-rewritten_statements-requires : goal.rewritten_block-rewritten_statements-requires
rewritten_block-rewritten_statements-requires t c = (
  omega (arith, ap (λ (ss : List Statement). statements_height (statements_of ss)) c.as_slice.ensures),
  (c.requires.rule, subst (λ (ss : List Statement). StatementsNames (Known c.args.names.now) (statements_of ss)) (sym c.as_slice.ensures) c.requires.statements),
)

pub rewritten_block-returns-clause-changed : goal.rewritten_block-returns-clause-changed
rewritten_block-returns-clause-changed t c = λ final g.
    let all = Grows-twice c.rewritten_statements.ensures.grows g in
    let b : Sequence = c.args.body.now in
    let us : List Statement = c.in_ok-statements.statements in
    block_made final (becomes final c.args.rule.now) c.args.parameters.now c.in_ok-parameters.parameters b c.in_ok-made.made c.in_ok-body.body.value us c.in_ok-parameters.ensures c.in_ok-made.ensures c.in_ok-body.ensures.ok
    (names_imply (Known c.args.names.now) (Known final) (still_known all) c.args.parameters.now c.requires.parameters) (names_imply (Known c.args.names.now) (Known final) (still_known all) b.temporaries c.requires.temporaries)
    (subst (λ (ss : List Statement). Paired (IsStatementChanged final (becomes final c.args.rule.now)) ss us) c.as_slice.ensures (c.in_ok-statements.ensures.changed final g))

pub rewritten_part-boxed_node-requires : goal.rewritten_part-boxed_node-requires
rewritten_part-boxed_node-requires t c =
    let is = ap bound_from c.in-Part.is in
    (omega (arith, ap (height_bound {N = ℕ}) is), (c.requires.rule, subst (BoundNames (Known c.args.names.now)) is c.requires.part))

pub rewritten_part-returns-in_ok-made-in-Part-clause-changed : goal.rewritten_part-returns-in_ok-made-in-Part-clause-changed
rewritten_part-returns-in_ok-made-in-Part-clause-changed t c = λ final g.
    let f = becomes final c.args.rule.now in
    subst (λ (b : BoundOf ℕ). IsBoundChanged final f b (a_part c.in_ok-made-in-Part.made.value)) (sym (ap bound_from c.in-Part.is)) (made_part final f _ c.in_ok-made-in-Part.made.value (c.in_ok-made-in-Part.ensures.changed final g))

pub rewritten_part-rewritten_statements-requires : goal.rewritten_part-rewritten_statements-requires
rewritten_part-rewritten_statements-requires t c =
    let is = ap bound_from c.in-Run.is in
    (omega (arith, ap (height_bound {N = ℕ}) is), (c.requires.rule, subst (BoundNames (Known c.args.names.now)) is c.requires.part))

pub rewritten_part-returns-in_ok-run-in-Run-clause-changed : goal.rewritten_part-returns-in_ok-run-in-Run-clause-changed
rewritten_part-returns-in_ok-run-in-Run-clause-changed t c = λ final g.
    let f = becomes final c.args.rule.now in
    subst (λ (b : BoundOf ℕ). IsBoundChanged final f b (a_run (statements_of c.in_ok-run-in-Run.run'))) (sym (ap bound_from c.in-Run.is)) (made_run final f _ c.in_ok-run-in-Run.run' (c.in_ok-run-in-Run.ensures.changed final g))

pub rewritten_part-rewritten_nodes-requires : goal.rewritten_part-rewritten_nodes-requires
rewritten_part-rewritten_nodes-requires t c =
    let is = ap bound_from c.in-Message.is in
    (omega (arith, ap (height_bound {N = ℕ}) is), (c.requires.rule, (subst (BoundNames (Known c.args.names.now)) is c.requires.part).1))

pub rewritten_part-returns-in_ok-arguments-in-Message-clause-changed : goal.rewritten_part-returns-in_ok-arguments-in-Message-clause-changed
rewritten_part-returns-in_ok-arguments-in-Message-clause-changed t c = λ final g.
    let f = becomes final c.args.rule.now in
    let is = ap bound_from c.in-Message.is in
    let known = subst (BoundNames (Known c.args.names.now)) is c.requires.part in
    let us : List (TreeOf ℕ) = c.in_ok-arguments-in-Message.arguments in
    subst (λ (b : BoundOf ℕ). IsBoundChanged final f b (a_message c.in-Message.selector (trees_of us))) (sym is)
    (made_message final f c.in-Message.selector _ us (still_known (Grows-twice c.rewritten_nodes.ensures.grows g) c.in-Message.selector known.0) (c.in_ok-arguments-in-Message.ensures.changed final g))

pub rewritten_part-returns-in_default-clause-changed : goal.rewritten_part-returns-in_default-clause-changed
rewritten_part-returns-in_default-clause-changed t c =
    let names = c.args.names.now in
    let s : Standing = c.args.standing.now in
    IfOk-weaker c.copied.result (λ x. bound_of x ≡ bound_from s) (λ x. BoundBecomes names c.args.rule.now (bound_from s) (bound_of x))
    (λ x e. copied_stays names c.args.rule.now s c.in_default.not-Part c.in_default.not-Run c.in_default.not-Message c.requires.part (bound_of x) e)
    c.copied.ensures

pub rewritten_binding-rewritten_part-requires : goal.rewritten_binding-rewritten_part-requires
rewritten_binding-rewritten_part-requires t c =
    (omega (arith, doubled_same c.args.held.now c.if-held.true), (c.requires.rule, c.requires.held.1))

pub rewritten_binding-returns-in_ok-part-clause-changed : goal.rewritten_binding-returns-in_ok-part-clause-changed
rewritten_binding-returns-in_ok-part-clause-changed t c = λ final g.
    let h : Held = c.args.held.now in
    let one = c.binding_for in
    made_doubled final (becomes final c.args.rule.now) h.meta (bound_from h.bound) c.in_ok-part.part one.result one.ensures.meta one.ensures.bound c.if-held.true
    (still_known (Grows-twice c.rewritten_part.ensures.grows g) h.meta.name c.requires.held.0) (c.in_ok-part.ensures.changed final g)

pub rewritten_binding-returns-in_ok-part-2-clause-changed : goal.rewritten_binding-returns-in_ok-part-2-clause-changed
rewritten_binding-returns-in_ok-part-2-clause-changed t c = λ final g.
    let h : Held = c.args.held.now in
    let one = c.binding_for-else-held in
    made_single final (becomes final c.args.rule.now) h.meta (bound_from h.bound) c.in_ok-part-2.part one.result one.ensures.meta one.ensures.bound c.if-held.false
    (binding_known g (held_of h) c.requires.held) c.in_ok-part-2.ensures

pub rewritten_match-rewritten_below-requires : goal.rewritten_match-rewritten_below-requires
rewritten_match-rewritten_below-requires t c =
    (omega (arith, ap (height {N = ℕ}) c.node.view_is), (c.requires.rule, subst (AllNames (Known c.args.names.now)) (sym c.node.view_is) c.requires.node))

pub rewritten_match-returns-in-None-clause-changed : goal.rewritten_match-returns-in-None-clause-changed
rewritten_match-returns-in-None-clause-changed t c =
    let names : List (List ℕ) = c.args.names.now in
    let r = c.args.rule.now in
    let x : TreeOf ℕ = c.args.node.now in
    let g0 = c.rewritten_below.ensures.grows in
    let none = found_none names r.pattern x c.in_ok-bindings_at.field-0 c.in-None.is c.in_ok-bindings_at.ensures.found in
    IfOk-weaker c.rewritten_below.result (BelowBecomes c.rewritten_below.new.names r (tree_of c.node.inside.kind)) (Becomes c.rewritten_below.new.names r x)
    (λ u h final g. goes_on (Grows-twice g0 g) r c.requires.rule x c.requires.node u none (subst (λ (y : TreeOf ℕ). IsChanged final (each_child (becomes final r)) y u) c.node.view_is (h final g)))
    c.rewritten_below.ensures.changed

pub rewritten_match-rewritten_bindings-requires : goal.rewritten_match-rewritten_bindings-requires
rewritten_match-rewritten_bindings-requires t c =
    let names : List (List ℕ) = c.args.names.now in
    let r = c.args.rule.now in
    let x : TreeOf ℕ = c.args.node.now in
    let o = c.in_ok-bindings_at.field-0 in
    let found = found_some names r.pattern x o c.in-Some.held c.in-Some.is c.in_ok-bindings_at.ensures.found in
    let low = found_low r.pattern x o c.in-Some.held c.in-Some.is c.in_ok-bindings_at.ensures.lower c.requires.pattern in (
      omega (arith, low, ap bindings_height c.as_slice.ensures.value),
      (c.requires.rule, subst (λ (hs : List Held). AllByRecursion (BindingNames (Known names)) (map held_of hs)) (sym c.as_slice.ensures.value) found.known),
    )

pub rewritten_match-fill-requires : goal.rewritten_match-fill-requires
rewritten_match-fill-requires t c = record { pattern = (rule_known c.rewritten_bindings.ensures.grows c.args.rule.now c.requires.rule).replacement }

pub rewritten_match-returns-in_ok-bindings-in-Some-clause-changed : goal.rewritten_match-returns-in_ok-bindings-in-Some-clause-changed
rewritten_match-returns-in_ok-bindings-in-Some-clause-changed t c =
    let names : List (List ℕ) = c.args.names.now in
    let r = c.args.rule.now in
    let x : TreeOf ℕ = c.args.node.now in
    let hs : List Held = c.as_slice.result.now in
    let ss : List Binding = c.as_mut_slice.result.now in
    let new : List (List ℕ) = c.fill.new.names in
    let a = Grows-twice c.rewritten_bindings.ensures.grows c.fill.ensures.grows in
    let found = subst (λ (xs : List Held). AreBoundIn names r.pattern x (map held_of xs)) (sym c.as_slice.ensures.value) (found_some names r.pattern x c.in_ok-bindings_at.field-0 c.in-Some.held c.in-Some.is c.in_ok-bindings_at.ensures.found) in
    let made = c.in_ok-bindings-in-Some in
    let changed = subst (λ (xs : List Binding). AreChanged new (becomes new r) (map held_of hs) xs) (sym c.as_mut_slice.ensures.value) (made.ensures.changed new c.fill.ensures.grows) in
    if_both c.fill.result (FillsSame new r ss) (FillsKnown new ss) (Becomes new r x)
    (λ v e k final g. still_becomes g r (rule_known a r c.requires.rule) x (tree_known a x c.requires.node) v (put_rewritten a r c.requires.rule x c.requires.node (map held_of hs) found ss v e k c.requires.pattern changed))
    c.fill.ensures.filled c.fill.ensures.known

pub rewritten_node-rewritten_below-requires : goal.rewritten_node-rewritten_below-requires
rewritten_node-rewritten_below-requires t c =
    (omega (arith, ap (height {N = ℕ}) c.node.view_is), (c.requires.rule, subst (AllNames (Known c.args.names.now)) (sym c.node.view_is) c.requires.node))

pub rewritten_node-replaced-requires-clause-rule : goal.rewritten_node-replaced-requires-clause-rule
rewritten_node-replaced-requires-clause-rule t c = rule_known c.rewritten_below.ensures.grows c.args.rule.now c.requires.rule

pub rewritten_node-replaced-requires-clause-pattern : goal.rewritten_node-replaced-requires-clause-pattern
rewritten_node-replaced-requires-clause-pattern t c = meta_some c.args.rule.now.pattern c.whole_meta.result c.in-Some.meta c.in-Some.is c.whole_meta.ensures

pub rewritten_node-replaced-requires-clause-node : goal.rewritten_node-replaced-requires-clause-node
rewritten_node-replaced-requires-clause-node t c = (c.in_ok-below-in-Some.ensures.changed c.rewritten_below.new.names (Grows-none c.rewritten_below.new.names)).known

pub rewritten_node-returns-in_ok-below-in-Some-clause-changed : goal.rewritten_node-returns-in_ok-below-in-Some-clause-changed
rewritten_node-returns-in_ok-below-in-Some-clause-changed t c =
    let r = c.args.rule.now in
    let x : TreeOf ℕ = c.args.node.now in
    let u : TreeOf ℕ = c.in_ok-below-in-Some.below in
    let new : List (List ℕ) = c.replaced.new.names in
    let whole = is_whole_by r.pattern (meta_of c.in-Some.meta) (meta_some r.pattern c.whole_meta.result c.in-Some.meta c.in-Some.is c.whole_meta.ensures) in
    IfOk-weaker c.replaced.result (λ v. (final : List (List ℕ)) → Grows new final → IsChanged final (replaced final r) u v) (Becomes new r x)
    (λ v h final g.
    then_replaced final r x u v whole (subst (λ (y : TreeOf ℕ). IsChanged final (each_child (becomes final r)) y u) c.node.view_is (c.in_ok-below-in-Some.ensures.changed final (Grows-twice c.replaced.ensures.grows g))) (h final g))
    c.replaced.ensures.replaced

pub rewritten_node-rewritten_match-requires : goal.rewritten_node-rewritten_match-requires
rewritten_node-rewritten_match-requires t c =
    (omega arith, (c.requires.rule, (c.requires.node, meta_none c.args.rule.now.pattern c.whole_meta.result c.in-None.is c.whole_meta.ensures)))
