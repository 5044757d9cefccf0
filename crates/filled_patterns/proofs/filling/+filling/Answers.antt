use Rattle.std.proofs.Common.{◌≡◌, ℕ, ◌<◌, ◌≤◌, List, length, get_or, refl, rules, arith, sym, ap, subst, ◌∙◌}
use Rattle.std.specs.Prelude.{nat_eq, option_map, IfOk}
use Rattle.std.proofs.lemmas.Result.{IfOk-weaker}
use Rattle.tree_model.specs.Tree.{TreeOf, var, literal, trees_of}
use Rattle.st_tree.specs.View.{messages_of, statements_of}
use Rattle.st_tree.specs.declared.tree.Message.{Message}
use Rattle.st_tree.specs.declared.tree.Statement.{Statement}
use Rattle.pattern_model.specs.Patterns.{PatternOf, no_patterns, no_messages_like, meta, var_like, literal_like}
use Rattle.pattern_model.specs.Bindings.{BindingOf, bound_of}
use Rattle.pattern_model.specs.Fill.{part_in}
use Rattle.patterns.specs.View.{meta_of, selector_of, pattern_from, patterns_of, messages_from, statements_from}
use Rattle.patterns.specs.Names.{SelectorNames, PatternsNames}
use Rattle.patterns.specs.Weights.{pattern_weight, patterns_weight}
use Rattle.patterns.specs.declared.tree.PatternMessage.{PatternMessage}
use Rattle.patterns.specs.declared.tree.PatternStatement.{PatternStatement}
use Rattle.patterns.proofs.Weights.{weight-pattern, weight-message_like, weight-statement_like}
use Rattle.filled_patterns.specs.declared.bindings.Binding.{Binding}
use Rattle.filled_patterns.specs.Left.{Holds}
use Rattle.event_trees.proofs.Known.{Grows-none, Grows-twice}
use Rattle.filled_patterns.specs.Filling.{Known, Later, Over, state_of, put_one, put_all, IsFilled, AreFilled, AreMessagesFilled, IsPut, IsSequenceFilled}
use Rattle.filled_patterns.proofs.Growing.{later_still, still_known, names_known, literal_known, selector_known, pattern_known, patterns_known, messages_known}
use Rattle.filled_patterns.proofs.Chosen.{a_meta, whole_message, plain_message, not_whole}
use Rattle.filled_patterns.proofs.Joining.{put_list, put_single, made_none, made_more, made_all}
use Rattle.filled_patterns.proofs.Parts.{Fills, fills_is, a_variable, a_literal, a_send, a_cascade, an_assignment, a_brace, a_return, block_filled, of_meta, of_var, of_literal, of_send, of_cascade, of_assign, of_block, of_brace, of_return, send_is, cascade_is, assign_is, block_is, brace_is, return_is}
use Rattle.filled_patterns.proofs.Lists.{pattern_of_list, message_of_list, statement_of_list, nodes_more, nodes_all, messages_more, messages_all}
use Rattle.filled_patterns.proofs.filling.+filling.Goals as goal

pub filled_node-returns-in-Meta-clause-filled : goal.filled_node-returns-in-Meta-clause-filled
filled_node-returns-in-Meta-clause-filled t c =
    let names = c.args.names.now in
    let ss : List Binding = c.args.bindings.now in
    let is : c.args.pattern.now ≡ meta (meta_of c.in-Meta.meta) = sym c.pattern.view_is ∙ ap pattern_from c.in-Meta.is in
    IfOk-weaker c.part_for.result (λ u. (bs : List (BindingOf ℕ)) → Holds bs ss → u ≡ part_in c.in-Meta.meta.name (bound_of nat_eq bs (meta_of c.in-Meta.meta))) (Fills names ss c.args.pattern.now)
    (λ u e. fills_is names ss c.args.pattern.now (meta (meta_of c.in-Meta.meta)) u is (λ final g bs h k. a_meta g bs k (meta_of c.in-Meta.meta) (of_meta (Known names) c.args.pattern.now c.requires.pattern (meta_of c.in-Meta.meta) is) u (e bs h)))
    c.part_for.ensures.part

pub filled_node-returns-in-Var-clause-filled : goal.filled_node-returns-in-Var-clause-filled
filled_node-returns-in-Var-clause-filled t c = λ final g bs h k.
    let is : c.args.pattern.now ≡ var_like c.in-Var.name = sym c.pattern.view_is ∙ ap pattern_from c.in-Var.is in
    subst (λ (p : PatternOf ℕ). IsFilled final bs p (var c.in-Var.name)) (sym is)
    (a_variable final bs c.in-Var.name (still_known g.grows c.in-Var.name (of_var (Known c.args.names.now) c.args.pattern.now c.requires.pattern c.in-Var.name is)))

pub filled_node-returns-in-Literal-clause-filled : goal.filled_node-returns-in-Literal-clause-filled
filled_node-returns-in-Literal-clause-filled t c =
    let names = c.args.names.now in
    let is : c.args.pattern.now ≡ literal_like c.in-Literal.value = sym c.pattern.view_is ∙ ap pattern_from c.in-Literal.is in
    IfOk-weaker c.filled_literal.result (λ u. u ≡ literal c.in-Literal.value) (Fills names c.args.bindings.now c.args.pattern.now)
    (λ u e. fills_is names c.args.bindings.now c.args.pattern.now (literal_like c.in-Literal.value) u is
    (λ final g bs h k. subst (λ (x : TreeOf ℕ). IsFilled final bs (literal_like c.in-Literal.value) x) (sym e) (a_literal final bs c.in-Literal.value (literal_known g.grows c.in-Literal.value (of_literal (Known names) c.args.pattern.now c.requires.pattern c.in-Literal.value is)))))
    c.filled_literal.ensures

pub filled_node-filled_send-requires : goal.filled_node-filled_send-requires
filled_node-filled_send-requires t c =
    let is = send_is (sym c.pattern.view_is ∙ ap pattern_from c.in-Send.is) c.deref.ensures in
    let known = of_send (Known c.args.names.now) c.args.pattern.now c.requires.pattern _ _ _ is in
    (omega (arith, ap (pattern_weight {N = ℕ}) is), (known.0, (known.1, known.2)))

pub filled_node-returns-in-Send-clause-filled : goal.filled_node-returns-in-Send-clause-filled
filled_node-returns-in-Send-clause-filled t c =
    subst (λ (p : PatternOf ℕ). IfOk c.filled_send.result (Fills c.filled_send.new.names c.args.bindings.now p)) (sym (send_is (sym c.pattern.view_is ∙ ap pattern_from c.in-Send.is) c.deref.ensures)) c.filled_send.ensures.filled

pub filled_node-filled_cascade-requires : goal.filled_node-filled_cascade-requires
filled_node-filled_cascade-requires t c =
    let is = cascade_is (sym c.pattern.view_is ∙ ap pattern_from c.in-Cascade.is) c.deref-in-Cascade.ensures c.as_slice.ensures.value in
    let known = of_cascade (Known c.args.names.now) c.args.pattern.now c.requires.pattern _ _ is in
    (omega (arith, ap (pattern_weight {N = ℕ}) is), known)

pub filled_node-returns-in-Cascade-clause-filled : goal.filled_node-returns-in-Cascade-clause-filled
filled_node-returns-in-Cascade-clause-filled t c =
    subst (λ (p : PatternOf ℕ). IfOk c.filled_cascade.result (Fills c.filled_cascade.new.names c.args.bindings.now p)) (sym (cascade_is (sym c.pattern.view_is ∙ ap pattern_from c.in-Cascade.is) c.deref-in-Cascade.ensures c.as_slice.ensures.value))
    c.filled_cascade.ensures.filled

pub filled_node-filled_assignment-requires : goal.filled_node-filled_assignment-requires
filled_node-filled_assignment-requires t c =
    let is = assign_is (sym c.pattern.view_is ∙ ap pattern_from c.in-Assign.is) c.deref-in-Assign.ensures in
    let known = of_assign (Known c.args.names.now) c.args.pattern.now c.requires.pattern _ _ is in
    (omega (arith, ap (pattern_weight {N = ℕ}) is), known)

pub filled_node-returns-in-Assign-clause-filled : goal.filled_node-returns-in-Assign-clause-filled
filled_node-returns-in-Assign-clause-filled t c =
    subst (λ (p : PatternOf ℕ). IfOk c.filled_assignment.result (Fills c.filled_assignment.new.names c.args.bindings.now p)) (sym (assign_is (sym c.pattern.view_is ∙ ap pattern_from c.in-Assign.is) c.deref-in-Assign.ensures)) c.filled_assignment.ensures.filled

pub filled_node-filled_block-requires : goal.filled_node-filled_block-requires
filled_node-filled_block-requires t c =
    let is = block_is (sym c.pattern.view_is ∙ ap pattern_from c.in-Block.is) c.deref-in-Block.ensures in
    let known = of_block (Known c.args.names.now) c.args.pattern.now c.requires.pattern _ _ _ _ is in
    (omega (arith, ap (pattern_weight {N = ℕ}) is), (known.0, (known.1, known.2)))

pub filled_node-returns-in-Block-clause-filled : goal.filled_node-returns-in-Block-clause-filled
filled_node-returns-in-Block-clause-filled t c =
    subst (λ (p : PatternOf ℕ). IfOk c.filled_block.result (Fills c.filled_block.new.names c.args.bindings.now p)) (sym (block_is (sym c.pattern.view_is ∙ ap pattern_from c.in-Block.is) c.deref-in-Block.ensures)) c.filled_block.ensures.filled

pub filled_node-filled_brace-requires : goal.filled_node-filled_brace-requires
filled_node-filled_brace-requires t c =
    let is = brace_is (sym c.pattern.view_is ∙ ap pattern_from c.in-Brace.is) c.as_slice-in-Brace.ensures.value in
    (omega (arith, ap (pattern_weight {N = ℕ}) is), of_brace (Known c.args.names.now) c.args.pattern.now c.requires.pattern _ is)

pub filled_node-returns-in-Brace-clause-filled : goal.filled_node-returns-in-Brace-clause-filled
filled_node-returns-in-Brace-clause-filled t c =
    subst (λ (p : PatternOf ℕ). IfOk c.filled_brace.result (Fills c.filled_brace.new.names c.args.bindings.now p)) (sym (brace_is (sym c.pattern.view_is ∙ ap pattern_from c.in-Brace.is) c.as_slice-in-Brace.ensures.value)) c.filled_brace.ensures.filled

pub filled_node-filled_return-requires : goal.filled_node-filled_return-requires
filled_node-filled_return-requires t c =
    let is = return_is (sym c.pattern.view_is ∙ ap pattern_from c.in-Return.is) c.deref-in-Return.ensures in
    (omega (arith, ap (pattern_weight {N = ℕ}) is), of_return (Known c.args.names.now) c.args.pattern.now c.requires.pattern _ is)

pub filled_node-returns-in-Return-clause-filled : goal.filled_node-returns-in-Return-clause-filled
filled_node-returns-in-Return-clause-filled t c =
    subst (λ (p : PatternOf ℕ). IfOk c.filled_return.result (Fills c.filled_return.new.names c.args.bindings.now p)) (sym (return_is (sym c.pattern.view_is ∙ ap pattern_from c.in-Return.is) c.deref-in-Return.ensures)) c.filled_return.ensures.filled

pub boxed_node-returns-clause-filled : goal.boxed_node-returns-clause-filled
boxed_node-returns-clause-filled t c = λ final g bs h k.
    subst (λ (u : TreeOf ℕ). IsFilled final bs c.args.pattern.now u) (sym c.in_ok-new.ensures.ok) (c.in_ok-node.ensures.filled final g bs h k)

pub filled_send-boxed_node-requires : goal.filled_send-boxed_node-requires
filled_send-boxed_node-requires t c = (omega arith, c.requires.receiver)

pub filled_send-filled_message-requires : goal.filled_send-filled_message-requires
filled_send-filled_message-requires t c =
    let g = c.boxed_node.ensures.grows in
    let m = c.args.message.now in
    (omega arith, (selector_known g (selector_of m.selector) c.requires.selector, patterns_known g (patterns_of m.arguments.items) c.requires.arguments))

pub filled_send-returns-clause-filled : goal.filled_send-returns-clause-filled
filled_send-returns-clause-filled t c = λ final g bs h k.
    let m = c.args.message.now in
    a_send final bs c.args.receiver.now (selector_of m.selector) (patterns_of m.arguments.items) c.in_ok-receiver.receiver.value c.in_ok-made.made.selector (trees_of c.in_ok-made.made.arguments)
    (c.in_ok-receiver.ensures.filled final (later_still c.filled_message.ensures.grows g) bs h k) (c.in_ok-made.ensures.filled final g bs (c.boxed_node.ensures.left bs h) k)

pub filled_cascade-boxed_node-requires : goal.filled_cascade-boxed_node-requires
filled_cascade-boxed_node-requires t c = (omega arith, c.requires.receiver)

pub filled_cascade-filled_messages-requires : goal.filled_cascade-filled_messages-requires
filled_cascade-filled_messages-requires t c =
    let g = c.boxed_node.ensures.grows in
    (omega arith, messages_known g (messages_from c.args.messages.now) c.requires.messages)

pub filled_cascade-returns-clause-filled : goal.filled_cascade-returns-clause-filled
filled_cascade-returns-clause-filled t c = λ final g bs h k.
    a_cascade final bs c.args.receiver.now (messages_from c.args.messages.now) c.in_ok-receiver.receiver.value (messages_of c.in_ok-messages.messages)
    (c.in_ok-receiver.ensures.filled final (later_still c.filled_messages.ensures.grows g) bs h k) (c.in_ok-messages.ensures.filled final g bs (c.boxed_node.ensures.left bs h) k)

pub filled_assignment-boxed_node-requires : goal.filled_assignment-boxed_node-requires
filled_assignment-boxed_node-requires t c = (omega arith, c.requires.value)

pub filled_assignment-returns-clause-filled : goal.filled_assignment-returns-clause-filled
filled_assignment-returns-clause-filled t c = λ final g bs h k.
    an_assignment final bs c.args.name c.args.value.now c.in_ok-value.value.value (still_known (Grows-twice c.boxed_node.ensures.grows g.grows) c.args.name c.requires.name) (c.in_ok-value.ensures.filled final g bs h k)

pub filled_block-filled_sequence-requires : goal.filled_block-filled_sequence-requires
filled_block-filled_sequence-requires t c = (omega arith, c.requires.statements)

pub filled_block-returns-clause-filled : goal.filled_block-returns-clause-filled
filled_block-returns-clause-filled t c = λ final g bs h k.
    let all = Grows-twice c.filled_sequence.ensures.grows g.grows in
    block_filled final bs c.args.parameters.now c.in_ok-parameters.parameters c.args.body.now c.in_ok-sequence.sequence c.in_ok-body.body.value c.in_ok-body.ensures.ok c.in_ok-parameters.ensures c.in_ok-sequence.ensures.temporaries
    (names_known all c.args.parameters.now c.requires.parameters) (names_known all c.args.body.now.temporaries c.requires.temporaries) (c.in_ok-sequence.ensures.filled final g bs h k)

pub filled_brace-returns-clause-filled : goal.filled_brace-returns-clause-filled
filled_brace-returns-clause-filled t c = λ final g bs h k. a_brace final bs (patterns_of c.args.patterns.now) (trees_of c.in_ok-items.items) (c.in_ok-items.ensures.filled final g bs h k)

pub filled_return-returns-clause-filled : goal.filled_return-returns-clause-filled
filled_return-returns-clause-filled t c = λ final g bs h k. a_return final bs c.args.value.now c.in_ok-value.value.value (c.in_ok-value.ensures.filled final g bs h k)

pub filled_nodes-loop-pattern-init : goal.filled_nodes-loop-pattern-init
filled_nodes-loop-pattern-init t c = record {
  filled = λ final g bs h k. subst (λ (ts : List (TreeOf ℕ)). AreFilled final bs no_patterns (trees_of ts)) (sym c.new-nodes.ensures.items) (record { same = refl; known = tt });
  left = λ bs h. h;
  grows = Grows-none c.args.names.now;
}

pub filled_nodes-filled_node-requires : goal.filled_nodes-filled_node-requires
filled_nodes-filled_node-requires t c =
    let l = c.loop-pattern in
    let ps : List (PatternOf ℕ) = c.args.patterns.now in (
      omega (arith, weight-pattern ps l.pattern-index c.pattern-item.result c.loop-pattern-test.true c.pattern-item.is),
      pattern_known l.invariant.grows c.pattern-item.result (pattern_of_list (Known c.args.names.now) ps l.pattern-index c.pattern-item.result c.loop-pattern-test.true c.pattern-item.is c.requires.patterns),
    )

pub filled_nodes-loop-pattern-preserved : goal.filled_nodes-loop-pattern-preserved
filled_nodes-loop-pattern-preserved t c =
    let l = c.loop-pattern in
    record {
      filled = λ final g bs h k.
          nodes_more final bs c.args.patterns.now l.pattern-index c.pattern-item.result c.loop-pattern-test.true c.pattern-item.is l.nodes.items c.push.new.self.items c.in_ok-node.node (search rules)
          (l.invariant.filled final (later_still c.in_ok-node.ensures.grows g) bs h k) (c.in_ok-node.ensures.filled final g bs (l.invariant.left bs h) k);
      left = λ bs h. c.in_ok-node.ensures.left bs (l.invariant.left bs h);
      grows = Grows-twice l.invariant.grows c.in_ok-node.ensures.grows;
    }

pub filled_nodes-returns-clause-filled : goal.filled_nodes-returns-clause-filled
filled_nodes-returns-clause-filled t c = λ final g bs h k.
    let l = c.loop-pattern in
    nodes_all final bs c.args.patterns.now l.pattern-index l.nodes.items c.from_vec.result c.from_vec.ensures c.loop-pattern-test.false (l.invariant.filled final g bs h k)

pub filled_message-returns-in_ok-arguments-in-Whole-clause-filled : goal.filled_message-returns-in_ok-arguments-in-Whole-clause-filled
filled_message-returns-in_ok-arguments-in-Whole-clause-filled t c = λ final g bs h k.
    let m = c.args.message.now in
    let is = ap selector_of c.in-Whole.is in
    whole_message (later_still c.filled_selector.ensures.grows g) bs k (meta_of c.in-Whole.meta) (subst (SelectorNames (Known c.args.names.now)) is c.requires.selector)
    (selector_of m.selector) is (patterns_of m.arguments.items) c.in_ok-selector.selector (c.in_ok-selector.ensures.filled final g bs h k) (trees_of c.in_ok-arguments-in-Whole.arguments) (c.in_ok-arguments-in-Whole.ensures.arguments bs h)

pub filled_message-filled_nodes-requires : goal.filled_message-filled_nodes-requires
filled_message-filled_nodes-requires t c =
    let g = c.filled_selector.ensures.grows in (
      omega (arith, ap (λ (ps : List (PatternOf ℕ)). patterns_weight (patterns_of ps)) c.deref.ensures.value),
      subst (λ (ps : List (PatternOf ℕ)). PatternsNames (Known c.filled_selector.new.names) (patterns_of ps)) (sym c.deref.ensures.value) (patterns_known g (patterns_of c.args.message.now.arguments.items) c.requires.arguments),
    )

pub filled_message-returns-in_ok-arguments-in_default-clause-filled : goal.filled_message-returns-in_ok-arguments-in_default-clause-filled
filled_message-returns-in_ok-arguments-in_default-clause-filled t c = λ final g bs h k.
    let m = c.args.message.now in
    plain_message final bs (selector_of m.selector) (not_whole m.selector c.in_default.not-Whole) (patterns_of m.arguments.items) c.in_ok-selector.selector (trees_of c.in_ok-arguments-in_default.arguments)
    (c.in_ok-selector.ensures.filled final (later_still c.in_ok-arguments-in_default.ensures.grows g) bs h k)
    (subst (λ (ps : List (PatternOf ℕ)). AreFilled final bs (patterns_of ps) (trees_of c.in_ok-arguments-in_default.arguments)) c.deref.ensures.value (c.in_ok-arguments-in_default.ensures.filled final g bs h k))

pub filled_messages-loop-pattern-init : goal.filled_messages-loop-pattern-init
filled_messages-loop-pattern-init t c = record {
  filled = λ final g bs h k. subst (λ (ms : List Message). AreMessagesFilled final bs no_messages_like (messages_of ms)) (sym c.new-messages.ensures.items) (record { same = refl; known = tt });
  left = λ bs h. h;
  grows = Grows-none c.args.names.now;
}

pub filled_messages-filled_message-requires : goal.filled_messages-filled_message-requires
filled_messages-filled_message-requires t c =
    let l = c.loop-pattern in
    let p : PatternMessage = c.pattern-item.result in
    let known = message_of_list (Known c.args.names.now) c.args.patterns.now l.pattern-index p c.loop-pattern-test.true c.pattern-item.is c.requires.patterns in (
      omega (arith, weight-message_like c.args.patterns.now l.pattern-index p c.loop-pattern-test.true c.pattern-item.is),
      (selector_known l.invariant.grows (selector_of p.selector) known.0, patterns_known l.invariant.grows (patterns_of p.arguments.items) known.1),
    )

pub filled_messages-loop-pattern-preserved : goal.filled_messages-loop-pattern-preserved
filled_messages-loop-pattern-preserved t c =
    let l = c.loop-pattern in
    record {
      filled = λ final g bs h k.
          messages_more final bs c.args.patterns.now l.pattern-index c.pattern-item.result c.loop-pattern-test.true c.pattern-item.is l.messages.items c.push.new.self.items c.in_ok-message.message (search rules)
          (l.invariant.filled final (later_still c.in_ok-message.ensures.grows g) bs h k) (c.in_ok-message.ensures.filled final g bs (l.invariant.left bs h) k);
      left = λ bs h. c.in_ok-message.ensures.left bs (l.invariant.left bs h);
      grows = Grows-twice l.invariant.grows c.in_ok-message.ensures.grows;
    }

pub filled_messages-returns-clause-filled : goal.filled_messages-returns-clause-filled
filled_messages-returns-clause-filled t c = λ final g bs h k.
    let l = c.loop-pattern in
    messages_all final bs c.args.patterns.now l.pattern-index l.messages.items c.from_vec.result c.from_vec.ensures c.loop-pattern-test.false (l.invariant.filled final g bs h k)

pub put_statement-filled_node-requires : goal.put_statement-filled_node-requires
put_statement-filled_node-requires t c = (omega arith, c.requires.statement)

pub put_statement-returns-in_ok-run-in-Some-clause-filled : goal.put_statement-returns-in_ok-run-in-Some-clause-filled
put_statement-returns-in_ok-run-in-Some-clause-filled t c =
    let p : PatternStatement = c.args.statement.now in
    let ss : List Binding = c.args.bindings.now in
    IfOk-weaker c.put_all.result (λ after. state_of after ≡ put_all (state_of c.in_ok-made-in-Some.made) c.in_ok-run-in-Some.run')
    (λ after. (final : List (List ℕ)) → Later c.args.names.now final → Over final ss (λ bs. IsPut final bs p.comments p.node (state_of c.args.made) (state_of after)))
    (λ after e final g bs h k.
    put_list g bs k p.comments p.node c.requires.statement (meta_of c.in-Some.meta) (ap (option_map meta_of) (sym c.in-Some.is) ∙ c.list_meta.ensures)
    (state_of c.args.made) (state_of c.in_ok-made-in-Some.made) (state_of after) c.in_ok-made-in-Some.ensures c.in_ok-run-in-Some.run' (c.in_ok-run-in-Some.ensures.run bs h) e)
    c.put_all.ensures

pub put_statement-returns-in_ok-node-in-None-clause-filled : goal.put_statement-returns-in_ok-node-in-None-clause-filled
put_statement-returns-in_ok-node-in-None-clause-filled t c =
    let p : PatternStatement = c.args.statement.now in
    let ss : List Binding = c.args.bindings.now in
    IfOk-weaker c.put_one.result (λ after. state_of after ≡ put_one (state_of c.args.made) p.comments c.in_ok-node-in-None.node)
    (λ after. (final : List (List ℕ)) → Later c.filled_node.new.names final → Over final ss (λ bs. IsPut final bs p.comments p.node (state_of c.args.made) (state_of after)))
    (λ after e final g bs h k.
    put_single final bs p.comments p.node (ap (option_map meta_of) (sym c.in-None.is) ∙ c.list_meta.ensures) c.in_ok-node-in-None.node (c.in_ok-node-in-None.ensures.filled final g bs h k) (state_of c.args.made) (state_of after) e)
    c.put_one.ensures

pub filled_sequence-loop-statement-init : goal.filled_sequence-loop-statement-init
filled_sequence-loop-statement-init t c = record {
  filled = λ final g bs h k. made_none final bs (statements_from c.args.body.now.statements.items) c.args.body.now.tail _ (λ i. (c.new.ensures.items i, c.new-2.ensures i));
  left = λ bs h. h;
  grows = Grows-none c.args.names.now;
}

pub filled_sequence-put_statement-requires : goal.filled_sequence-put_statement-requires
filled_sequence-put_statement-requires t c =
    let l = c.loop-statement in
    let p : PatternStatement = c.statement-item.result in
    let ps : List PatternStatement = c.args.body.now.statements.items in
    let all : c.deref-statement-items.result.now ≡ ps = c.deref-statement-items.ensures.value in
    let h : l.statement-index < length ps = subst (λ (ys : List PatternStatement). l.statement-index < length ys) all c.loop-statement-test.true in
    let is : p ≡ get_or ps l.statement-index p = c.statement-item.is ∙ ap (λ (ys : List PatternStatement). get_or ys l.statement-index p) all in (
      omega (arith, weight-statement_like ps l.statement-index p h is),
      pattern_known l.invariant.grows p.node (statement_of_list (Known c.args.names.now) ps l.statement-index p h is c.requires.statements),
    )

pub filled_sequence-loop-statement-preserved : goal.filled_sequence-loop-statement-preserved
filled_sequence-loop-statement-preserved t c =
    let l = c.loop-statement in
    let p : PatternStatement = c.statement-item.result in
    let ps : List PatternStatement = c.args.body.now.statements.items in
    let all : c.deref-statement-items.result.now ≡ ps = c.deref-statement-items.ensures.value in
    let h : l.statement-index < length ps = subst (λ (ys : List PatternStatement). l.statement-index < length ys) all c.loop-statement-test.true in
    let is : p ≡ get_or ps l.statement-index p = c.statement-item.is ∙ ap (λ (ys : List PatternStatement). get_or ys l.statement-index p) all in
    record {
      filled = λ final g bs j k.
          made_more final bs (statements_from ps) c.args.body.now.tail ps l.statement-index p h is (state_of l.made) (state_of c.in_ok-made.made) (l.invariant.filled final (later_still c.in_ok-made.ensures.grows g) bs j k)
          (c.in_ok-made.ensures.filled final g bs (l.invariant.left bs j) k);
      left = λ bs j. c.in_ok-made.ensures.left bs (l.invariant.left bs j);
      grows = Grows-twice l.invariant.grows c.in_ok-made.ensures.grows;
    }

pub filled_sequence-returns-clause-filled : goal.filled_sequence-returns-clause-filled
filled_sequence-returns-clause-filled t c = λ final g bs j k.
    let l = c.loop-statement in
    let ps : List PatternStatement = c.args.body.now.statements.items in
    let all : c.deref-statement-items.result.now ≡ ps = c.deref-statement-items.ensures.value in
    let h : length ps ≤ l.statement-index = subst (λ (ys : List PatternStatement). length ys ≤ l.statement-index) all c.loop-statement-test.false in
    subst (λ (ss : List Statement). IsSequenceFilled final bs (statements_from ps) c.args.body.now.tail (statements_of ss) c.in_ok-whole.whole.waiting) (sym c.from_vec.ensures)
    (made_all final bs (statements_from ps) c.args.body.now.tail ps l.statement-index h (state_of l.made) (state_of c.in_ok-whole.whole) (l.invariant.filled final g bs j k) c.in_ok-whole.ensures)

pub filled_node-returns-in-Meta-clause-grows : goal.filled_node-returns-in-Meta-clause-grows
filled_node-returns-in-Meta-clause-grows t c = Grows-none c.args.names.now

pub filled_node-returns-in-Var-clause-grows : goal.filled_node-returns-in-Var-clause-grows
filled_node-returns-in-Var-clause-grows t c = Grows-none c.args.names.now

pub filled_node-returns-in-Literal-clause-grows : goal.filled_node-returns-in-Literal-clause-grows
filled_node-returns-in-Literal-clause-grows t c = Grows-none c.args.names.now

pub filled_send-returns-in_err-made-clause-left : goal.filled_send-returns-in_err-made-clause-left
filled_send-returns-in_err-made-clause-left t c = λ bs h. c.filled_message.ensures.left bs (c.boxed_node.ensures.left bs h)

pub filled_send-returns-in_err-made-clause-grows : goal.filled_send-returns-in_err-made-clause-grows
filled_send-returns-in_err-made-clause-grows t c = Grows-twice c.boxed_node.ensures.grows c.filled_message.ensures.grows

pub filled_send-returns-clause-left : goal.filled_send-returns-clause-left
filled_send-returns-clause-left t c = λ bs h. c.filled_message.ensures.left bs (c.boxed_node.ensures.left bs h)

pub filled_send-returns-clause-grows : goal.filled_send-returns-clause-grows
filled_send-returns-clause-grows t c = Grows-twice c.boxed_node.ensures.grows c.filled_message.ensures.grows

pub filled_cascade-returns-in_err-messages-clause-left : goal.filled_cascade-returns-in_err-messages-clause-left
filled_cascade-returns-in_err-messages-clause-left t c = λ bs h. c.filled_messages.ensures.left bs (c.boxed_node.ensures.left bs h)

pub filled_cascade-returns-in_err-messages-clause-grows : goal.filled_cascade-returns-in_err-messages-clause-grows
filled_cascade-returns-in_err-messages-clause-grows t c = Grows-twice c.boxed_node.ensures.grows c.filled_messages.ensures.grows

pub filled_cascade-returns-clause-left : goal.filled_cascade-returns-clause-left
filled_cascade-returns-clause-left t c = λ bs h. c.filled_messages.ensures.left bs (c.boxed_node.ensures.left bs h)

pub filled_cascade-returns-clause-grows : goal.filled_cascade-returns-clause-grows
filled_cascade-returns-clause-grows t c = Grows-twice c.boxed_node.ensures.grows c.filled_messages.ensures.grows

pub filled_message-returns-in_err-arguments-in_default-clause-grows : goal.filled_message-returns-in_err-arguments-in_default-clause-grows
filled_message-returns-in_err-arguments-in_default-clause-grows t c = Grows-twice c.filled_selector.ensures.grows c.filled_nodes.ensures.grows

pub filled_message-returns-in_ok-arguments-in_default-clause-grows : goal.filled_message-returns-in_ok-arguments-in_default-clause-grows
filled_message-returns-in_ok-arguments-in_default-clause-grows t c = Grows-twice c.filled_selector.ensures.grows c.filled_nodes.ensures.grows

pub filled_nodes-returns-in_err-node-clause-left : goal.filled_nodes-returns-in_err-node-clause-left
filled_nodes-returns-in_err-node-clause-left t c = λ bs h. c.filled_node.ensures.left bs (c.loop-pattern.invariant.left bs h)

pub filled_nodes-returns-in_err-node-clause-grows : goal.filled_nodes-returns-in_err-node-clause-grows
filled_nodes-returns-in_err-node-clause-grows t c = Grows-twice c.loop-pattern.invariant.grows c.filled_node.ensures.grows

pub filled_nodes-returns-in_err-push-clause-left : goal.filled_nodes-returns-in_err-push-clause-left
filled_nodes-returns-in_err-push-clause-left t c = λ bs h. c.filled_node.ensures.left bs (c.loop-pattern.invariant.left bs h)

pub filled_nodes-returns-in_err-push-clause-grows : goal.filled_nodes-returns-in_err-push-clause-grows
filled_nodes-returns-in_err-push-clause-grows t c = Grows-twice c.loop-pattern.invariant.grows c.filled_node.ensures.grows

pub filled_messages-returns-in_err-message-clause-left : goal.filled_messages-returns-in_err-message-clause-left
filled_messages-returns-in_err-message-clause-left t c = λ bs h. c.filled_message.ensures.left bs (c.loop-pattern.invariant.left bs h)

pub filled_messages-returns-in_err-message-clause-grows : goal.filled_messages-returns-in_err-message-clause-grows
filled_messages-returns-in_err-message-clause-grows t c = Grows-twice c.loop-pattern.invariant.grows c.filled_message.ensures.grows

pub filled_messages-returns-in_err-push-clause-left : goal.filled_messages-returns-in_err-push-clause-left
filled_messages-returns-in_err-push-clause-left t c = λ bs h. c.filled_message.ensures.left bs (c.loop-pattern.invariant.left bs h)

pub filled_messages-returns-in_err-push-clause-grows : goal.filled_messages-returns-in_err-push-clause-grows
filled_messages-returns-in_err-push-clause-grows t c = Grows-twice c.loop-pattern.invariant.grows c.filled_message.ensures.grows

pub put_statement-returns-in_err-made-in-Some-clause-grows : goal.put_statement-returns-in_err-made-in-Some-clause-grows
put_statement-returns-in_err-made-in-Some-clause-grows t c = Grows-none c.args.names.now

pub put_statement-returns-in_err-run-in-Some-clause-grows : goal.put_statement-returns-in_err-run-in-Some-clause-grows
put_statement-returns-in_err-run-in-Some-clause-grows t c = Grows-none c.args.names.now

pub put_statement-returns-in_ok-run-in-Some-clause-grows : goal.put_statement-returns-in_ok-run-in-Some-clause-grows
put_statement-returns-in_ok-run-in-Some-clause-grows t c = Grows-none c.args.names.now

pub filled_sequence-returns-in_err-made-clause-left : goal.filled_sequence-returns-in_err-made-clause-left
filled_sequence-returns-in_err-made-clause-left t c = λ bs h. c.put_statement.ensures.left bs (c.loop-statement.invariant.left bs h)

pub filled_sequence-returns-in_err-made-clause-grows : goal.filled_sequence-returns-in_err-made-clause-grows
filled_sequence-returns-in_err-made-clause-grows t c = Grows-twice c.loop-statement.invariant.grows c.put_statement.ensures.grows
