-- Code in which no node sends a selector sends others alone.
use Rattle.std.proofs.Common.{◌≡◌, ℕ, ◌+◌, ◌++◌, sym, ◌∙◌}
use Rattle.std.specs.Prelude.{false}
use Rattle.rb_base.specs.Names.{text_eq}
use Rattle.tree_model.specs.Tree.{TreeOf, var, literal, send, cascade, assign, block, brace, return, TreesOf, no_trees, more_trees, MessagesOf, no_messages, more_messages, StatementsOf, no_statements, more_statements}
use Rattle.tree_model.specs.Path.{count}
use Rattle.tree_model.specs.Nodes.{below_step, tree_nodes, trees_nodes, messages_nodes, statements_nodes}
use Rattle.image_model.specs.Uses.{has_message}
use Rattle.run_model.specs.Values.{Name}
use Rattle.rename_laws.proofs.TextsTold.{text-turned}
use Rattle.rename_laws.proofs.Unnamed.{neither_left, neither_right}
use Rattle.parameter_laws.proofs.SelectorsKept.{sent_by, first-none, others-none, left-none, right-none, deeper}
use Rattle.unfolded_calls.specs.SendsOnly.{SendsOnly, AllSendOnly, MessagesOnly, StatementsSendOnly}

module _ (t : Name) where
  -- another selector
  abbrev Other : Name → Type 0
  Other s = text_eq s t ≡ false

  mutual
    tree-unsent : (u : TreeOf Name) → sent_by t (tree_nodes u) ≡ false → SendsOnly Other u
    tree-unsent (var n) h = tt
    tree-unsent (literal l) h = tt
    tree-unsent (send r s args) h =
        let rest = neither_right (text_eq t s) (sent_by t (below_step 0 (tree_nodes r) ++ trees_nodes 1 args)) h in
        (text-turned s t ∙ neither_left (text_eq t s) _ h, tree-unsent r (first-none t 0 (tree_nodes r) (trees_nodes 1 args) rest), trees-unsent args 1 (others-none t 0 (tree_nodes r) (trees_nodes 1 args) rest))
    tree-unsent (cascade r ms) h =
        let rest = neither_right (has_message text_eq t ms) (sent_by t (below_step 0 (tree_nodes r) ++ messages_nodes 1 ms)) h in
        (tree-unsent r (first-none t 0 (tree_nodes r) (messages_nodes 1 ms) rest), messages-unsent ms 1 (neither_left (has_message text_eq t ms) _ h) (others-none t 0 (tree_nodes r) (messages_nodes 1 ms) rest))
    tree-unsent (assign n u) h = tree-unsent u (sym (deeper t 0 (tree_nodes u)) ∙ h)
    tree-unsent (block ps ts ss e) h = lines-unsent ss 0 h
    tree-unsent (brace us) h = trees-unsent us 0 h
    tree-unsent (return u) h = tree-unsent u (sym (deeper t 0 (tree_nodes u)) ∙ h)

    trees-unsent : (us : TreesOf Name) (k : ℕ) → sent_by t (trees_nodes k us) ≡ false → AllSendOnly Other us
    trees-unsent no_trees k h = tt
    trees-unsent (more_trees u us) k h = (tree-unsent u (first-none t k (tree_nodes u) (trees_nodes (k + 1) us) h), trees-unsent us (k + 1) (others-none t k (tree_nodes u) (trees_nodes (k + 1) us) h))

    messages-unsent : (ms : MessagesOf Name) (k : ℕ) → has_message text_eq t ms ≡ false → sent_by t (messages_nodes k ms) ≡ false → MessagesOnly Other ms
    messages-unsent no_messages k g h = tt
    messages-unsent (more_messages s args ms) k g h = (
      text-turned s t ∙ neither_left (text_eq t s) (has_message text_eq t ms) g,
      trees-unsent args k (left-none t (trees_nodes k args) (messages_nodes (k + count args) ms) h),
      messages-unsent ms (k + count args) (neither_right (text_eq t s) (has_message text_eq t ms) g) (right-none t (trees_nodes k args) (messages_nodes (k + count args) ms) h),
    )

    pub lines-unsent : (ss : StatementsOf Name) (k : ℕ) → sent_by t (statements_nodes k ss) ≡ false → StatementsSendOnly Other ss
    lines-unsent no_statements k h = tt
    lines-unsent (more_statements c u ss) k h = (tree-unsent u (first-none t k (tree_nodes u) (statements_nodes (k + 1) ss) h), lines-unsent ss (k + 1) (others-none t k (tree_nodes u) (statements_nodes (k + 1) ss) h))

-- selectors that pass two tests pass a third one
module _ (P Q R : Name → Type 0) (both : (s : Name) → P s → Q s → R s) where
  mutual
    tree-both : (u : TreeOf Name) → SendsOnly P u → SendsOnly Q u → SendsOnly R u
    tree-both (var n) a b = tt
    tree-both (literal l) a b = tt
    tree-both (send r s args) a b = (both s a.0 b.0, tree-both r a.1 b.1, trees-both args a.2 b.2)
    tree-both (cascade r ms) a b = (tree-both r a.0 b.0, messages-both ms a.1 b.1)
    tree-both (assign n u) a b = tree-both u a b
    tree-both (block ps ts ss e) a b = lines-both ss a b
    tree-both (brace us) a b = trees-both us a b
    tree-both (return u) a b = tree-both u a b

    trees-both : (us : TreesOf Name) → AllSendOnly P us → AllSendOnly Q us → AllSendOnly R us
    trees-both no_trees a b = tt
    trees-both (more_trees u us) a b = (tree-both u a.0 b.0, trees-both us a.1 b.1)

    messages-both : (ms : MessagesOf Name) → MessagesOnly P ms → MessagesOnly Q ms → MessagesOnly R ms
    messages-both no_messages a b = tt
    messages-both (more_messages s args ms) a b = (both s a.0 b.0, trees-both args a.1 b.1, messages-both ms a.2 b.2)

    pub lines-both : (ss : StatementsOf Name) → StatementsSendOnly P ss → StatementsSendOnly Q ss → StatementsSendOnly R ss
    lines-both no_statements a b = tt
    lines-both (more_statements c u ss) a b = (tree-both u a.0 b.0, lines-both ss a.1 b.1)
