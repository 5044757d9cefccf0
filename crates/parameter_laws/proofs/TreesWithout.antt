-- Trees whose messages do not pass an argument, once their names are resolved.
use Rattle.std.proofs.Common.{◌≡◌, ℕ, zero, suc, ◌+◌, List, length, Option, refl, ap, ◌∙◌}
use Rattle.std.specs.Prelude.{Bool, true, false, if◌then◌else◌}
use Rattle.rb_base.specs.Names.{text_eq}
use Rattle.tree_model.specs.Tree.{TreeOf, var, literal, send, cascade, assign, block, brace, return, TreesOf, no_trees, more_trees, MessagesOf, no_messages, more_messages, StatementsOf, no_statements, more_statements}
use Rattle.image_model.specs.Means.{MeaningOf}
use Rattle.run_model.specs.Values.{Name}
use Rattle.resolved_model.specs.ResolvedTrees.{reading, sending, cascading, assigning, block_of, brace_of, returning, more_nodes, more_sends, more_lines}
use Rattle.argument_laws.specs.ArgumentGone.{inwards, nodes_without, tree_without, trees_without, messages_without, statements_without}
use Rattle.argument_laws.specs.PlainArguments.{MayLose, MayLoseEach, MessagesMayLose, LinesMayLose}
use Rattle.resolved_model.specs.Environments.{Declared, opened, tree_in, trees_in, messages_in, statements_in}
use Rattle.parameter_laws.specs.ArgumentsChanged.{passes, trees_passing, messages_passing, statements_passing}
use Rattle.command_model.specs.Parameters.{without_nth}
use Rattle.parameter_laws.proofs.GapsInNames.{Closes, closes-inside, read-closed, assigned-closed}
use Rattle.parameter_laws.proofs.AssignedCarried.{FreeTree, FreeTrees, FreeMessages, FreeLines}

module _ (g : Name → MeaningOf Name) (s : Name) (k : ℕ) where
  -- nodes without one
  nth-gone : (env : List Declared) (n : ℕ) (ts : TreesOf Name) → trees_in g env (without_nth n ts) ≡ nodes_without n (trees_in g env ts)
  nth-gone env n no_trees = refl
  nth-gone env zero (more_trees t ts) = refl
  nth-gone env (suc n) (more_trees t ts) = ap (more_nodes (tree_in g env t)) (nth-gone env n ts)

  -- by whether the message is one of the selector
  arguments-gone : (env : List Declared) (b : Bool) (ts : TreesOf Name) → trees_in g env (if b then without_nth k ts else ts) ≡ (if b then nodes_without k (trees_in g env ts) else trees_in g env ts)
  arguments-gone env true ts = nth-gone env k ts
  arguments-gone env false ts = refl

  mutual
    tree-gone : (t : TreeOf Name) (gap : Option ℕ) (env env' : List Declared) → Closes gap env env' → MayLose s k gap (tree_in g env t) → FreeTree env t →
        tree_in g env' (passes text_eq s (without_nth k) t) ≡ tree_without s k gap (tree_in g env t)
    tree-gone (var n) gap env env' c h f = ap reading (read-closed gap env env' c (g n) n h)
    tree-gone (literal l) gap env env' c h f = refl
    tree-gone (send r u args) gap env env' c h f =
        let rest = arguments-gone env' (text_eq s u) (trees_passing text_eq s (without_nth k) args) ∙ ap (λ ts. if text_eq s u then nodes_without k ts else ts) (trees-gone args gap env env' c h.1 f.1) in
        λ i. sending (tree-gone r gap env env' c h.0 f.0 i) u (rest i)
    tree-gone (cascade r ms) gap env env' c h f = λ i. cascading (tree-gone r gap env env' c h.0 f.0 i) (messages-gone ms gap env env' c h.1 f.1 i)
    tree-gone (assign n t) gap env env' c h f = λ i. assigning (assigned-closed gap env env' c (g n) n f.0 i) (tree-gone t gap env env' c h.1 f.1 i)
    tree-gone (block ps ts ss e) gap env env' c h f =
        ap (block_of (length ps) (length ts)) (lines-gone ss (inwards (length ps + length ts) gap) (opened ps ts env) (opened ps ts env') (closes-inside ps ts gap env env' c) h f)
    tree-gone (brace ts) gap env env' c h f = ap brace_of (trees-gone ts gap env env' c h f)
    tree-gone (return t) gap env env' c h f = ap returning (tree-gone t gap env env' c h f)

    trees-gone : (ts : TreesOf Name) (gap : Option ℕ) (env env' : List Declared) → Closes gap env env' → MayLoseEach s k gap (trees_in g env ts) → FreeTrees env ts →
        trees_in g env' (trees_passing text_eq s (without_nth k) ts) ≡ trees_without s k gap (trees_in g env ts)
    trees-gone no_trees gap env env' c h f = refl
    trees-gone (more_trees t ts) gap env env' c h f = λ i. more_nodes (tree-gone t gap env env' c h.0 f.0 i) (trees-gone ts gap env env' c h.1 f.1 i)

    messages-gone : (ms : MessagesOf Name) (gap : Option ℕ) (env env' : List Declared) → Closes gap env env' → MessagesMayLose s k gap (messages_in g env ms) → FreeMessages env ms →
        messages_in g env' (messages_passing text_eq s (without_nth k) ms) ≡ messages_without s k gap (messages_in g env ms)
    messages-gone no_messages gap env env' c h f = refl
    messages-gone (more_messages u args ms) gap env env' c h f =
        let rest = arguments-gone env' (text_eq s u) (trees_passing text_eq s (without_nth k) args) ∙ ap (λ ts. if text_eq s u then nodes_without k ts else ts) (trees-gone args gap env env' c h.0 f.0) in
        λ i. more_sends u (rest i) (messages-gone ms gap env env' c h.2 f.1 i)

    pub lines-gone : (ss : StatementsOf Name) (gap : Option ℕ) (env env' : List Declared) → Closes gap env env' → LinesMayLose s k gap (statements_in g env ss) → FreeLines env ss →
        statements_in g env' (statements_passing text_eq s (without_nth k) ss) ≡ statements_without s k gap (statements_in g env ss)
    lines-gone no_statements gap env env' c h f = refl
    lines-gone (more_statements n t ss) gap env env' c h f = λ i. more_lines (tree-gone t gap env env' c h.0 f.0 i) (lines-gone ss gap env env' c h.1 f.1 i)
