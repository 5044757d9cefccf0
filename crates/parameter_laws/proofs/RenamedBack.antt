-- A selector that is renamed to a fresh one is fresh itself then, and renamed back it gives the image before, once names are resolved.
use Rattle.std.proofs.Common.{◌≡◌, ℕ, ◌+◌, List, [], ◌∷◌, ◌++◌, Option, Some, None, refl, sym, ap, ◌∙◌}
use Rattle.std.specs.Prelude.{Bool, true, false, not, ◌||◌, if◌then◌else◌, map}
use Rattle.std.specs.List.{list_any}
use Rattle.std.proofs.lemmas.Bool.{not-true, or_from}
use Rattle.rb_base.specs.Names.{text_eq}
use Rattle.rb_base.proofs.NamesLemmas.{text_eq-refl}
use Rattle.tree_model.specs.Tree.{TreeOf, var, literal, send, cascade, assign, block, brace, return, TreesOf, no_trees, more_trees, MessagesOf, no_messages, more_messages, StatementsOf, no_statements, more_statements}
use Rattle.tree_model.specs.Path.{count}
use Rattle.tree_model.specs.Nodes.{below_step, tree_nodes, trees_nodes, messages_nodes, statements_nodes, nodes}
use Rattle.image_model.specs.Image.{EntryOf, DoItOf, ImageOf}
use Rattle.image_model.specs.Words.{text_words}
use Rattle.image_model.specs.Means.{means_outside}
use Rattle.image_model.specs.Uses.{has_message}
use Rattle.run_model.specs.Values.{Name}
use Rattle.run_model.specs.Runs.{doit_class}
use Rattle.run_model.proofs.RenamingLemmas.{text-same}
use Rattle.resolved_model.specs.Resolving.{resolved_doit}
use Rattle.resolved_model.specs.ResolvedImages.{by_code, doing_of, resolved_entry, resolved_image}
use Rattle.rename_model.specs.ClassRenamed.{WritingOf}
use Rattle.rename_model.specs.Conditions.{speaks_of, is_selector_fresh}
use Rattle.rename_model.specs.SelectorRenamed.{sends_anew, trees_anew, messages_anew, statements_anew, method_after, doit_after, selector_renamed}
use Rattle.resolved_model.specs.Environments.{code_in}
use Rattle.resolved_model.proofs.ResolvingLemmas.{method-resolved, doit-resolved}
use Rattle.rename_laws.proofs.Unnamed.{neither_left, neither_right}
use Rattle.parameter_laws.proofs.SelectorsKept.{sent_by, deeper, first-none, others-none, both-none, left-none, right-none, two-none}

module _ (s t : Name) where
  -- what a selector is called after
  abbrev to : Name → Name
  to u = if text_eq s u then t else u

  -- and then, when it is renamed back
  abbrev back : Name → Name
  back u = if text_eq t u then s else u

  -- the old one is not there any more
  gone-by : text_eq s t ≡ false → (u : Name) (b : Bool) → text_eq s u ≡ b → text_eq s (if b then t else u) ≡ false
  gone-by apart u true e = apart
  gone-by apart u false e = e

  -- renamed back, a selector that is not the new one is what it was
  back-by : (u : Name) → text_eq t u ≡ false → (b : Bool) → text_eq s u ≡ b → back (if b then t else u) ≡ u
  back-by u h true e = ap (λ c. if c then s else t) (text_eq-refl t) ∙ text-same s u e
  back-by u h false e = ap (λ c. if c then s else u) h

  module _ (apart : text_eq s t ≡ false) where
    gone : (u : Name) → text_eq s (to u) ≡ false
    gone u = gone-by apart u (text_eq s u) refl

    messages-gone : (ms : MessagesOf Name) → has_message text_eq s (messages_anew to ms) ≡ false
    messages-gone no_messages = refl
    messages-gone (more_messages u args ms) = or_from (text_eq s (to u)) (has_message text_eq s (messages_anew to ms)) (gone u) (messages-gone ms)

    mutual
      tree-gone : (u : TreeOf Name) → sent_by s (tree_nodes (sends_anew to u)) ≡ false
      tree-gone (var n) = refl
      tree-gone (literal l) = refl
      tree-gone (send r v args) =
          or_from (text_eq s (to v)) (sent_by s (below_step 0 (tree_nodes (sends_anew to r)) ++ trees_nodes 1 (trees_anew to args))) (gone v) (both-none s 0 (tree_nodes (sends_anew to r)) (trees_nodes 1 (trees_anew to args)) (tree-gone r) (trees-gone args 1))
      tree-gone (cascade r ms) =
          or_from (has_message text_eq s (messages_anew to ms)) (sent_by s (below_step 0 (tree_nodes (sends_anew to r)) ++ messages_nodes 1 (messages_anew to ms))) (messages-gone ms)
          (both-none s 0 (tree_nodes (sends_anew to r)) (messages_nodes 1 (messages_anew to ms)) (tree-gone r) (sends-gone ms 1))
      tree-gone (assign n u) = deeper s 0 (tree_nodes (sends_anew to u)) ∙ tree-gone u
      tree-gone (block ps ts ss e) = lines-gone ss 0
      tree-gone (brace ts) = trees-gone ts 0
      tree-gone (return u) = deeper s 0 (tree_nodes (sends_anew to u)) ∙ tree-gone u

      trees-gone : (ts : TreesOf Name) (k : ℕ) → sent_by s (trees_nodes k (trees_anew to ts)) ≡ false
      trees-gone no_trees k = refl
      trees-gone (more_trees u ts) k = both-none s k (tree_nodes (sends_anew to u)) (trees_nodes (k + 1) (trees_anew to ts)) (tree-gone u) (trees-gone ts (k + 1))

      sends-gone : (ms : MessagesOf Name) (k : ℕ) → sent_by s (messages_nodes k (messages_anew to ms)) ≡ false
      sends-gone no_messages k = refl
      sends-gone (more_messages u args ms) k =
          two-none s (trees_nodes k (trees_anew to args)) (messages_nodes (k + count (trees_anew to args)) (messages_anew to ms)) (trees-gone args k) (sends-gone ms (k + count (trees_anew to args)))

      lines-gone : (ss : StatementsOf Name) (k : ℕ) → sent_by s (statements_nodes k (statements_anew to ss)) ≡ false
      lines-gone no_statements k = refl
      lines-gone (more_statements c u ss) k = both-none s k (tree_nodes (sends_anew to u)) (statements_nodes (k + 1) (statements_anew to ss)) (tree-gone u) (lines-gone ss (k + 1))

    module _ (writing : WritingOf Name) (i : ImageOf Name) where
      -- methods and do-its
      methods-gone : (ms : List (EntryOf Name)) → list_any (speaks_of text_eq s) (map (method_after text_eq writing i s t) ms) ≡ false
      methods-gone [] = refl
      methods-gone (m ∷ ms) =
          or_from (speaks_of text_eq s (method_after text_eq writing i s t m)) (list_any (speaks_of text_eq s) (map (method_after text_eq writing i s t) ms))
          (or_from (text_eq s (to m.tree.selector)) (sent_by s (nodes (method_after text_eq writing i s t m).tree.body)) (gone m.tree.selector) (lines-gone m.tree.body.statements 0)) (methods-gone ms)

      doits-gone : (ds : List (DoItOf Name)) → list_any (λ (d : DoItOf Name). sent_by s (nodes d.body)) (map (doit_after text_eq writing i s t) ds) ≡ false
      doits-gone [] = refl
      doits-gone (d ∷ ds) = or_from (sent_by s (nodes (doit_after text_eq writing i s t d).body)) (list_any (λ (x : DoItOf Name). sent_by s (nodes x.body)) (map (doit_after text_eq writing i s t) ds)) (lines-gone d.body.statements 0) (doits-gone ds)

      pub fresh-then : is_selector_fresh text_eq (selector_renamed text_eq writing i s t) s ≡ true
      fresh-then = ap not (or_from (list_any (speaks_of text_eq s) (map (method_after text_eq writing i s t) i.methods)) (list_any (λ (d : DoItOf Name). sent_by s (nodes d.body)) (map (doit_after text_eq writing i s t) i.doits)) (methods-gone i.methods) (doits-gone i.doits))

  -- a selector that is not the new one
  backwards : (u : Name) → text_eq t u ≡ false → back (to u) ≡ u
  backwards u h = back-by u h (text_eq s u) refl

  mutual
    tree-back : (u : TreeOf Name) → sent_by t (tree_nodes u) ≡ false → sends_anew back (sends_anew to u) ≡ u
    tree-back (var n) h = refl
    tree-back (literal l) h = refl
    tree-back (send r v args) h =
        let rest = neither_right (text_eq t v) (sent_by t (below_step 0 (tree_nodes r) ++ trees_nodes 1 args)) h in
        λ n. send (tree-back r (first-none t 0 (tree_nodes r) (trees_nodes 1 args) rest) n) (backwards v (neither_left (text_eq t v) (sent_by t (below_step 0 (tree_nodes r) ++ trees_nodes 1 args)) h) n) (trees-back args 1 (others-none t 0 (tree_nodes r) (trees_nodes 1 args) rest) n)
    tree-back (cascade r ms) h =
        let rest = neither_right (has_message text_eq t ms) (sent_by t (below_step 0 (tree_nodes r) ++ messages_nodes 1 ms)) h in
        λ n. cascade (tree-back r (first-none t 0 (tree_nodes r) (messages_nodes 1 ms) rest) n) (messages-back ms 1 (neither_left (has_message text_eq t ms) (sent_by t (below_step 0 (tree_nodes r) ++ messages_nodes 1 ms)) h) (others-none t 0 (tree_nodes r) (messages_nodes 1 ms) rest) n)
    tree-back (assign n u) h = ap (assign n) (tree-back u (sym (deeper t 0 (tree_nodes u)) ∙ h))
    tree-back (block ps ts ss e) h = ap (λ x. block ps ts x e) (lines-back ss 0 h)
    tree-back (brace ts) h = ap brace (trees-back ts 0 h)
    tree-back (return u) h = ap return (tree-back u (sym (deeper t 0 (tree_nodes u)) ∙ h))

    trees-back : (ts : TreesOf Name) (k : ℕ) → sent_by t (trees_nodes k ts) ≡ false → trees_anew back (trees_anew to ts) ≡ ts
    trees-back no_trees k h = refl
    trees-back (more_trees u ts) k h = λ n. more_trees (tree-back u (first-none t k (tree_nodes u) (trees_nodes (k + 1) ts) h) n) (trees-back ts (k + 1) (others-none t k (tree_nodes u) (trees_nodes (k + 1) ts) h) n)

    messages-back : (ms : MessagesOf Name) (k : ℕ) → has_message text_eq t ms ≡ false → sent_by t (messages_nodes k ms) ≡ false → messages_anew back (messages_anew to ms) ≡ ms
    messages-back no_messages k e h = refl
    messages-back (more_messages u args ms) k e h =
        λ n. more_messages (backwards u (neither_left (text_eq t u) (has_message text_eq t ms) e) n) (trees-back args k (left-none t (trees_nodes k args) (messages_nodes (k + count args) ms) h) n)
        (messages-back ms (k + count args) (neither_right (text_eq t u) (has_message text_eq t ms) e) (right-none t (trees_nodes k args) (messages_nodes (k + count args) ms) h) n)

    lines-back : (ss : StatementsOf Name) (k : ℕ) → sent_by t (statements_nodes k ss) ≡ false → statements_anew back (statements_anew to ss) ≡ ss
    lines-back no_statements k h = refl
    lines-back (more_statements c u ss) k h = λ n. more_statements c (tree-back u (first-none t k (tree_nodes u) (statements_nodes (k + 1) ss) h) n) (lines-back ss (k + 1) (others-none t k (tree_nodes u) (statements_nodes (k + 1) ss) h) n)

  module _ (writing : WritingOf Name) (i : ImageOf Name) where
    -- the image with the selector renamed, and renamed back
    abbrev there : ImageOf Name
    there = selector_renamed text_eq writing i s t

    abbrev again : ImageOf Name
    again = selector_renamed text_eq writing there t s

    abbrev method_again : EntryOf Name → EntryOf Name
    method_again m = method_after text_eq writing there t s (method_after text_eq writing i s t m)

    abbrev doit_again : DoItOf Name → DoItOf Name
    doit_again d = doit_after text_eq writing there t s (doit_after text_eq writing i s t d)

    -- a method
    doing-back : (m : EntryOf Name) → sent_by t (nodes m.tree.body) ≡ false → (p : Option ℕ) → doing_of again (method_again m) p ≡ doing_of i m p
    doing-back m h (Some n) = refl
    doing-back m h None =
        ap by_code
        (method-resolved again (method_again m)
        ∙ ap (λ ss. code_in (λ n. means_outside text_words i m.class m.meta n) [] m.tree.arguments (record m.tree.body { statements = ss })) (lines-back m.tree.body.statements 0 h)
        ∙ sym (method-resolved i m))

    methods-back : (ms : List (EntryOf Name)) → list_any (speaks_of text_eq t) ms ≡ false → map (resolved_entry again) (map (method_after text_eq writing there t s) (map (method_after text_eq writing i s t) ms)) ≡ map (resolved_entry i) ms
    methods-back [] h = refl
    methods-back (m ∷ ms) h =
        let own = neither_left (speaks_of text_eq t m) (list_any (speaks_of text_eq t) ms) h in
        λ n. record {
          class = m.class;
          meta = m.meta;
          selector = backwards m.tree.selector (neither_left (text_eq t m.tree.selector) (sent_by t (nodes m.tree.body)) own) n;
          doing = doing-back m (neither_right (text_eq t m.tree.selector) (sent_by t (nodes m.tree.body)) own) m.tree.primitive n;
        } ∷ methods-back ms (neither_right (speaks_of text_eq t m) (list_any (speaks_of text_eq t) ms) h) n

    -- a do-it
    doit-back : (d : DoItOf Name) → sent_by t (nodes d.body) ≡ false → resolved_doit again (doit_again d) ≡ resolved_doit i d
    doit-back d h =
        doit-resolved again (doit_again d) ∙ ap (λ ss. code_in (λ n. means_outside text_words i (doit_class i) false n) [] [] (record d.body { statements = ss })) (lines-back d.body.statements 0 h) ∙ sym (doit-resolved i d)

    doits-back : (ds : List (DoItOf Name)) → list_any (λ (d : DoItOf Name). sent_by t (nodes d.body)) ds ≡ false → map (resolved_doit again) (map (doit_after text_eq writing there t s) (map (doit_after text_eq writing i s t) ds)) ≡ map (resolved_doit i) ds
    doits-back [] h = refl
    doits-back (d ∷ ds) h =
        λ n. doit-back d (neither_left (sent_by t (nodes d.body)) (list_any (λ (x : DoItOf Name). sent_by t (nodes x.body)) ds) h) n ∷ doits-back ds (neither_right (sent_by t (nodes d.body)) (list_any (λ (x : DoItOf Name). sent_by t (nodes x.body)) ds) h) n

    pub image-back : is_selector_fresh text_eq i t ≡ true → resolved_image again ≡ resolved_image i
    image-back fresh =
        let none = not-true (list_any (speaks_of text_eq t) i.methods || list_any (λ (d : DoItOf Name). sent_by t (nodes d.body)) i.doits) fresh in
        λ n. record {
          classes = (resolved_image i).classes;
          methods = methods-back i.methods (neither_left (list_any (speaks_of text_eq t) i.methods) (list_any (λ (d : DoItOf Name). sent_by t (nodes d.body)) i.doits) none) n;
          doits = doits-back i.doits (neither_right (list_any (speaks_of text_eq t) i.methods) (list_any (λ (d : DoItOf Name). sent_by t (nodes d.body)) i.doits) none) n;
        }
