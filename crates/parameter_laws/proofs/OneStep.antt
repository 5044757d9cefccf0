-- Arguments and the selector that change in one step, and one after the other: once names are resolved, both images are one.
use Rattle.std.proofs.Common.{◌≡◌, ℕ, zero, suc, ◌+◌, List, [], ◌∷◌, ◌++◌, Option, Some, None, refl, sym, ap, ◌∙◌}
use Rattle.std.specs.Prelude.{Bool, true, false, if◌then◌else◌, map}
use Rattle.rb_base.specs.Names.{text_eq}
use Rattle.tree_model.specs.Tree.{LiteralOf, number, str, symbol, char, array, bytes, word, TreeOf, var, literal, send, cascade, assign, block, brace, return, TreesOf, no_trees, more_trees, MessagesOf, no_messages, more_messages, StatementsOf, no_statements, more_statements, SequenceOf, MethodOf}
use Rattle.tree_model.specs.Path.{append, count}
use Rattle.tree_model.specs.Nodes.{below_step, tree_nodes, trees_nodes, messages_nodes, statements_nodes, nodes}
use Rattle.image_model.specs.Image.{EntryOf, DoItOf, ImageOf}
use Rattle.image_model.specs.Words.{text_words}
use Rattle.image_model.specs.Means.{means_outside}
use Rattle.image_model.specs.Uses.{has_message}
use Rattle.run_model.specs.Values.{Name}
use Rattle.run_model.specs.Runs.{doit_class}
use Rattle.run_model.proofs.Finite.{by_cases}
use Rattle.resolved_model.specs.Resolving.{resolved_doit}
use Rattle.resolved_model.specs.ResolvedImages.{by_code, doing_of, resolved_entry, resolved_image}
use Rattle.resolved_model.specs.Environments.{code_in}
use Rattle.resolved_model.proofs.ResolvingLemmas.{method-resolved, doit-resolved}
use Rattle.rename_model.specs.ClassRenamed.{WritingOf}
use Rattle.rename_model.specs.Conditions.{speaks_of}
use Rattle.rename_model.specs.SelectorRenamed.{sends_anew, trees_anew, messages_anew, statements_anew, selector_renamed}
use Rattle.rename_model.specs.SelectorRenamed
use Rattle.rename_laws.proofs.Unnamed.{neither_left, neither_right}
use Rattle.command_model.specs.Walk.{Making, rebuilt, rebuilt_trees, rebuilt_messages, rebuilt_statements}
use Rattle.command_model.specs.Plain.{literal_node}
use Rattle.command_model.specs.Parameters.{without_nth, messages_passed, node_passed, tree_passed, method_passed, doit_passed, passing_changed}
use Rattle.parameter_laws.specs.ArgumentsChanged.{passes, trees_passing, messages_passing, statements_passing, method_after, doit_after, arguments_changed}
use Rattle.parameter_laws.proofs.SelectorsKept.{sent_by, deeper, first-none, others-none, left-none, right-none}

-- one tree fewer, whatever becomes of selectors
pub nth-natural : (f : Name → Name) (n : ℕ) (ts : TreesOf Name) → trees_anew f (without_nth n ts) ≡ without_nth n (trees_anew f ts)
nth-natural f n no_trees = refl
nth-natural f zero (more_trees u ts) = refl
nth-natural f (suc n) (more_trees u ts) = ap (more_trees (sends_anew f u)) (nth-natural f n ts)

-- one tree more
literal-natural : (f : Name → Name) (l : LiteralOf Name) → sends_anew f (literal_node l) ≡ literal_node l
literal-natural f (number n) = refl
literal-natural f (str n) = refl
literal-natural f (symbol n) = refl
literal-natural f (char b) = refl
literal-natural f (array ls) = refl
literal-natural f (bytes ls) = refl
literal-natural f (word n) = refl

pub last-natural : (f : Name → Name) (l : LiteralOf Name) (ts : TreesOf Name) → trees_anew f (append ts (more_trees (literal_node l) no_trees)) ≡ append (trees_anew f ts) (more_trees (literal_node l) no_trees)
last-natural f l no_trees = ap (λ u. more_trees u no_trees) (literal-natural f l)
last-natural f l (more_trees u ts) = ap (more_trees (sends_anew f u)) (last-natural f l ts)

module _ (s t : Name) (pass : TreesOf Name → TreesOf Name) (writing : WritingOf Name) (take : List Name → List Name) where
  -- what a selector is called after
  abbrev to : Name → Name
  to u = if text_eq s u then t else u

  -- what becomes of a node in one step
  abbrev at_once : Making Name
  at_once path u = node_passed text_eq writing s t pass take u

  abbrev messages_once : MessagesOf Name → MessagesOf Name
  messages_once ms = messages_passed text_eq writing s t pass take ms

  -- code that does not send the selector stays as it is
  mutual
    tree-quiet : (u : TreeOf Name) → sent_by s (tree_nodes u) ≡ false → rebuilt at_once u ≡ u
    tree-quiet (var n) h = refl
    tree-quiet (literal l) h = refl
    tree-quiet (send r u args) h =
        let rest = neither_right (text_eq s u) (sent_by s (below_step 0 (tree_nodes r) ++ trees_nodes 1 args)) h in
        (λ z. at_once [] (send (tree-quiet r (first-none s 0 (tree_nodes r) (trees_nodes 1 args) rest) z) u (trees-quiet args 1 1 (others-none s 0 (tree_nodes r) (trees_nodes 1 args) rest) z)))
        ∙ ap (λ b. if b then send r t (pass args) else send r u args) (neither_left (text_eq s u) (sent_by s (below_step 0 (tree_nodes r) ++ trees_nodes 1 args)) h)
    tree-quiet (cascade r ms) h =
        let rest = neither_right (has_message text_eq s ms) (sent_by s (below_step 0 (tree_nodes r) ++ messages_nodes 1 ms)) h in
        λ z. cascade (tree-quiet r (first-none s 0 (tree_nodes r) (messages_nodes 1 ms) rest) z)
        (messages-quiet ms 1 1 (neither_left (has_message text_eq s ms) (sent_by s (below_step 0 (tree_nodes r) ++ messages_nodes 1 ms)) h) (others-none s 0 (tree_nodes r) (messages_nodes 1 ms) rest) z)
    tree-quiet (assign n u) h = ap (assign n) (tree-quiet u (sym (deeper s 0 (tree_nodes u)) ∙ h))
    tree-quiet (block ps ts ss e) h = ap (λ x. block ps ts x e) (lines-quiet ss 0 0 h)
    tree-quiet (brace ts) h = ap brace (trees-quiet ts 0 0 h)
    tree-quiet (return u) h = ap return (tree-quiet u (sym (deeper s 0 (tree_nodes u)) ∙ h))

    trees-quiet : (ts : TreesOf Name) (k l : ℕ) → sent_by s (trees_nodes k ts) ≡ false → rebuilt_trees at_once l ts ≡ ts
    trees-quiet no_trees k l h = refl
    trees-quiet (more_trees u ts) k l h =
        λ z. more_trees (tree-quiet u (first-none s k (tree_nodes u) (trees_nodes (k + 1) ts) h) z) (trees-quiet ts (k + 1) (suc l) (others-none s k (tree_nodes u) (trees_nodes (k + 1) ts) h) z)

    messages-quiet : (ms : MessagesOf Name) (k l : ℕ) → has_message text_eq s ms ≡ false → sent_by s (messages_nodes k ms) ≡ false → messages_once (rebuilt_messages at_once l ms) ≡ ms
    messages-quiet no_messages k l e h = refl
    messages-quiet (more_messages u args ms) k l e h =
        let own = trees-quiet args k l (left-none s (trees_nodes k args) (messages_nodes (k + count args) ms) h) in
        let rest = messages-quiet ms (k + count args) (l + count args) (neither_right (text_eq s u) (has_message text_eq s ms) e) (right-none s (trees_nodes k args) (messages_nodes (k + count args) ms) h) in
        (λ z. if text_eq s u then more_messages t (pass (own z)) (rest z) else more_messages u (own z) (rest z))
        ∙ ap (λ b. if b then more_messages t (pass args) ms else more_messages u args ms) (neither_left (text_eq s u) (has_message text_eq s ms) e)

    lines-quiet : (ss : StatementsOf Name) (k l : ℕ) → sent_by s (statements_nodes k ss) ≡ false → rebuilt_statements at_once l ss ≡ ss
    lines-quiet no_statements k l h = refl
    lines-quiet (more_statements c u ss) k l h =
        λ z. more_statements c (tree-quiet u (first-none s k (tree_nodes u) (statements_nodes (k + 1) ss) h) z) (lines-quiet ss (k + 1) (suc l) (others-none s k (tree_nodes u) (statements_nodes (k + 1) ss) h) z)

  module _ (natural : (ts : TreesOf Name) → trees_anew to (pass ts) ≡ pass (trees_anew to ts)) where
    -- a message, by whether it is one of the selector
    send-by : (b : Bool) (r : TreeOf Name) (u : Name) (ts : TreesOf Name) → (if b then send r t (pass (trees_anew to ts)) else send r u (trees_anew to ts)) ≡ send r (if b then t else u) (trees_anew to (if b then pass ts else ts))
    send-by true r u ts = ap (send r t) (sym (natural ts))
    send-by false r u ts = refl

    more-by : (b : Bool) (u : Name) (ts : TreesOf Name) (ms : MessagesOf Name) →
        (if b then more_messages t (pass (trees_anew to ts)) ms else more_messages u (trees_anew to ts) ms) ≡ more_messages (if b then t else u) (trees_anew to (if b then pass ts else ts)) ms
    more-by true u ts ms = ap (λ x. more_messages t x ms) (sym (natural ts))
    more-by false u ts ms = refl

    mutual
      tree-both : (u : TreeOf Name) → rebuilt at_once u ≡ sends_anew to (passes text_eq s pass u)
      tree-both (var n) = refl
      tree-both (literal l) = refl
      tree-both (send r u args) = (λ z. at_once [] (send (tree-both r z) u (trees-both args 1 z))) ∙ send-by (text_eq s u) (sends_anew to (passes text_eq s pass r)) u (trees_passing text_eq s pass args)
      tree-both (cascade r ms) = λ z. cascade (tree-both r z) (messages-both ms 1 z)
      tree-both (assign n u) = ap (assign n) (tree-both u)
      tree-both (block ps ts ss e) = ap (λ x. block ps ts x e) (lines-both ss 0)
      tree-both (brace ts) = ap brace (trees-both ts 0)
      tree-both (return u) = ap return (tree-both u)

      trees-both : (ts : TreesOf Name) (k : ℕ) → rebuilt_trees at_once k ts ≡ trees_anew to (trees_passing text_eq s pass ts)
      trees-both no_trees k = refl
      trees-both (more_trees u ts) k = λ z. more_trees (tree-both u z) (trees-both ts (suc k) z)

      messages-both : (ms : MessagesOf Name) (k : ℕ) → messages_once (rebuilt_messages at_once k ms) ≡ messages_anew to (messages_passing text_eq s pass ms)
      messages-both no_messages k = refl
      messages-both (more_messages u args ms) k =
          let own = trees-both args k in
          let rest = messages-both ms (k + count args) in
          (λ z. if text_eq s u then more_messages t (pass (own z)) (rest z) else more_messages u (own z) (rest z))
          ∙ more-by (text_eq s u) u (trees_passing text_eq s pass args) (messages_anew to (messages_passing text_eq s pass ms))

      lines-both : (ss : StatementsOf Name) (k : ℕ) → rebuilt_statements at_once k ss ≡ statements_anew to (statements_passing text_eq s pass ss)
      lines-both no_statements k = refl
      lines-both (more_statements c u ss) k = λ z. more_statements c (tree-both u z) (lines-both ss (suc k) z)

    -- a sequence and a method in two steps
    abbrev sequence_twice : SequenceOf Name → SequenceOf Name
    sequence_twice b = record b { statements = statements_anew to (statements_passing text_eq s pass b.statements) }

    abbrev tree_twice : MethodOf Name → MethodOf Name
    tree_twice m = record m { selector = to m.selector; arguments = if text_eq s m.selector then take m.arguments else m.arguments; body = sequence_twice m.body }

    sequence-quiet : (b : SequenceOf Name) → sent_by s (nodes b) ≡ false → b ≡ sequence_twice b
    sequence-quiet b h = λ z. record b { statements = (sym (lines-quiet b.statements 0 0 h) ∙ lines-both b.statements 0) z }

    tree-once : (m : MethodOf Name) → tree_passed text_eq writing s t pass take m ≡ tree_twice m
    tree-once m = by (text_eq s m.selector) ∙ (λ z. record m { selector = to m.selector; arguments = if text_eq s m.selector then take m.arguments else m.arguments; body = record m.body { statements = lines-both m.body.statements 0 z } })
      where
        made : MethodOf Name
        made = record m { body = record m.body { statements = rebuilt_statements at_once 0 m.body.statements } }

        by : (b : Bool) → (if b then record made { selector = t; arguments = take m.arguments } else made) ≡ record made { selector = if b then t else m.selector; arguments = if b then take m.arguments else m.arguments }
        by true = refl
        by false = refl

    method-quiet : (m : MethodOf Name) → text_eq s m.selector ≡ false → sent_by s (nodes m.body) ≡ false → m ≡ tree_twice m
    method-quiet m e h = λ z. record m { selector = if sym e z then t else m.selector; arguments = if sym e z then take m.arguments else m.arguments; body = sequence-quiet m.body h z }

    module _ (i : ImageOf Name) where
      -- the image in one step, and in two
      abbrev one : ImageOf Name
      one = passing_changed text_eq writing s t pass take i

      abbrev first : ImageOf Name
      first = arguments_changed text_eq s pass writing take i

      abbrev two : ImageOf Name
      two = selector_renamed text_eq writing first s t

      abbrev method_twice : EntryOf Name → EntryOf Name
      method_twice m = SelectorRenamed.method_after text_eq writing first s t (method_after text_eq s pass writing take m)

      abbrev doit_twice : DoItOf Name → DoItOf Name
      doit_twice d = SelectorRenamed.doit_after text_eq writing first s t (doit_after text_eq s pass writing take d)

      -- a method with the tree of both
      entry-same : (m : EntryOf Name) (tree : MethodOf Name) (source : List ℕ) → tree ≡ tree_twice m.tree → resolved_entry one (record m { tree = tree; source = source }) ≡ resolved_entry two (method_twice m)
      entry-same m tree source e = λ z. record { class = m.class; meta = m.meta; selector = (e z).selector; doing = doing z }
        where
          by : (p : Option ℕ) → doing_of one (record m { tree = tree; source = source }) p ≡ doing_of two (method_twice m) p
          by (Some k) = refl
          by None =
              ap by_code
              (method-resolved one (record m { tree = tree; source = source }) ∙ ap (λ (n : MethodOf Name). code_in (λ x. means_outside text_words i m.class m.meta x) [] n.arguments n.body) e
              ∙ sym (method-resolved two (method_twice m)))

          doing : doing_of one (record m { tree = tree; source = source }) tree.primitive ≡ doing_of two (method_twice m) m.tree.primitive
          doing = ap (doing_of one (record m { tree = tree; source = source })) (ap (λ (n : MethodOf Name). n.primitive) e) ∙ by m.tree.primitive

      entry-both : (m : EntryOf Name) → resolved_entry one (method_passed text_eq writing s t pass take m) ≡ resolved_entry two (method_twice m)
      entry-both m =
          by_cases (speaks_of text_eq s m)
          (λ h. ap (λ b. resolved_entry one (if b then record m { tree = tree_passed text_eq writing s t pass take m.tree; source = writing.method_text (tree_passed text_eq writing s t pass take m.tree) } else m)) h
          ∙ entry-same m (tree_passed text_eq writing s t pass take m.tree) (writing.method_text (tree_passed text_eq writing s t pass take m.tree)) (tree-once m.tree))
          (λ h. ap (λ b. resolved_entry one (if b then record m { tree = tree_passed text_eq writing s t pass take m.tree; source = writing.method_text (tree_passed text_eq writing s t pass take m.tree) } else m)) h
          ∙ entry-same m m.tree m.source (method-quiet m.tree (neither_left (text_eq s m.tree.selector) (sent_by s (nodes m.tree.body)) h) (neither_right (text_eq s m.tree.selector) (sent_by s (nodes m.tree.body)) h)))

      -- a do-it
      doit-same : (body : SequenceOf Name) (source : List ℕ) (d : DoItOf Name) → body ≡ sequence_twice d.body → resolved_doit one (record { body = body; source = source }) ≡ resolved_doit two (doit_twice d)
      doit-same body source d e =
          doit-resolved one (record { body = body; source = source }) ∙ ap (λ (b : SequenceOf Name). code_in (λ x. means_outside text_words i (doit_class i) false x) [] [] b) e
          ∙ sym (doit-resolved two (doit_twice d))

      doit-both : (d : DoItOf Name) → resolved_doit one (doit_passed text_eq writing s t pass take d) ≡ resolved_doit two (doit_twice d)
      doit-both d =
          by_cases (sent_by s (nodes d.body))
          (λ h. ap (λ b. resolved_doit one (if b then record { body = once; source = writing.doit_text once } else d)) h ∙ doit-same once (writing.doit_text once) d (λ z. record d.body { statements = lines-both d.body.statements 0 z }))
          (λ h. ap (λ b. resolved_doit one (if b then record { body = once; source = writing.doit_text once } else d)) h ∙ doit-same d.body d.source d (sequence-quiet d.body h))
        where
          once : SequenceOf Name
          once = record d.body { statements = rebuilt_statements at_once 0 d.body.statements }

      methods-both : (ms : List (EntryOf Name)) → map (resolved_entry one) (map (method_passed text_eq writing s t pass take) ms) ≡ map (resolved_entry two) (map (SelectorRenamed.method_after text_eq writing first s t) (map (method_after text_eq s pass writing take) ms))
      methods-both [] = refl
      methods-both (m ∷ ms) = λ z. entry-both m z ∷ methods-both ms z

      doits-both : (ds : List (DoItOf Name)) → map (resolved_doit one) (map (doit_passed text_eq writing s t pass take) ds) ≡ map (resolved_doit two) (map (SelectorRenamed.doit_after text_eq writing first s t) (map (doit_after text_eq s pass writing take) ds))
      doits-both [] = refl
      doits-both (d ∷ ds) = λ z. doit-both d z ∷ doits-both ds z

      pub image-both : resolved_image two ≡ resolved_image one
      image-both = sym (λ z. record { classes = (resolved_image i).classes; methods = methods-both i.methods z; doits = doits-both i.doits z })
