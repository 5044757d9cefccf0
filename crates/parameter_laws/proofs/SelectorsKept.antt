-- A selector that is fresh stays so where messages of another pass other arguments.
use Rattle.std.proofs.Common.{◌≡◌, ℕ, zero, suc, ◌+◌, List, [], ◌∷◌, ◌++◌, refl, sym, ap, ◌∙◌}
use Rattle.std.specs.Prelude.{Bool, true, false, not, ◌||◌, if◌then◌else◌, map}
use Rattle.std.specs.List.{list_any}
use Rattle.std.proofs.lemmas.List.Folds.{list_any-append}
use Rattle.std.proofs.lemmas.Bool.{not-true, or_from, false≢true}
use Rattle.rb_base.specs.Names.{text_eq}
use Rattle.tree_model.specs.Tree.{TreeOf, var, literal, send, cascade, assign, block, brace, return, TreesOf, no_trees, more_trees, MessagesOf, no_messages, more_messages, StatementsOf, no_statements, more_statements}
use Rattle.tree_model.specs.Path.{count, append}
use Rattle.tree_model.specs.Nodes.{Placed, below_step, tree_nodes, trees_nodes, messages_nodes, statements_nodes, nodes}
use Rattle.image_model.specs.Image.{EntryOf, DoItOf, ImageOf}
use Rattle.image_model.specs.Uses.{has_message, is_sender}
use Rattle.run_model.specs.Values.{Name}
use Rattle.rename_model.specs.ClassRenamed.{WritingOf}
use Rattle.rename_model.specs.Conditions.{speaks_of, is_selector_fresh}
use Rattle.rename_laws.proofs.Unnamed.{neither_left, neither_right}
use Rattle.parameter_laws.proofs.AtomTrees.{is_atom_tree}
use Rattle.parameter_laws.specs.ArgumentsChanged.{arguments_passed, passes, trees_passing, messages_passing, statements_passing, method_after, doit_after, arguments_changed}
use Rattle.command_model.specs.Parameters.{without_nth}

module _ (t : Name) where
  -- whether one of some nodes sends it
  abbrev pub sent_by : List (Placed Name) → Bool
  sent_by es = list_any (λ e. is_sender text_eq t e.1) es

  -- the same nodes, one step deeper
  pub deeper : (k : ℕ) (es : List (Placed Name)) → sent_by (below_step k es) ≡ sent_by es
  deeper k [] = refl
  deeper k (e ∷ es) = ap (λ b. is_sender text_eq t e.1 || b) (deeper k es)

  -- nodes of two lists
  pub first-none : (k : ℕ) (xs ys : List (Placed Name)) → sent_by (below_step k xs ++ ys) ≡ false → sent_by xs ≡ false
  first-none k xs ys h = sym (deeper k xs) ∙ neither_left (sent_by (below_step k xs)) (sent_by ys) (sym (list_any-append (λ (e : Placed Name). is_sender text_eq t e.1) (below_step k xs) ys) ∙ h)

  pub others-none : (k : ℕ) (xs ys : List (Placed Name)) → sent_by (below_step k xs ++ ys) ≡ false → sent_by ys ≡ false
  others-none k xs ys h = neither_right (sent_by (below_step k xs)) (sent_by ys) (sym (list_any-append (λ (e : Placed Name). is_sender text_eq t e.1) (below_step k xs) ys) ∙ h)

  pub both-none : (k : ℕ) (xs ys : List (Placed Name)) → sent_by xs ≡ false → sent_by ys ≡ false → sent_by (below_step k xs ++ ys) ≡ false
  both-none k xs ys h f = list_any-append (λ (e : Placed Name). is_sender text_eq t e.1) (below_step k xs) ys ∙ or_from (sent_by (below_step k xs)) (sent_by ys) (deeper k xs ∙ h) f

  -- nodes of two lists at one depth
  pub left-none : (xs ys : List (Placed Name)) → sent_by (xs ++ ys) ≡ false → sent_by xs ≡ false
  left-none xs ys h = neither_left (sent_by xs) (sent_by ys) (sym (list_any-append (λ (e : Placed Name). is_sender text_eq t e.1) xs ys) ∙ h)

  pub right-none : (xs ys : List (Placed Name)) → sent_by (xs ++ ys) ≡ false → sent_by ys ≡ false
  right-none xs ys h = neither_right (sent_by xs) (sent_by ys) (sym (list_any-append (λ (e : Placed Name). is_sender text_eq t e.1) xs ys) ∙ h)

  pub two-none : (xs ys : List (Placed Name)) → sent_by xs ≡ false → sent_by ys ≡ false → sent_by (xs ++ ys) ≡ false
  two-none xs ys h f = list_any-append (λ (e : Placed Name). is_sender text_eq t e.1) xs ys ∙ or_from (sent_by xs) (sent_by ys) h f

  -- trees that send it nowhere, whatever the first step to them is
  abbrev pub NoneOf : TreesOf Name → Type 0
  NoneOf ts = (k : ℕ) → sent_by (trees_nodes k ts) ≡ false

  -- from one first step to any
  any-step : (ts : TreesOf Name) (k : ℕ) → sent_by (trees_nodes k ts) ≡ false → NoneOf ts
  any-step no_trees k h l = refl
  any-step (more_trees u ts) k h l = both-none l (tree_nodes u) (trees_nodes (l + 1) ts) (first-none k (tree_nodes u) (trees_nodes (k + 1) ts) h) (any-step ts (k + 1) (others-none k (tree_nodes u) (trees_nodes (k + 1) ts) h) (l + 1))

  -- one tree fewer
  pub nth-none : (n : ℕ) (ts : TreesOf Name) → NoneOf ts → NoneOf (without_nth n ts)
  nth-none n no_trees h = h
  nth-none zero (more_trees u ts) h = any-step ts 1 (others-none 0 (tree_nodes u) (trees_nodes 1 ts) (h 0))
  nth-none (suc n) (more_trees u ts) h = λ k. both-none k (tree_nodes u) (trees_nodes (k + 1) (without_nth n ts)) (first-none 0 (tree_nodes u) (trees_nodes 1 ts) (h 0)) (nth-none n ts (any-step ts 1 (others-none 0 (tree_nodes u) (trees_nodes 1 ts) (h 0))) (k + 1))

  -- one tree more
  pub last-none : (a : TreeOf Name) → sent_by (tree_nodes a) ≡ false → (ts : TreesOf Name) → NoneOf ts → NoneOf (append ts (more_trees a no_trees))
  last-none a e no_trees h = λ k. both-none k (tree_nodes a) [] e refl
  last-none a e (more_trees u ts) h = λ k. both-none k (tree_nodes u) (trees_nodes (k + 1) (append ts (more_trees a no_trees))) (first-none 0 (tree_nodes u) (trees_nodes 1 ts) (h 0)) (last-none a e ts (any-step ts 1 (others-none 0 (tree_nodes u) (trees_nodes 1 ts) (h 0))) (k + 1))

  -- an atom literal sends nothing
  pub atom-none : (a : TreeOf Name) → is_atom_tree a ≡ true → sent_by (tree_nodes a) ≡ false
  atom-none (var n) e = refl
  atom-none (literal l) e = refl
  atom-none (send r u args) e = absurd (false≢true e)
  atom-none (cascade r ms) e = absurd (false≢true e)
  atom-none (assign n t) e = absurd (false≢true e)
  atom-none (block ps ts ss n) e = absurd (false≢true e)
  atom-none (brace ts) e = absurd (false≢true e)
  atom-none (return t) e = absurd (false≢true e)

  module _ (s : Name) (pass : TreesOf Name → TreesOf Name) (kept : (ts : TreesOf Name) → NoneOf ts → NoneOf (pass ts)) where
    -- messages have the selectors that they had
    messages-kept : (ms : MessagesOf Name) → has_message text_eq t (messages_passing text_eq s pass ms) ≡ has_message text_eq t ms
    messages-kept no_messages = refl
    messages-kept (more_messages u args ms) = ap (λ b. text_eq t u || b) (messages-kept ms)

    -- what is passed, by whether the message is one of the selector
    passed-none : (b : Bool) (ts : TreesOf Name) → NoneOf ts → NoneOf (if b then pass ts else ts)
    passed-none true ts h = kept ts h
    passed-none false ts h = h

    mutual
      tree-none : (u : TreeOf Name) → sent_by (tree_nodes u) ≡ false → sent_by (tree_nodes (passes text_eq s pass u)) ≡ false
      tree-none (var n) h = h
      tree-none (literal l) h = h
      tree-none (send r v args) h =
          let rest = neither_right (text_eq t v) (sent_by (below_step 0 (tree_nodes r) ++ trees_nodes 1 args)) h in
          or_from (text_eq t v) (sent_by (below_step 0 (tree_nodes (passes text_eq s pass r)) ++ trees_nodes 1 (arguments_passed text_eq s pass v (trees_passing text_eq s pass args)))) (neither_left (text_eq t v) (sent_by (below_step 0 (tree_nodes r) ++ trees_nodes 1 args)) h)
          (both-none 0 (tree_nodes (passes text_eq s pass r)) (trees_nodes 1 (arguments_passed text_eq s pass v (trees_passing text_eq s pass args))) (tree-none r (first-none 0 (tree_nodes r) (trees_nodes 1 args) rest))
          (passed-none (text_eq s v) (trees_passing text_eq s pass args) (trees-none args 1 (others-none 0 (tree_nodes r) (trees_nodes 1 args) rest)) 1))
      tree-none (cascade r ms) h =
          let rest = neither_right (has_message text_eq t ms) (sent_by (below_step 0 (tree_nodes r) ++ messages_nodes 1 ms)) h in
          or_from (has_message text_eq t (messages_passing text_eq s pass ms)) (sent_by (below_step 0 (tree_nodes (passes text_eq s pass r)) ++ messages_nodes 1 (messages_passing text_eq s pass ms)))
          (messages-kept ms ∙ neither_left (has_message text_eq t ms) (sent_by (below_step 0 (tree_nodes r) ++ messages_nodes 1 ms)) h)
          (both-none 0 (tree_nodes (passes text_eq s pass r)) (messages_nodes 1 (messages_passing text_eq s pass ms)) (tree-none r (first-none 0 (tree_nodes r) (messages_nodes 1 ms) rest)) (messages-none ms 1 1 (others-none 0 (tree_nodes r) (messages_nodes 1 ms) rest)))
      tree-none (assign n u) h = deeper 0 (tree_nodes (passes text_eq s pass u)) ∙ tree-none u (sym (deeper 0 (tree_nodes u)) ∙ h)
      tree-none (block ps ts ss e) h = lines-none ss 0 h
      tree-none (brace ts) h = trees-none ts 0 h 0
      tree-none (return u) h = deeper 0 (tree_nodes (passes text_eq s pass u)) ∙ tree-none u (sym (deeper 0 (tree_nodes u)) ∙ h)

      trees-none : (ts : TreesOf Name) (k : ℕ) → sent_by (trees_nodes k ts) ≡ false → NoneOf (trees_passing text_eq s pass ts)
      trees-none no_trees k h l = refl
      trees-none (more_trees u ts) k h l =
          both-none l (tree_nodes (passes text_eq s pass u)) (trees_nodes (l + 1) (trees_passing text_eq s pass ts)) (tree-none u (first-none k (tree_nodes u) (trees_nodes (k + 1) ts) h)) (trees-none ts (k + 1) (others-none k (tree_nodes u) (trees_nodes (k + 1) ts) h) (l + 1))

      messages-none : (ms : MessagesOf Name) (k l : ℕ) → sent_by (messages_nodes k ms) ≡ false → sent_by (messages_nodes l (messages_passing text_eq s pass ms)) ≡ false
      messages-none no_messages k l h = refl
      messages-none (more_messages u args ms) k l h =
          let now = arguments_passed text_eq s pass u (trees_passing text_eq s pass args) in
          two-none (trees_nodes l now) (messages_nodes (l + count now) (messages_passing text_eq s pass ms))
          (passed-none (text_eq s u) (trees_passing text_eq s pass args) (trees-none args k (left-none (trees_nodes k args) (messages_nodes (k + count args) ms) h)) l)
          (messages-none ms (k + count args) (l + count now) (right-none (trees_nodes k args) (messages_nodes (k + count args) ms) h))

      pub lines-none : (ss : StatementsOf Name) (k : ℕ) → sent_by (statements_nodes k ss) ≡ false → sent_by (statements_nodes k (statements_passing text_eq s pass ss)) ≡ false
      lines-none no_statements k h = refl
      lines-none (more_statements c u ss) k h =
          both-none k (tree_nodes (passes text_eq s pass u)) (statements_nodes (k + 1) (statements_passing text_eq s pass ss)) (tree-none u (first-none k (tree_nodes u) (statements_nodes (k + 1) ss) h)) (lines-none ss (k + 1) (others-none k (tree_nodes u) (statements_nodes (k + 1) ss) h))

    module _ (writing : WritingOf Name) (take : List Name → List Name) where
      -- methods
      methods-fresh : (ms : List (EntryOf Name)) → list_any (speaks_of text_eq t) ms ≡ false → list_any (speaks_of text_eq t) (map (method_after text_eq s pass writing take) ms) ≡ false
      methods-fresh [] h = refl
      methods-fresh (m ∷ ms) h =
          let own = neither_left (speaks_of text_eq t m) (list_any (speaks_of text_eq t) ms) h in
          or_from (speaks_of text_eq t (method_after text_eq s pass writing take m)) (list_any (speaks_of text_eq t) (map (method_after text_eq s pass writing take) ms))
          (or_from (text_eq t m.tree.selector) (sent_by (nodes (method_after text_eq s pass writing take m).tree.body)) (neither_left (text_eq t m.tree.selector) (sent_by (nodes m.tree.body)) own)
          (lines-none m.tree.body.statements 0 (neither_right (text_eq t m.tree.selector) (sent_by (nodes m.tree.body)) own)))
          (methods-fresh ms (neither_right (speaks_of text_eq t m) (list_any (speaks_of text_eq t) ms) h))

      -- do-its
      doits-fresh : (ds : List (DoItOf Name)) → list_any (λ (d : DoItOf Name). sent_by (nodes d.body)) ds ≡ false → list_any (λ (d : DoItOf Name). sent_by (nodes d.body)) (map (doit_after text_eq s pass writing take) ds) ≡ false
      doits-fresh [] h = refl
      doits-fresh (d ∷ ds) h =
          or_from (sent_by (nodes (doit_after text_eq s pass writing take d).body)) (list_any (λ (x : DoItOf Name). sent_by (nodes x.body)) (map (doit_after text_eq s pass writing take) ds))
          (lines-none d.body.statements 0 (neither_left (sent_by (nodes d.body)) (list_any (λ (x : DoItOf Name). sent_by (nodes x.body)) ds) h))
          (doits-fresh ds (neither_right (sent_by (nodes d.body)) (list_any (λ (x : DoItOf Name). sent_by (nodes x.body)) ds) h))

      -- the image
      pub fresh-kept : (i : ImageOf Name) → is_selector_fresh text_eq i t ≡ true → is_selector_fresh text_eq (arguments_changed text_eq s pass writing take i) t ≡ true
      fresh-kept i h =
          let none = not-true (list_any (speaks_of text_eq t) i.methods || list_any (λ (d : DoItOf Name). sent_by (nodes d.body)) i.doits) h in
          ap not (or_from (list_any (speaks_of text_eq t) (map (method_after text_eq s pass writing take) i.methods)) (list_any (λ (d : DoItOf Name). sent_by (nodes d.body)) (map (doit_after text_eq s pass writing take) i.doits))
          (methods-fresh i.methods (neither_left (list_any (speaks_of text_eq t) i.methods) (list_any (λ (d : DoItOf Name). sent_by (nodes d.body)) i.doits) none))
          (doits-fresh i.doits (neither_right (list_any (speaks_of text_eq t) i.methods) (list_any (λ (d : DoItOf Name). sent_by (nodes d.body)) i.doits) none)))
