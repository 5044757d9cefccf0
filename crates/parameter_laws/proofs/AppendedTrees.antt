-- Trees whose messages pass one more argument, an atom literal: without it they are the trees before.
use Rattle.std.proofs.Common.{◌≡◌, ℕ, zero, suc, ◌+◌, List, length, Option, Some, refl, sym, ap, ◌∙◌, subst, arith}
use Rattle.std.specs.Prelude.{Bool, true, false, not, ◌||◌, nat_eq, if◌then◌else◌, codes}
use Rattle.std.proofs.lemmas.Bool.{eqb-true, false≢true}
use Rattle.rb_base.specs.Names.{text_eq}
use Rattle.tree_model.specs.Tree.{TreeOf, var, literal, send, cascade, assign, block, brace, return, TreesOf, no_trees, more_trees, MessagesOf, no_messages, more_messages, StatementsOf, no_statements, more_statements}
use Rattle.tree_model.specs.Path.{count, append}
use Rattle.image_model.specs.Means.{MeaningOf}
use Rattle.image_model.specs.Uses.{name_used}
use Rattle.run_model.specs.Values.{Name}
use Rattle.run_model.proofs.Finite.{by_cases, and-true_left, and-true_right}
use Rattle.run_model.proofs.RenamingLemmas.{text-same}
use Rattle.scope_model.specs.SpecialNames.{is_pseudo_variable}
use Rattle.resolved_model.specs.ResolvedTrees.{of_word, reading, sending, cascading, assigning, block_of, brace_of, returning, more_nodes, more_sends, more_lines}
use Rattle.argument_laws.specs.ArgumentGone.{inwards, nodes_without, tree_without, trees_without, messages_without, statements_without}
use Rattle.argument_laws.specs.PlainArguments.{gives_value, is_plain, has_plain, LeavesReference, MayLose, MayLoseEach, MessagesMayLose, LinesMayLose}
use Rattle.resolved_model.specs.Environments.{Declared, opened, kind_in, place_in, reference_by, reference_in, tree_in, trees_in, messages_in, statements_in}
use Rattle.parameter_laws.specs.ArgumentsChanged.{passes, trees_passing, messages_passing, statements_passing}
use Rattle.command_model.specs.Asked.{is_constant_text}
use Rattle.parameter_laws.specs.Arities.{passes_as_many, messages_pass, node_passes}
use Rattle.parameter_laws.proofs.GapsInNames.{Closes, closes-inside, read-closed, assigned-apart, Hidden, hidden-inside, read-leaves, assigned-leaves}
use Rattle.parameter_laws.proofs.AtomTrees.{is_atom_tree}
use Rattle.parameter_laws.proofs.EachNode.{EachTree, EachTrees, EachMessages, EachLines}

-- a name that is a word
known-by : (n w : Name) → text_eq w n ≡ true → is_pseudo_variable w ≡ true → not (text_eq w (codes "thisContext")) ≡ true → (is_pseudo_variable n ≡ true) × (not (text_eq n (codes "thisContext")) ≡ true)
known-by n w t p q = (ap is_pseudo_variable (sym (text-same w n t)) ∙ p, ap (λ x. not (text_eq x (codes "thisContext"))) (sym (text-same w n t)) ∙ q)

-- a constant is a pseudo-variable and not `thisContext`
word-known : (n : Name) → is_constant_text n ≡ true → (is_pseudo_variable n ≡ true) × (not (text_eq n (codes "thisContext")) ≡ true)
unfolding is_pseudo_variable
word-known n e =
    by_cases (text_eq (codes "nil") n)
    (λ t. known-by n (codes "nil") t refl refl)
    (λ f. by_cases (text_eq (codes "true") n)
    (λ t. known-by n (codes "true") t refl refl)
    (λ h. known-by n (codes "false") (sym (λ i. f i || (h i || text_eq (codes "false") n)) ∙ e) refl refl))

module _ (g : Name → MeaningOf Name) where
  -- such a word is read by its name, wherever it stands
  word-read : (env : List Declared) (n : Name) → is_pseudo_variable n ≡ true → reference_in env (g n) n ≡ of_word n
  word-read env n e = ap (λ b. if b then of_word n else reference_by (kind_in env n) (place_in env n) (g n) n) e

  -- an atom literal is plain
  atom-plain : (env : List Declared) (a : TreeOf Name) → is_atom_tree a ≡ true → is_plain (tree_in g env a) ≡ true
  atom-plain env (var n) e = ap gives_value (word-read env n (word-known n e).0) ∙ (word-known n e).1
  atom-plain env (literal l) e = e
  atom-plain env (send r u args) e = absurd (false≢true e)
  atom-plain env (cascade r ms) e = absurd (false≢true e)
  atom-plain env (assign n t) e = absurd (false≢true e)
  atom-plain env (block ps ts ss n) e = absurd (false≢true e)
  atom-plain env (brace ts) e = absurd (false≢true e)
  atom-plain env (return t) e = absurd (false≢true e)

  -- and reads nothing in a gap
  atom-may : (s : Name) (k : ℕ) (gap : Option ℕ) (env : List Declared) (a : TreeOf Name) → is_atom_tree a ≡ true → MayLose s k gap (tree_in g env a)
  atom-may s k gap env (var n) e = subst (LeavesReference gap) (sym (word-read env n (word-known n e).0)) tt
  atom-may s k gap env (literal l) e = tt
  atom-may s k gap env (send r u args) e = absurd (false≢true e)
  atom-may s k gap env (cascade r ms) e = absurd (false≢true e)
  atom-may s k gap env (assign n t) e = absurd (false≢true e)
  atom-may s k gap env (block ps ts ss n) e = absurd (false≢true e)
  atom-may s k gap env (brace ts) e = absurd (false≢true e)
  atom-may s k gap env (return t) e = absurd (false≢true e)

module _ (g : Name → MeaningOf Name) (s : Name) (k : ℕ) (a : TreeOf Name) (atom : is_atom_tree a ≡ true) (May : Name → Type 0) where
  -- what messages pass
  abbrev pub more : TreesOf Name → TreesOf Name
  more args = append args (more_trees a no_trees)

  -- a node whose messages pass so many arguments, and whose name may be used
  pub record NodeFits (u : TreeOf Name) : Type 0 where
    pub passed : node_passes text_eq s k u ≡ true
    pub may : (n : Name) → name_used u ≡ Some n → May n

  -- the node after
  abbrev after : TreeOf Name → TreeOf Name
  after t = passes text_eq s more t

  abbrev after_each : TreesOf Name → TreesOf Name
  after_each ts = trees_passing text_eq s more ts

  -- as many arguments
  count-kept : (ts : TreesOf Name) → count (after_each ts) ≡ count ts
  count-kept no_trees = refl
  count-kept (more_trees t ts) = ap (λ n. n + 1) (count-kept ts)

  -- the last of so many and one
  last-plain : (env : List Declared) (ts : TreesOf Name) (n : ℕ) → count ts ≡ n → has_plain n (trees_in g env (more ts)) ≡ true
  last-plain env no_trees zero e = atom-plain g env a atom
  last-plain env no_trees (suc n) e = absurd (omega (arith, e))
  last-plain env (more_trees t ts) zero e = absurd (omega (arith, e))
  last-plain env (more_trees t ts) (suc n) e = last-plain env ts n (omega (arith, e))

  last-gone : (gap : Option ℕ) (env : List Declared) (ts : TreesOf Name) (n : ℕ) → count ts ≡ n → nodes_without n (trees_without s k gap (trees_in g env (more ts))) ≡ trees_without s k gap (trees_in g env ts)
  last-gone gap env no_trees zero e = refl
  last-gone gap env no_trees (suc n) e = absurd (omega (arith, e))
  last-gone gap env (more_trees t ts) zero e = absurd (omega (arith, e))
  last-gone gap env (more_trees t ts) (suc n) e = ap (more_nodes (tree_without s k gap (tree_in g env t))) (last-gone gap env ts n (omega (arith, e)))

  -- one more
  more-may : (gap : Option ℕ) (env : List Declared) (ts : TreesOf Name) → MayLoseEach s k gap (trees_in g env ts) → MayLoseEach s k gap (trees_in g env (more ts))
  more-may gap env no_trees h = (atom-may g s k gap env a atom, tt)
  more-may gap env (more_trees t ts) h = (h.0, more-may gap env ts h.1)

  -- what a message passes, by whether it is one of the selector: it may go, it is plain, and without it the arguments are those before
  arguments-by : (gap : Option ℕ) (env : List Declared) (ts : TreesOf Name) (b : Bool) → (if b then nat_eq (count ts) k else true) ≡ true → MayLoseEach s k gap (trees_in g env (after_each ts)) →
      let now = trees_in g env (if b then more (after_each ts) else after_each ts) in
      MayLoseEach s k gap now × (b ≡ true → has_plain k now ≡ true) × (trees_without s k gap (trees_in g env (after_each ts)) ≡ (if b then nodes_without k (trees_without s k gap now) else trees_without s k gap now))
  arguments-by gap env ts true e h =
      let many : count (after_each ts) ≡ k = count-kept ts ∙ eqb-true (count ts) k e in
      (more-may gap env (after_each ts) h, λ q. last-plain env (after_each ts) k many, sym (last-gone gap env (after_each ts) k many))
  arguments-by gap env ts false e h = (h, λ q. absurd (unlike q), refl)
    where
      unlike : false ≡ true → ⊥
      unlike q = cc

  mutual
    tree-more : (t : TreeOf Name) (gap : Option ℕ) (env env' : List Declared) → Closes gap env' env → Hidden May gap env' → EachTree NodeFits t →
        MayLose s k gap (tree_in g env' (after t)) × (tree_in g env t ≡ tree_without s k gap (tree_in g env' (after t)))
    tree-more (var n) gap env env' c h f =
        let leaves = read-leaves May gap env' h (g n) n (f.may n refl) in
        (leaves, ap reading (read-closed gap env' env c (g n) n leaves))
    tree-more (literal m) gap env env' c h f = (tt, refl)
    tree-more (send r u args) gap env env' c h f =
        let first = tree-more r gap env env' c h f.1 in
        let each = trees-more args gap env env' c h f.2 in
        let now = arguments-by gap env' args (text_eq s u) f.0.passed each.0 in
        ((first.0, now.0, now.1), λ i. sending (first.1 i) u ((each.1 ∙ now.2) i))
    tree-more (cascade r ms) gap env env' c h f =
        let first = tree-more r gap env env' c h f.1 in
        let rest = messages-more ms gap env env' c h f.2 f.0.passed in
        ((first.0, rest.0), λ i. cascading (first.1 i) (rest.1 i))
    tree-more (assign n t) gap env env' c h f =
        let value = tree-more t gap env env' c h f.1 in
        let may = f.0.may n refl in
        ((assigned-leaves May gap env' h (g n) n may, value.0), λ i. assigning (assigned-apart gap env' env c (g n) n (λ e. h n may) i) (value.1 i))
    tree-more (block ps ts ss e) gap env env' c h f =
        let inside = lines-more ss (inwards (length ps + length ts) gap) (opened ps ts env) (opened ps ts env') (closes-inside ps ts gap env' env c) (hidden-inside May ps ts gap env' h) f.1 in
        (inside.0, ap (block_of (length ps) (length ts)) inside.1)
    tree-more (brace ts) gap env env' c h f =
        let each = trees-more ts gap env env' c h f.1 in
        (each.0, ap brace_of each.1)
    tree-more (return t) gap env env' c h f =
        let value = tree-more t gap env env' c h f.1 in
        (value.0, ap returning value.1)

    trees-more : (ts : TreesOf Name) (gap : Option ℕ) (env env' : List Declared) → Closes gap env' env → Hidden May gap env' → EachTrees NodeFits ts →
        MayLoseEach s k gap (trees_in g env' (after_each ts)) × (trees_in g env ts ≡ trees_without s k gap (trees_in g env' (after_each ts)))
    trees-more no_trees gap env env' c h f = (tt, refl)
    trees-more (more_trees t ts) gap env env' c h f =
        let first = tree-more t gap env env' c h f.0 in
        let rest = trees-more ts gap env env' c h f.1 in
        ((first.0, rest.0), λ i. more_nodes (first.1 i) (rest.1 i))

    messages-more : (ms : MessagesOf Name) (gap : Option ℕ) (env env' : List Declared) → Closes gap env' env → Hidden May gap env' → EachMessages NodeFits ms → messages_pass text_eq s k ms ≡ true →
        MessagesMayLose s k gap (messages_in g env' (messages_passing text_eq s more ms)) × (messages_in g env ms ≡ messages_without s k gap (messages_in g env' (messages_passing text_eq s more ms)))
    messages-more no_messages gap env env' c h f e = (tt, refl)
    messages-more (more_messages u args ms) gap env env' c h f e =
        let each = trees-more args gap env env' c h f.0 in
        let now = arguments-by gap env' args (text_eq s u) (and-true_left (passes_as_many text_eq s k u args) (messages_pass text_eq s k ms) e) each.0 in
        let rest = messages-more ms gap env env' c h f.1 (and-true_right (passes_as_many text_eq s k u args) (messages_pass text_eq s k ms) e) in
        ((now.0, now.1, rest.0), λ i. more_sends u ((each.1 ∙ now.2) i) (rest.1 i))

    pub lines-more : (ss : StatementsOf Name) (gap : Option ℕ) (env env' : List Declared) → Closes gap env' env → Hidden May gap env' → EachLines NodeFits ss →
        LinesMayLose s k gap (statements_in g env' (statements_passing text_eq s more ss)) × (statements_in g env ss ≡ statements_without s k gap (statements_in g env' (statements_passing text_eq s more ss)))
    lines-more no_statements gap env env' c h f = (tt, refl)
    lines-more (more_statements n t ss) gap env env' c h f =
        let first = tree-more t gap env env' c h f.0 in
        let rest = lines-more ss gap env env' c h f.1 in
        ((first.0, rest.0), λ i. more_lines (first.1 i) (rest.1 i))
