-- Patterns, as trees over marks, of which the one is filled to what may stand where the other's does, with what metavariables are bound to in their kinds.
use Rattle.std.proofs.Common.{◌≡◌, ℕ, zero, suc, List, [], ◌∷◌, Option, Some, None, refl, sym, ap, ◌∙◌, subst}
use Rattle.std.specs.Prelude.{Bool, true, false, if◌then◌else◌, nat_lt, ◌-◌, option_map, unwrap_or}
use Rattle.tree_model.specs.Tree.{Notes, TreeOf, var, literal, send, cascade, assign, block, brace, return, TreesOf, no_trees, more_trees, MessagesOf, no_messages, more_messages, StatementsOf, no_statements, more_statements}
use Rattle.tree_model.specs.Bare.{bare, bare_trees, bare_messages, bare_statements, SameBare}
use Rattle.tree_model.specs.Path.{count, child, with_nth, with_argument, with_statement, with_child, replaced}
use Rattle.pattern_model.specs.Patterns.{MetaOf, SelectorLike, this_selector, any_unary, of_keywords, any_message, list_meta}
use Rattle.pattern_model.specs.Bindings.{BoundOf}
use Rattle.pattern_model.specs.Fill.{selector_filled, arguments_filled, trees_filled, messages_filled, arguments_in}
use Rattle.certified_model.specs.Marks.{Text, Mark, spelled_name, selector_marked, pattern_marked, patterns_marked, messages_marked, statements_marked}
use Rattle.std.specs.Prelude.{map}
use Rattle.rule_kept.proofs.Kept.{Kept, kept_itself, kept_then, KeptAll, all_itself, all_more, KeptMessages, messages_itself, messages_more, KeptLines, lines_itself, kept_send, kept_cascade, kept_assign, kept_block, kept_brace, kept_return}
use Rattle.rule_kept.proofs.Bared.{filled_bare, lines_bare, line_bare, line_of, line_kept}

module _ (bound : MetaOf Text → BoundOf Text) (joined : List (List ℕ) → Text) where
  -- what a tree over marks is filled to
  abbrev pub made : TreeOf Mark → TreeOf Text
  made x = filled_bare bound joined (pattern_marked x)

  abbrev pub all_made : TreesOf Mark → TreesOf Text
  all_made ts = bare_trees (trees_filled bound joined (patterns_marked ts))

  abbrev pub messages_made : MessagesOf Mark → MessagesOf Text
  messages_made ms = bare_messages (messages_filled bound joined (messages_marked ms))

  abbrev pub lines_made : StatementsOf Mark → Notes → StatementsOf Text
  lines_made ss e = lines_bare bound joined (statements_marked ss) e

  -- the one may be filled where the other is, and both are one list of statements, or none is
  pub record Steps (x y : TreeOf Mark) : Type 0 where
    pub kept : Kept (made x) (made y)
    pub lists : list_meta (pattern_marked y) ≡ list_meta (pattern_marked x)

  pub steps_itself : (x : TreeOf Mark) → Steps x x
  steps_itself x = record { kept = kept_itself (made x); lists = refl }

  pub steps_then : (x y z : TreeOf Mark) → Steps x y → Steps y z → Steps x z
  steps_then x y z h k = record { kept = kept_then (made x) (made y) (made z) h.kept k.kept; lists = k.lists ∙ h.lists }

  -- arguments of a message
  given : (s : SelectorLike Text) (xs ys : TreesOf Text) → KeptAll (bare_trees xs) (bare_trees ys) → KeptAll (bare_trees (arguments_filled bound joined s xs)) (bare_trees (arguments_filled bound joined s ys))
  given (this_selector n) xs ys h = h
  given (any_unary m) xs ys h = h
  given (of_keywords ks) xs ys h = h
  given (any_message m) xs ys h = all_itself (bare_trees (arguments_in (bound m)))

  -- one of the two where a step leads
  nth_kept : (ts : TreesOf Mark) (k : ℕ) (x y : TreeOf Mark) → Steps x y → KeptAll (all_made (with_nth ts k x)) (all_made (with_nth ts k y))
  nth_kept no_trees k x y h = all_itself no_trees
  nth_kept (more_trees t ts) zero x y h = all_more (made x) (made y) (all_made ts) (all_made ts) h.kept (all_itself (all_made ts))
  nth_kept (more_trees t ts) (suc k) x y h = all_more (made t) (made t) (all_made (with_nth ts k x)) (all_made (with_nth ts k y)) (kept_itself (made t)) (nth_kept ts k x y h)

  abbrev given_made : Mark → TreesOf Mark → TreesOf Text
  given_made s ts = bare_trees (arguments_filled bound joined (selector_marked s) (trees_filled bound joined (patterns_marked ts)))

  argument_kept : (ms : MessagesOf Mark) (k : ℕ) (x y : TreeOf Mark) → Steps x y → KeptMessages (messages_made (with_argument ms k x)) (messages_made (with_argument ms k y))
  argument_kept no_messages k x y h = messages_itself no_messages
  argument_kept (more_messages s ts ms) k x y h = by (nat_lt k (count ts)) (argument_kept ms (k - count ts) x y h)
    where
      by : (b : Bool) → KeptMessages (messages_made (with_argument ms (k - count ts) x)) (messages_made (with_argument ms (k - count ts) y)) →
          KeptMessages (messages_made (if b then more_messages s (with_nth ts k x) ms else more_messages s ts (with_argument ms (k - count ts) x)))
          (messages_made (if b then more_messages s (with_nth ts k y) ms else more_messages s ts (with_argument ms (k - count ts) y)))
      by true rest =
          messages_more (selector_filled bound joined (selector_marked s)) (given_made s (with_nth ts k x)) (given_made s (with_nth ts k y)) (messages_made ms) (messages_made ms)
          (given (selector_marked s) (trees_filled bound joined (patterns_marked (with_nth ts k x))) (trees_filled bound joined (patterns_marked (with_nth ts k y))) (nth_kept ts k x y h)) (messages_itself (messages_made ms))
      by false rest =
          messages_more (selector_filled bound joined (selector_marked s)) (given_made s ts) (given_made s ts) (messages_made (with_argument ms (k - count ts) x)) (messages_made (with_argument ms (k - count ts) y))
          (all_itself (given_made s ts)) rest

  -- a statement before others
  pub line_steps : (c d : Notes) (x y : TreeOf Mark) (ss rs : StatementsOf Mark) (e f : Notes) → Steps x y → KeptLines (lines_made ss e) (lines_made rs f) → KeptLines (lines_made (more_statements c x ss) e) (lines_made (more_statements d y rs) f)
  line_steps c d x y ss rs e f h k =
      subst (λ (xs : StatementsOf Text). KeptLines xs (lines_made (more_statements d y rs) f)) (sym (line_of bound joined c (pattern_marked x) (statements_marked ss) e))
      (subst (λ (ys : StatementsOf Text). KeptLines (line_bare bound (list_meta (pattern_marked x)) (made x) (lines_made ss e)) ys) (sym (line_of bound joined d (pattern_marked y) (statements_marked rs) f))
      (subst (λ (o : Option (MetaOf Text)). KeptLines (line_bare bound (list_meta (pattern_marked x)) (made x) (lines_made ss e)) (line_bare bound o (made y) (lines_made rs f))) (sym h.lists)
      (line_kept bound (list_meta (pattern_marked x)) (made x) (made y) (lines_made ss e) (lines_made rs f) h.kept k)))

  statement_kept : (ss : StatementsOf Mark) (k : ℕ) (x y : TreeOf Mark) (e : Notes) → Steps x y → KeptLines (lines_made (with_statement ss k x) e) (lines_made (with_statement ss k y) e)
  statement_kept no_statements k x y e h = lines_itself no_statements
  statement_kept (more_statements c t ss) zero x y e h = line_steps c c x y ss ss e e h (lines_itself (lines_made ss e))
  statement_kept (more_statements c t ss) (suc k) x y e h = line_steps c c t t (with_statement ss k x) (with_statement ss k y) e e (steps_itself t) (statement_kept ss k x y e h)

  in_node : (x y : TreeOf Mark) → Kept (made x) (made y) → list_meta (pattern_marked y) ≡ list_meta (pattern_marked x) → Steps x y
  in_node x y k l = record { kept = k; lists = l }

  child_steps : (t : TreeOf Mark) (k : ℕ) (x y : TreeOf Mark) → Steps x y → Steps (with_child t k x) (with_child t k y)
  child_steps (var m) k x y h = steps_itself (var m)
  child_steps (literal l) k x y h = steps_itself (literal l)
  child_steps (send r s ts) zero x y h = in_node (send x s ts) (send y s ts) (kept_send (made x) (made y) (selector_filled bound joined (selector_marked s)) (given_made s ts) (given_made s ts) h.kept (all_itself (given_made s ts))) refl
  child_steps (send r s ts) (suc k) x y h =
      in_node (send r s (with_nth ts k x)) (send r s (with_nth ts k y))
      (kept_send (made r) (made r) (selector_filled bound joined (selector_marked s)) (given_made s (with_nth ts k x)) (given_made s (with_nth ts k y)) (kept_itself (made r))
      (given (selector_marked s) (trees_filled bound joined (patterns_marked (with_nth ts k x))) (trees_filled bound joined (patterns_marked (with_nth ts k y))) (nth_kept ts k x y h))) refl
  child_steps (cascade r ms) zero x y h = in_node (cascade x ms) (cascade y ms) (kept_cascade (made x) (made y) (messages_made ms) (messages_made ms) h.kept (messages_itself (messages_made ms))) refl
  child_steps (cascade r ms) (suc k) x y h = in_node (cascade r (with_argument ms k x)) (cascade r (with_argument ms k y)) (kept_cascade (made r) (made r) (messages_made (with_argument ms k x)) (messages_made (with_argument ms k y)) (kept_itself (made r)) (argument_kept ms k x y h)) refl
  child_steps (assign n t) zero x y h = in_node (assign n x) (assign n y) (kept_assign (spelled_name n) (made x) (made y) h.kept) refl
  child_steps (assign n t) (suc k) x y h = steps_itself (assign n t)
  child_steps (block ps ts ss e) k x y h =
      in_node (block ps ts (with_statement ss k x) e) (block ps ts (with_statement ss k y) e)
      (kept_block (map spelled_name ps) (map spelled_name ts) (lines_made (with_statement ss k x) e) (lines_made (with_statement ss k y) e) (statement_kept ss k x y e h)) refl
  child_steps (brace ts) k x y h = in_node (brace (with_nth ts k x)) (brace (with_nth ts k y)) (kept_brace (all_made (with_nth ts k x)) (all_made (with_nth ts k y)) (nth_kept ts k x y h)) refl
  child_steps (return t) zero x y h = in_node (return x) (return y) (kept_return (made x) (made y) h.kept) refl
  child_steps (return t) (suc k) x y h = steps_itself (return t)

  -- one of the two where a path leads
  pub replaced_steps : (path : List ℕ) (t x y : TreeOf Mark) → Steps x y → Steps (replaced t path x) (replaced t path y)
  replaced_steps [] t x y h = h
  replaced_steps (k ∷ ks) t x y h = by (child t k) (λ c. replaced_steps ks c x y h)
    where
      by : (o : Option (TreeOf Mark)) → ((c : TreeOf Mark) → Steps (replaced c ks x) (replaced c ks y)) →
          Steps (unwrap_or (option_map (λ c. with_child t k (replaced c ks x)) o) t) (unwrap_or (option_map (λ c. with_child t k (replaced c ks y)) o) t)
      by (Some c) on = child_steps t k (replaced c ks x) (replaced c ks y) (on c)
      by None on = steps_itself t

  -- comments do not matter
  given_bare : (s : SelectorLike Text) (ts : TreesOf Mark) → all_made (bare_trees ts) ≡ all_made ts → bare_trees (arguments_filled bound joined s (trees_filled bound joined (patterns_marked (bare_trees ts)))) ≡ bare_trees (arguments_filled bound joined s (trees_filled bound joined (patterns_marked ts)))
  given_bare (this_selector n) ts e = e
  given_bare (any_unary m) ts e = e
  given_bare (of_keywords ks) ts e = e
  given_bare (any_message m) ts e = refl

  list_bare : (t : TreeOf Mark) → list_meta (pattern_marked (bare t)) ≡ list_meta (pattern_marked t)
  list_bare (var m) = refl
  list_bare (literal l) = refl
  list_bare (send r s ts) = refl
  list_bare (cascade r ms) = refl
  list_bare (assign n t) = refl
  list_bare (block ps ts ss e) = refl
  list_bare (brace ts) = refl
  list_bare (return t) = refl

  mutual
    made_bare : (t : TreeOf Mark) → made (bare t) ≡ made t
    made_bare (var m) = refl
    made_bare (literal l) = refl
    made_bare (send r s ts) = λ i. send (made_bare r i) (selector_filled bound joined (selector_marked s)) (given_bare (selector_marked s) ts (all_bare ts) i)
    made_bare (cascade r ms) = λ i. cascade (made_bare r i) (messages_bare ms i)
    made_bare (assign n t) = ap (assign (spelled_name n)) (made_bare t)
    made_bare (block ps ts ss e) = ap (λ (xs : StatementsOf Text). block (map spelled_name ps) (map spelled_name ts) xs []) (statements_bare ss [] e)
    made_bare (brace ts) = ap brace (all_bare ts)
    made_bare (return t) = ap return (made_bare t)

    all_bare : (ts : TreesOf Mark) → all_made (bare_trees ts) ≡ all_made ts
    all_bare no_trees = refl
    all_bare (more_trees t ts) = λ i. more_trees (made_bare t i) (all_bare ts i)

    messages_bare : (ms : MessagesOf Mark) → messages_made (bare_messages ms) ≡ messages_made ms
    messages_bare no_messages = refl
    messages_bare (more_messages s ts ms) = λ i. more_messages (selector_filled bound joined (selector_marked s)) (given_bare (selector_marked s) ts (all_bare ts) i) (messages_bare ms i)

    statements_bare : (ss : StatementsOf Mark) (e f : Notes) → lines_made (bare_statements ss) e ≡ lines_made ss f
    statements_bare no_statements e f = refl
    statements_bare (more_statements c t ss) e f =
        line_of bound joined [] (pattern_marked (bare t)) (statements_marked (bare_statements ss)) e
        ∙ (λ i. line_bare bound (list_bare t i) (made_bare t i) (statements_bare ss e f i))
        ∙ sym (line_of bound joined c (pattern_marked t) (statements_marked ss) f)

  pub same_steps : (x y : TreeOf Mark) → SameBare x y → Steps x y
  same_steps x y e =
      let same : made x ≡ made y = sym (made_bare x) ∙ ap made e ∙ made_bare y in
      record {
        kept = subst (Kept (made x)) same (kept_itself (made x));
        lists = sym (list_bare y) ∙ ap (λ (z : TreeOf Mark). list_meta (pattern_marked z)) (sym e) ∙ list_bare x;
      }
