-- A pattern that is filled with nodes that may stand where others stand.
use Rattle.std.proofs.Common.{◌≡◌, ℕ, List, [], ◌∷◌, Option, Some, None, refl, sym, ap, subst}
use Rattle.std.specs.Prelude.{map}
use Rattle.tree_model.specs.Tree.{Notes, TreeOf, var, literal, send, TreesOf, no_trees, no_messages, more_messages, StatementsOf, no_statements, more_statements}
use Rattle.tree_model.specs.Bare.{bare, bare_trees, bare_messages, bare_statements}
use Rattle.pattern_model.specs.Patterns.{MetaOf, KeywordLike, this_keyword, any_keyword, SelectorLike, this_selector, any_unary, of_keywords, any_message, PatternOf, meta, var_like, literal_like, send_like, cascade_like, assign_like, block_like, brace_like, return_like, PatternsOf, no_patterns, more_patterns, MessagesLike, no_messages_like, more_messages_like, StatementsLike, no_statements_like, more_statements_like, list_meta}
use Rattle.pattern_model.specs.Bindings.{BoundOf, a_part, a_run, a_selector, a_keyword, a_message}
use Rattle.pattern_model.specs.Fill.{part_in, run_in, selector_in, keyword_in, arguments_in, append_statements, keyword_filled, selector_filled, arguments_filled, trees_filled, messages_filled}
use Rattle.file_model.specs.Filing.{Text}
use Rattle.rule_kept.proofs.Kept.{Kept, kept_itself, KeptAll, all_itself, all_more, KeptMessages, messages_itself, messages_more, KeptLines, lines_itself, lines_more, kept_send, kept_cascade, kept_assign, kept_block, kept_brace, kept_return}
use Rattle.rule_kept.proofs.Bared.{filled_bare, lines_bare, line_bare, line_of}

-- statements one by one
pub data EachKept : StatementsOf Text → StatementsOf Text → Type 0 where
  none_kept : EachKept no_statements no_statements
  then_kept : {t u : TreeOf Text} {ss rs : StatementsOf Text} → Kept t u → EachKept ss rs → EachKept (more_statements [] t ss) (more_statements [] u rs)

before_both : {ss rs : StatementsOf Text} (xs ys : StatementsOf Text) → EachKept ss rs → KeptLines xs ys → KeptLines (append_statements ss xs) (append_statements rs ys)
before_both xs ys none_kept k = k
before_both xs ys (then_kept {t} {u} {ss} {rs} h hs) k = lines_more t u (append_statements ss xs) (append_statements rs ys) h (before_both xs ys hs k)

-- what is bound, without comments
pub data BoundKept : BoundOf Text → BoundOf Text → Type 0 where
  part_kept : {t u : TreeOf Text} → Kept (bare t) (bare u) → BoundKept (a_part t) (a_part u)
  run_kept : {ss rs : StatementsOf Text} → EachKept (bare_statements ss) (bare_statements rs) → BoundKept (a_run ss) (a_run rs)
  selector_kept : (s : Text) → BoundKept (a_selector s) (a_selector s)
  keyword_kept : (k : List ℕ) → BoundKept (a_keyword k) (a_keyword k)
  message_kept : {ts us : TreesOf Text} → (s : Text) → KeptAll (bare_trees ts) (bare_trees us) → BoundKept (a_message s ts) (a_message s us)

pub part_of : (n : Text) {b d : BoundOf Text} → BoundKept b d → Kept (bare (part_in n b)) (bare (part_in n d))
part_of n (part_kept h) = h
part_of n (run_kept h) = kept_itself (var n)
part_of n (selector_kept s) = kept_itself (var n)
part_of n (keyword_kept k) = kept_itself (var n)
part_of n (message_kept s h) = kept_itself (var n)

run_of : {b d : BoundOf Text} → BoundKept b d → EachKept (bare_statements (run_in b)) (bare_statements (run_in d))
run_of (part_kept h) = none_kept
run_of (run_kept h) = h
run_of (selector_kept s) = none_kept
run_of (keyword_kept k) = none_kept
run_of (message_kept s h) = none_kept

arguments_of : {b d : BoundOf Text} → BoundKept b d → KeptAll (bare_trees (arguments_in b)) (bare_trees (arguments_in d))
arguments_of (part_kept h) = all_itself no_trees
arguments_of (run_kept h) = all_itself no_trees
arguments_of (selector_kept s) = all_itself no_trees
arguments_of (keyword_kept k) = all_itself no_trees
arguments_of (message_kept s h) = h

selector_of : (n : Text) {b d : BoundOf Text} → BoundKept b d → selector_in n d ≡ selector_in n b
selector_of n (part_kept h) = refl
selector_of n (run_kept h) = refl
selector_of n (selector_kept s) = refl
selector_of n (keyword_kept k) = refl
selector_of n (message_kept s h) = refl

keyword_of : {b d : BoundOf Text} → BoundKept b d → keyword_in d ≡ keyword_in b
keyword_of (part_kept h) = refl
keyword_of (run_kept h) = refl
keyword_of (selector_kept s) = refl
keyword_of (keyword_kept k) = refl
keyword_of (message_kept s h) = refl

module _ (bound after : MetaOf Text → BoundOf Text) (joined : List (List ℕ) → Text) (each : (m : MetaOf Text) → BoundKept (bound m) (after m)) where
  same_keyword : (k : KeywordLike Text) → keyword_filled after joined k ≡ keyword_filled bound joined k
  same_keyword (this_keyword k) = refl
  same_keyword (any_keyword m) = keyword_of (each m)

  same_keywords : (ks : List (KeywordLike Text)) → map (keyword_filled after joined) ks ≡ map (keyword_filled bound joined) ks
  same_keywords [] = refl
  same_keywords (k ∷ ks) = λ at. same_keyword k at ∷ same_keywords ks at

  same_selector : (s : SelectorLike Text) → selector_filled after joined s ≡ selector_filled bound joined s
  same_selector (this_selector n) = refl
  same_selector (any_unary m) = selector_of m.name (each m)
  same_selector (of_keywords ks) = ap joined (same_keywords ks)
  same_selector (any_message m) = selector_of m.name (each m)

  arguments_kept : (s : SelectorLike Text) (xs ys : TreesOf Text) → KeptAll (bare_trees xs) (bare_trees ys) → KeptAll (bare_trees (arguments_filled bound joined s xs)) (bare_trees (arguments_filled after joined s ys))
  arguments_kept (this_selector n) xs ys h = h
  arguments_kept (any_unary m) xs ys h = h
  arguments_kept (of_keywords ks) xs ys h = h
  arguments_kept (any_message m) xs ys h = arguments_of (each m)

  lines_by : (o : Option (MetaOf Text)) (t u : TreeOf Text) (xs ys : StatementsOf Text) → Kept t u → KeptLines xs ys → KeptLines (line_bare bound o t xs) (line_bare after o u ys)
  lines_by None t u xs ys h k = lines_more t u xs ys h k
  lines_by (Some m) t u xs ys h k = before_both xs ys (run_of (each m)) k

  mutual
    pub filled_kept : (p : PatternOf Text) → Kept (filled_bare bound joined p) (filled_bare after joined p)
    filled_kept (meta m) = part_of m.name (each m)
    filled_kept (var_like n) = kept_itself (var n)
    filled_kept (literal_like l) = kept_itself (literal l)
    filled_kept (send_like r s ps) =
        let xs : TreesOf Text = arguments_filled bound joined s (trees_filled bound joined ps) in
        let ys : TreesOf Text = arguments_filled after joined s (trees_filled after joined ps) in
        subst (λ (n : Text). Kept (filled_bare bound joined (send_like r s ps)) (send (filled_bare after joined r) n (bare_trees ys))) (sym (same_selector s))
        (kept_send (filled_bare bound joined r) (filled_bare after joined r) (selector_filled bound joined s) (bare_trees xs) (bare_trees ys) (filled_kept r) (arguments_kept s (trees_filled bound joined ps) (trees_filled after joined ps) (trees_kept ps)))
    filled_kept (cascade_like r ms) =
        kept_cascade (filled_bare bound joined r) (filled_bare after joined r) (bare_messages (messages_filled bound joined ms)) (bare_messages (messages_filled after joined ms)) (filled_kept r) (messages_kept ms)
    filled_kept (assign_like n p) = kept_assign n (filled_bare bound joined p) (filled_bare after joined p) (filled_kept p)
    filled_kept (block_like ps ts ss e) = kept_block ps ts (lines_bare bound joined ss e) (lines_bare after joined ss e) (lines_kept ss e)
    filled_kept (brace_like ps) = kept_brace (bare_trees (trees_filled bound joined ps)) (bare_trees (trees_filled after joined ps)) (trees_kept ps)
    filled_kept (return_like p) = kept_return (filled_bare bound joined p) (filled_bare after joined p) (filled_kept p)

    trees_kept : (ps : PatternsOf Text) → KeptAll (bare_trees (trees_filled bound joined ps)) (bare_trees (trees_filled after joined ps))
    trees_kept no_patterns = all_itself no_trees
    trees_kept (more_patterns p ps) =
        all_more (filled_bare bound joined p) (filled_bare after joined p) (bare_trees (trees_filled bound joined ps)) (bare_trees (trees_filled after joined ps)) (filled_kept p) (trees_kept ps)

    messages_kept : (ms : MessagesLike Text) → KeptMessages (bare_messages (messages_filled bound joined ms)) (bare_messages (messages_filled after joined ms))
    messages_kept no_messages_like = messages_itself no_messages
    messages_kept (more_messages_like s ps ms) =
        let xs : TreesOf Text = arguments_filled bound joined s (trees_filled bound joined ps) in
        let ys : TreesOf Text = arguments_filled after joined s (trees_filled after joined ps) in
        subst (λ (n : Text). KeptMessages (bare_messages (messages_filled bound joined (more_messages_like s ps ms))) (more_messages n (bare_trees ys) (bare_messages (messages_filled after joined ms)))) (sym (same_selector s))
        (messages_more (selector_filled bound joined s) (bare_trees xs) (bare_trees ys) (bare_messages (messages_filled bound joined ms)) (bare_messages (messages_filled after joined ms))
        (arguments_kept s (trees_filled bound joined ps) (trees_filled after joined ps) (trees_kept ps)) (messages_kept ms))

    lines_kept : (ss : StatementsLike Text) (e : Notes) → KeptLines (lines_bare bound joined ss e) (lines_bare after joined ss e)
    lines_kept no_statements_like e = lines_itself no_statements
    lines_kept (more_statements_like c p ss) e =
        subst (λ (xs : StatementsOf Text). KeptLines xs (lines_bare after joined (more_statements_like c p ss) e)) (sym (line_of bound joined c p ss e))
        (subst (λ (ys : StatementsOf Text). KeptLines (line_bare bound (list_meta p) (filled_bare bound joined p) (lines_bare bound joined ss e)) ys) (sym (line_of after joined c p ss e))
        (lines_by (list_meta p) (filled_bare bound joined p) (filled_bare after joined p) (lines_bare bound joined ss e) (lines_bare after joined ss e) (filled_kept p) (lines_kept ss e)))
