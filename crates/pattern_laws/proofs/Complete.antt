-- Where what is bound fills a pattern to a node, there is a match, with which it agrees.
use Rattle.std.proofs.Common.{◌≡◌, refl, sym, ap, subst, ◌∙◌, ℕ, ◌+◌, ◌-◌, List, [], ◌∷◌, ◌++◌, map, length, Option, Some, None, arith}
use Rattle.std.specs.Prelude.{true, false, ◌&&◌, option_and_then}
use Rattle.std.specs.Cmp.Lexicographic.{pointwise}
use Rattle.std.specs.List.{AllByRecursion}
use Rattle.std.specs.Option.{option_map_or}
use Rattle.std.proofs.lemmas.Bool.{false≢true, and_from}
use Rattle.rb_base.specs.Names.{text_eq}
use Rattle.rb_base.proofs.NamesLemmas.{text_eq-refl}
use Rattle.tree_model.specs.Tree.{Notes, TreeOf, var, literal, send, cascade, assign, block, brace, return, TreesOf, no_trees, more_trees, MessagesOf, no_messages, more_messages, StatementsOf, no_statements, more_statements}
use Rattle.tree_model.specs.Bare.{bare, bare_trees, bare_messages, bare_statements}
use Rattle.tree_model.specs.Path.{count}
use Rattle.text_model.specs.Literals.{is_keyword}
use Rattle.pattern_model.specs.declared.kinds.MetaKind.TheVariants.{StatementList}
use Rattle.pattern_model.specs.Patterns.{MetaOf, KeywordLike, this_keyword, any_keyword, SelectorLike, this_selector, any_unary, of_keywords, any_message, PatternOf, meta, var_like, literal_like, send_like, cascade_like, assign_like, block_like, brace_like, return_like, PatternsOf, no_patterns, more_patterns, MessagesLike, no_messages_like, more_messages_like, StatementsLike, no_statements_like, more_statements_like, list_meta, count_like, keyword_metas, message_metas, metas, trees_metas, metas_in_turn, messages_metas, statements_metas}
use Rattle.same_trees.specs.SameTrees.{same_literal}
use Rattle.pattern_model.specs.Bindings.{BoundOf, a_part, a_run, a_selector, a_keyword, a_message}
use Rattle.pattern_model.specs.Words.{PatternWordsOf, AreWords}
use Rattle.pattern_model.specs.Fill.{run_in, part_in, append_statements, EndedOf, noted, keyword_filled, selector_filled, arguments_filled, filled, trees_filled, messages_filled, statements_filled}
use Rattle.pattern_model.specs.Matches.{may_stand, is_of_kind, IsLawfulKeyword, IsLawfulSelector, count_patterns, has_list, IsLawfulBy, AreLawful, AreLawfulMessages, AreLawfulStatements}
use Rattle.pattern_model.specs.MatchTree.{FoundOf, placed, both, deeper, numbered_statements, count_statements, first_statements, other_statements, keyword_places, message_places, one_statement, places, trees_places, places_in_turn, messages_places, statements_places}
use Rattle.same_trees.proofs.Told.{pointwise_refl, literal_refl}
use Rattle.pattern_laws.proofs.Found.{all_parts, IsAgreed, both_agreed, where_agreed, deeper_agreed}
use Rattle.pattern_laws.proofs.Sound.{bare-append, bare-noted}
use Rattle.pattern_laws.proofs.InKind.{is_part_kind, operand_lawful, statement_lawful, list_meta_is, may_stand-bare, part_again, run_again, unary_again, keyword_again, message_again}
use Rattle.pattern_laws.proofs.Runs.{cut, count-filled}

module _ {N : Type 0} (w : PatternWordsOf N) (joined : List (List ℕ) → N) (known : AreWords w joined) (bound : MetaOf N → BoundOf N) where
  -- a metavariable is bound in its kind
  abbrev pub IsInKind : MetaOf N → Type 0
  IsInKind m = is_of_kind w m.kind (bound m) ≡ true

  -- metavariables are
  abbrev pub AreInKind : List (MetaOf N) → Type 0
  AreInKind ms = AllByRecursion IsInKind ms

  -- a keyword in its kind
  keyword_known : (x : KeywordLike N) → IsLawfulKeyword x → AreInKind (keyword_metas x) → is_keyword (keyword_filled bound joined x) ≡ true
  keyword_known (this_keyword k) l h = l
  keyword_known (any_keyword m) l h =
      (keyword_again w m.name (bound m) (subst (λ k. is_of_kind w k (bound m) ≡ true) l h.0)).1

  keyword_complete : (x : KeywordLike N) (y : List ℕ) → IsLawfulKeyword x → AreInKind (keyword_metas x) → keyword_filled bound joined x ≡ y → IsAgreed bound (keyword_places x y)
  keyword_complete (this_keyword k) y l h e = where_agreed bound (text_eq k y) (Some []) (ap (text_eq k) (sym e) ∙ text_eq-refl k) tt
  keyword_complete (any_keyword m) y l h e =
      ((keyword_again w m.name (bound m) (subst (λ k. is_of_kind w k (bound m) ≡ true) l h.0)).0 ∙ ap a_keyword e, tt)

  -- what is known of keywords and arguments in turn is known of the keywords
  turn_known : (ps : PatternsOf N) (xs : List (KeywordLike N)) → length xs ≡ count_patterns ps → AllByRecursion IsLawfulKeyword xs → AreInKind (metas_in_turn ps xs)
      → AllByRecursion (λ k. is_keyword k ≡ true) (map (keyword_filled bound joined) xs)
  turn_known no_patterns [] e l h = tt
  turn_known no_patterns (x ∷ xs) e l h = let bad : ⊥ = omega (arith, e) in absurd bad
  turn_known (more_patterns p ps) [] e l h = tt
  turn_known (more_patterns p ps) (x ∷ xs) e l h =
      let g = all_parts IsInKind (keyword_metas x) (metas p ++ metas_in_turn ps xs) h in
      let f = all_parts IsInKind (metas p) (metas_in_turn ps xs) g.1 in
      let shorter : length xs ≡ count_patterns ps = omega (arith, e) in
      (keyword_known x l.0 g.0, turn_known ps xs shorter l.1 f.1)

  -- a message, by what is known of its arguments
  message_complete : (k : ℕ) (s : SelectorLike N) (u : N) (ts given : TreesOf N) (ps : PatternsOf N) (arguments : FoundOf N) (in_turn : List (KeywordLike N) → List (List ℕ) → FoundOf N)
      → (AreInKind (trees_metas ps) → bare_trees given ≡ bare_trees ts → IsAgreed bound arguments)
      → ((xs : List (KeywordLike N)) (ys : List (List ℕ)) → length xs ≡ count_patterns ps → AllByRecursion IsLawfulKeyword xs → AreInKind (metas_in_turn ps xs) → map (keyword_filled bound joined) xs ≡ ys → bare_trees given ≡ bare_trees ts → IsAgreed bound (in_turn xs ys))
      → IsLawfulSelector s (count_patterns ps)
      → AreInKind (message_metas s (trees_metas ps) (metas_in_turn ps))
      → selector_filled bound joined s ≡ u
      → bare_trees (arguments_filled bound joined s given) ≡ bare_trees ts
      → IsAgreed bound (message_places w k s u ts arguments in_turn)
  message_complete k (this_selector n) u ts given ps arguments in_turn plain keyed l h e f =
      where_agreed bound (w.tests.same n u) arguments (ap (w.tests.same n) (sym e) ∙ known.refl n) (plain h f)
  message_complete k (any_unary m) u ts given ps arguments in_turn plain keyed l h e f =
      let a = unary_again w m.name (bound m) (subst (λ k. is_of_kind w k (bound m) ≡ true) l.0 h.0) in
      where_agreed bound (w.is_unary u) (both (placed m (a_selector u) []) arguments) (ap w.is_unary (sym e) ∙ a.1)
      (both_agreed bound (placed m (a_selector u) []) arguments (a.0 ∙ ap a_selector e, tt) (plain h.1 f))
  message_complete k (of_keywords []) u ts given ps arguments in_turn plain keyed l h e f = absurd (false≢true l.2)
  message_complete k (of_keywords (x ∷ xs)) u ts given ps arguments in_turn plain keyed l h e f =
      let cut_again : w.keywords u ≡ Some (map (keyword_filled bound joined) (x ∷ xs)) =
      ap w.keywords (sym e) ∙ known.cut (keyword_filled bound joined x) (map (keyword_filled bound joined) xs) (turn_known ps (x ∷ xs) l.1 l.0 h) in
      subst (λ (o : Option (List (List ℕ))). IsAgreed bound (option_and_then (in_turn (x ∷ xs)) o)) (sym cut_again)
      (keyed (x ∷ xs) (map (keyword_filled bound joined) (x ∷ xs)) l.1 l.0 h refl f)
  message_complete k (any_message m) u ts given ps arguments in_turn plain keyed l h e f =
      let a = message_again w m.name (bound m) (subst (λ k. is_of_kind w k (bound m) ≡ true) l.0 h.0) in
      (a ∙ (λ i. a_message (e i) (f i)), tt)

  -- a statement, or a list of them, by what is known of the others
  statement_complete : (k : ℕ) (c : Notes) (p : PatternOf N) (rest : EndedOf N) (o : Option (MetaOf N)) → list_meta p ≡ o → (number : ℕ) (rs : StatementsOf N) (others : FoundOf N) (one : TreeOf N → StatementsOf N → FoundOf N)
      → AreInKind (metas p)
      → ((m : MetaOf N) → o ≡ Some m → count_statements rest.0 ≡ number)
      → (bare_statements rest.0 ≡ bare_statements (other_statements (count_statements rs - number) rs) → IsAgreed bound others)
      → ((u : TreeOf N) (us : StatementsOf N) → o ≡ None → bare (filled bound joined p) ≡ bare u → bare_statements rest.0 ≡ bare_statements us → IsAgreed bound (one u us))
      → bare_statements (noted c (option_map_or (λ m. append_statements (run_in (bound m)) rest.0) o (more_statements [] (filled bound joined p) rest.0)) rest.1).0 ≡ bare_statements rs
      → IsAgreed bound (option_map_or (λ m. both (placed m (a_run (first_statements (count_statements rs - number) rs)) (numbered_statements k (first_statements (count_statements rs - number) rs))) others) o (one_statement w one rs))
  statement_complete k c p rest (Some m) q number rs others one h counted behind first e =
      let is = list_meta_is p m q in
      let kind : is_of_kind w StatementList (bound m) ≡ true =
      subst (λ k. is_of_kind w k (bound m) ≡ true) is.0 (subst AreInKind is.1 h).0 in
      let whole = sym (bare-append (run_in (bound m)) rest.0) ∙ (sym (bare-noted c (append_statements (run_in (bound m)) rest.0) rest.1) ∙ e) in
      let parts = cut (run_in (bound m)) rest.0 rs number whole (counted m refl) in
      both_agreed bound
      (placed m (a_run (first_statements (count_statements rs - number) rs)) (numbered_statements k (first_statements (count_statements rs - number) rs)))
      others
      (run_again w m.name (bound m) kind ∙ ap a_run parts.0, tt)
      (behind parts.1)
  statement_complete k c p rest None q number no_statements others one h counted behind first e = let bad : ⊥ = cc in absurd bad
  statement_complete k c p rest None q number (more_statements d u us) others one h counted behind first e =
      let a : bare (filled bound joined p) ≡ bare u = cc in
      let b : bare_statements rest.0 ≡ bare_statements us = cc in
      first u us refl a b

  -- a pattern
  mutual
    pub complete : (p : PatternOf N) (t : TreeOf N) → IsLawfulBy is_part_kind p → AreInKind (metas p) → bare (filled bound joined p) ≡ bare t → IsAgreed bound (places w p t)
    complete (meta m) t l h e =
        let a = part_again w m.name m.kind (bound m) l h.0 in
        let stands : may_stand w.tests.is_pseudo m.kind t ≡ true =
        sym (may_stand-bare w.tests.is_pseudo m.kind t)
        ∙ (ap (may_stand w.tests.is_pseudo m.kind) (sym e)
        ∙ (may_stand-bare w.tests.is_pseudo m.kind (part_in m.name (bound m)) ∙ a.1)) in
        where_agreed bound (may_stand w.tests.is_pseudo m.kind t) (placed m (a_part t) (([], t) ∷ [])) stands (a.0 ∙ ap a_part e, tt)
    complete (var_like n) (var k) l h e =
        let same : n ≡ k = cc in where_agreed bound (w.tests.same n k) (Some []) (ap (w.tests.same n) (sym same) ∙ known.refl n) tt
    complete (literal_like x) (literal y) l h e =
        let same : x ≡ y = cc in
        where_agreed bound (same_literal w.tests.same x y) (Some [])
        (ap (same_literal w.tests.same x) (sym same) ∙ literal_refl w.tests.same known.refl x) tt
    complete (send_like r s ps) (send t u ts) l h e =
        let a : bare (filled bound joined r) ≡ bare t = cc in
        let b : selector_filled bound joined s ≡ u = cc in
        let d : bare_trees (arguments_filled bound joined s (trees_filled bound joined ps)) ≡ bare_trees ts = cc in
        let g = all_parts IsInKind (metas r) (message_metas s (trees_metas ps) (metas_in_turn ps)) h in
        both_agreed bound (deeper 0 (places w r t)) (message_places w 1 s u ts (trees_places w 1 ps ts) (places_in_turn w 1 ps ts))
        (deeper_agreed bound 0 (places w r t) (complete r t (operand_lawful r l.0) g.0 a))
        (message_complete 1 s u ts (trees_filled bound joined ps) ps (trees_places w 1 ps ts) (places_in_turn w 1 ps ts)
        (λ h f. trees_complete 1 ps ts l.2 h f)
        (λ xs ys n m h f e. turn_complete 1 ps ts xs ys l.2 n m h f e) l.1 g.1 b d)
    complete (cascade_like r ms) (cascade t us) l h e =
        let a : bare (filled bound joined r) ≡ bare t = cc in
        let b : bare_messages (messages_filled bound joined ms) ≡ bare_messages us = cc in
        let g = all_parts IsInKind (metas r) (messages_metas ms) h in
        both_agreed bound (deeper 0 (places w r t)) (messages_places w 1 ms us)
        (deeper_agreed bound 0 (places w r t) (complete r t (operand_lawful r l.0) g.0 a))
        (messages_complete 1 ms us l.1 g.1 b)
    complete (assign_like n p) (assign k t) l h e =
        let same : n ≡ k = cc in
        let a : bare (filled bound joined p) ≡ bare t = cc in
        where_agreed bound (w.tests.same n k) (deeper 0 (places w p t)) (ap (w.tests.same n) (sym same) ∙ known.refl n)
        (deeper_agreed bound 0 (places w p t) (complete p t (operand_lawful p l) h a))
    complete (block_like ps ts ss d) (block qs us rs f) l h e =
        let a : ps ≡ qs = cc in
        let b : ts ≡ us = cc in
        let c : bare_statements (statements_filled bound joined ss d).0 ≡ bare_statements rs = cc in
        where_agreed bound (pointwise w.tests.same ps qs && pointwise w.tests.same ts us) (statements_places w 0 ss rs)
        (and_from _ _ (ap (pointwise w.tests.same ps) (sym a) ∙ pointwise_refl w.tests.same known.refl ps) (ap (pointwise w.tests.same ts) (sym b) ∙ pointwise_refl w.tests.same known.refl ts))
        (statements_complete 0 ss d rs l h c)
    complete (brace_like ps) (brace ts) l h e =
        let a : bare_trees (trees_filled bound joined ps) ≡ bare_trees ts = cc in trees_complete 0 ps ts l h a
    complete (return_like p) (return t) l h e =
        let a : bare (filled bound joined p) ≡ bare t = cc in
        deeper_agreed bound 0 (places w p t) (complete p t (operand_lawful p l) h a)
    complete p t l h e = let bad : ⊥ = cc in absurd bad

    trees_complete : (k : ℕ) (ps : PatternsOf N) (ts : TreesOf N) → AreLawful ps → AreInKind (trees_metas ps) → bare_trees (trees_filled bound joined ps) ≡ bare_trees ts → IsAgreed bound (trees_places w k ps ts)
    trees_complete k no_patterns no_trees l h e = tt
    trees_complete k (more_patterns p ps) (more_trees t ts) l h e =
        let a : bare (filled bound joined p) ≡ bare t = cc in
        let b : bare_trees (trees_filled bound joined ps) ≡ bare_trees ts = cc in
        let g = all_parts IsInKind (metas p) (trees_metas ps) h in
        both_agreed bound (deeper k (places w p t)) (trees_places w (k + 1) ps ts)
        (deeper_agreed bound k (places w p t) (complete p t (operand_lawful p l.0) g.0 a))
        (trees_complete (k + 1) ps ts l.1 g.1 b)
    trees_complete k ps ts l h e = let bad : ⊥ = cc in absurd bad

    turn_complete : (k : ℕ) (ps : PatternsOf N) (ts : TreesOf N) (xs : List (KeywordLike N)) (ys : List (List ℕ)) → AreLawful ps → length xs ≡ count_patterns ps → AllByRecursion IsLawfulKeyword xs → AreInKind (metas_in_turn ps xs)
        → map (keyword_filled bound joined) xs ≡ ys → bare_trees (trees_filled bound joined ps) ≡ bare_trees ts → IsAgreed bound (places_in_turn w k ps ts xs ys)
    turn_complete k no_patterns no_trees [] [] l n m h f e = tt
    turn_complete k (more_patterns p ps) (more_trees t ts) (x ∷ xs) (y ∷ ys) l n m h f e =
        let a : bare (filled bound joined p) ≡ bare t = cc in
        let b : bare_trees (trees_filled bound joined ps) ≡ bare_trees ts = cc in
        let c : keyword_filled bound joined x ≡ y = cc in
        let d : map (keyword_filled bound joined) xs ≡ ys = cc in
        let g = all_parts IsInKind (keyword_metas x) (metas p ++ metas_in_turn ps xs) h in
        let i = all_parts IsInKind (metas p) (metas_in_turn ps xs) g.1 in
        let shorter : length xs ≡ count_patterns ps = omega (arith, n) in
        both_agreed bound (keyword_places x y) (both (deeper k (places w p t)) (places_in_turn w (k + 1) ps ts xs ys))
        (keyword_complete x y m.0 g.0 c)
        (both_agreed bound (deeper k (places w p t)) (places_in_turn w (k + 1) ps ts xs ys)
        (deeper_agreed bound k (places w p t) (complete p t (operand_lawful p l.0) i.0 a))
        (turn_complete (k + 1) ps ts xs ys l.1 shorter m.1 i.1 d b))
    turn_complete k ps ts xs ys l n m h f e = let bad : ⊥ = first_of (cc, omega (arith, n)) in absurd bad

    messages_complete : (k : ℕ) (ms : MessagesLike N) (us : MessagesOf N) → AreLawfulMessages ms → AreInKind (messages_metas ms) → bare_messages (messages_filled bound joined ms) ≡ bare_messages us → IsAgreed bound (messages_places w k ms us)
    messages_complete k no_messages_like no_messages l h e = tt
    messages_complete k (more_messages_like s ps ms) (more_messages u ts us) l h e =
        let b : selector_filled bound joined s ≡ u = cc in
        let d : bare_trees (arguments_filled bound joined s (trees_filled bound joined ps)) ≡ bare_trees ts = cc in
        let f : bare_messages (messages_filled bound joined ms) ≡ bare_messages us = cc in
        let g = all_parts IsInKind (message_metas s (trees_metas ps) (metas_in_turn ps)) (messages_metas ms) h in
        both_agreed bound (message_places w k s u ts (trees_places w k ps ts) (places_in_turn w k ps ts)) (messages_places w (k + count ts) ms us)
        (message_complete k s u ts (trees_filled bound joined ps) ps (trees_places w k ps ts) (places_in_turn w k ps ts)
        (λ h f. trees_complete k ps ts l.1 h f)
        (λ xs ys n m h f e. turn_complete k ps ts xs ys l.1 n m h f e) l.0 g.0 b d)
        (messages_complete (k + count ts) ms us l.2 g.1 f)
    messages_complete k ms us l h e = let bad : ⊥ = cc in absurd bad

    statements_complete : (k : ℕ) (ss : StatementsLike N) (d : Notes) (rs : StatementsOf N) → AreLawfulStatements ss → AreInKind (statements_metas ss) → bare_statements (statements_filled bound joined ss d).0 ≡ bare_statements rs → IsAgreed bound (statements_places w k ss rs)
    statements_complete k no_statements_like d no_statements l h e = tt
    statements_complete k no_statements_like d (more_statements c t rs) l h e = let bad : ⊥ = cc in absurd bad
    statements_complete k (more_statements_like c p ss) d rs l h e =
        let g = all_parts IsInKind (metas p) (statements_metas ss) h in
        let n : ℕ = count_statements rs - count_like ss in
        statement_complete k c p (statements_filled bound joined ss d) (list_meta p) refl (count_like ss) rs
        (statements_places w (k + n) ss (other_statements n rs))
        (λ t us. both (deeper k (places w p t)) (statements_places w (k + 1) ss us))
        g.0
        (λ m q. count-filled bound joined ss d (ap (λ o. option_map_or (λ m. has_list ss) o false) (sym q) ∙ l.2))
        (λ f. statements_complete (k + n) ss d (other_statements n rs) l.1 g.1 f)
        (λ t us q a b.
        both_agreed bound (deeper k (places w p t)) (statements_places w (k + 1) ss us)
        (deeper_agreed bound k (places w p t) (complete p t (statement_lawful p l.0 q) g.0 a))
        (statements_complete (k + 1) ss d us l.1 g.1 b))
        e
