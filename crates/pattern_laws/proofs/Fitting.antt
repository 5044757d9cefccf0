-- The places of a match are those of the pattern's metavariables, and what stands there is of their kinds.
use Rattle.std.proofs.Common.{◌≡◌, refl, sym, ap, subst, ◌∙◌, ℕ, ◌+◌, ◌-◌, List, [], ◌∷◌, ◌++◌, map, Option, Some, None}
use Rattle.std.specs.Prelude.{Bool, true, false, ◌&&◌, option_and_then}
use Rattle.std.specs.Cmp.Lexicographic.{pointwise}
use Rattle.std.specs.List.{AllByRecursion}
use Rattle.std.specs.Option.{option_map_or}
use Rattle.rb_base.specs.Names.{text_eq}
use Rattle.tree_model.specs.Tree.{TreeOf, var, literal, send, cascade, assign, block, brace, return, TreesOf, no_trees, more_trees, MessagesOf, no_messages, more_messages, StatementsOf, no_statements, more_statements}
use Rattle.tree_model.specs.Path.{count}
use Rattle.tree_model.specs.Nodes.{Placed}
use Rattle.text_model.specs.Literals.{is_keyword}
use Rattle.pattern_model.specs.declared.kinds.MetaKind.{MetaKind}
use Rattle.pattern_model.specs.Patterns.{MetaOf, KeywordLike, this_keyword, any_keyword, SelectorLike, this_selector, any_unary, of_keywords, any_message, PatternOf, meta, var_like, literal_like, send_like, cascade_like, assign_like, block_like, brace_like, return_like, PatternsOf, no_patterns, more_patterns, MessagesLike, no_messages_like, more_messages_like, StatementsLike, no_statements_like, more_statements_like, list_meta, count_like, keyword_metas, message_metas, metas, trees_metas, metas_in_turn, messages_metas, statements_metas}
use Rattle.same_trees.specs.SameTrees.{same_literal}
use Rattle.pattern_model.specs.Bindings.{a_part, a_run, a_selector, a_keyword, a_message}
use Rattle.pattern_model.specs.Words.{PatternWordsOf, AreWords}
use Rattle.pattern_model.specs.Matches.{may_stand, is_of_kind, is_operand_kind, is_statement_kind, IsLawfulKeyword, IsLawfulSelector, count_patterns, IsLawfulBy, AreLawful, AreLawfulMessages, AreLawfulStatements}
use Rattle.pattern_model.specs.MatchTree.{PlaceOf, FoundOf, placed, both, where_holds, stepped, deeper, numbered_statements, count_statements, first_statements, other_statements, keyword_places, message_places, one_statement, places, trees_places, places_in_turn, messages_places, statements_places}
use Rattle.pattern_laws.proofs.Found.{all_append}
use Rattle.pattern_laws.proofs.InKind.{list_meta_is}

-- the metavariables of places
abbrev pub metas_of : {N : Type 0} → List (PlaceOf N) → List (MetaOf N)
metas_of [] = []
metas_of (x ∷ xs) = x.meta ∷ metas_of xs

metas_of-append : {N : Type 0} (xs ys : List (PlaceOf N)) → metas_of (xs ++ ys) ≡ metas_of xs ++ metas_of ys
metas_of-append [] ys = refl
metas_of-append (x ∷ xs) ys = ap (λ (ms : List _). x.meta ∷ ms) (metas_of-append xs ys)

metas_of-stepped : {N : Type 0} (k : ℕ) (xs : List (PlaceOf N)) → metas_of (map (stepped k) xs) ≡ metas_of xs
metas_of-stepped k [] = refl
metas_of-stepped k (x ∷ xs) = ap (λ (ms : List _). x.meta ∷ ms) (metas_of-stepped k xs)

module _ {N : Type 0} (w : PatternWordsOf N) where
  -- what stands at a place is of its metavariable's kind
  abbrev pub IsRight : PlaceOf N → Type 0
  IsRight x = is_of_kind w x.meta.kind x.bound ≡ true

  -- the places of these metavariables, where there is a match
  abbrev pub IsFitting : List (MetaOf N) → FoundOf N → Type 0
  IsFitting ms None = Unit {0}
  IsFitting ms (Some xs) = (metas_of xs ≡ ms) × AllByRecursion IsRight xs

  fits_both : (ms ns : List (MetaOf N)) (a b : FoundOf N) → IsFitting ms a → IsFitting ns b → IsFitting (ms ++ ns) (both a b)
  fits_both ms ns (Some xs) (Some ys) h g = (metas_of-append xs ys ∙ (λ i. h.0 i ++ g.0 i), all_append IsRight xs ys h.1 g.1)
  fits_both ms ns (Some xs) None h g = tt
  fits_both ms ns None b h g = tt

  fits_where : (ms : List (MetaOf N)) (b : Bool) (o : FoundOf N) → (b ≡ true → IsFitting ms o) → IsFitting ms (where_holds b o)
  fits_where ms true o h = h refl
  fits_where ms false o h = tt

  stepped_right : (k : ℕ) (xs : List (PlaceOf N)) → AllByRecursion IsRight xs → AllByRecursion IsRight (map (stepped k) xs)
  stepped_right k [] h = tt
  stepped_right k (x ∷ xs) h = (h.0, stepped_right k xs h.1)

  fits_deeper : (ms : List (MetaOf N)) (k : ℕ) (o : FoundOf N) → IsFitting ms o → IsFitting ms (deeper k o)
  fits_deeper ms k None h = tt
  fits_deeper ms k (Some xs) h = (metas_of-stepped k xs ∙ h.0, stepped_right k xs h.1)

module _ {N : Type 0} (w : PatternWordsOf N) (joined : List (List ℕ) → N) (known : AreWords w joined) where
  keyword_fits : (x : KeywordLike N) (y : List ℕ) → IsLawfulKeyword x → is_keyword y ≡ true → IsFitting w (keyword_metas x) (keyword_places x y)
  keyword_fits (this_keyword k) y l e = fits_where w [] (text_eq k y) (Some []) (λ t. (refl, tt))
  keyword_fits (any_keyword m) y l e = (refl, (subst (λ k. is_of_kind w k (a_keyword y) ≡ true) (sym l) e, tt))

  message_fits : (k : ℕ) (s : SelectorLike N) (u : N) (ts : TreesOf N) (ps : PatternsOf N) (arguments : FoundOf N) (in_turn : List (KeywordLike N) → List (List ℕ) → FoundOf N)
      → IsFitting w (trees_metas ps) arguments
      → ((xs : List (KeywordLike N)) (ys : List (List ℕ)) → AllByRecursion IsLawfulKeyword xs → AllByRecursion (λ y. is_keyword y ≡ true) ys → IsFitting w (metas_in_turn ps xs) (in_turn xs ys))
      → IsLawfulSelector s (count_patterns ps)
      → IsFitting w (message_metas s (trees_metas ps) (metas_in_turn ps)) (message_places w k s u ts arguments in_turn)
  message_fits k (this_selector n) u ts ps arguments in_turn plain keyed l = fits_where w (trees_metas ps) (w.tests.same n u) arguments (λ e. plain)
  message_fits k (any_unary m) u ts ps arguments in_turn plain keyed l =
      fits_where w (m ∷ trees_metas ps) (w.is_unary u) (both (placed m (a_selector u) []) arguments)
      (λ e. fits_both w (m ∷ []) (trees_metas ps) (placed m (a_selector u) []) arguments (refl, (subst (λ k. is_of_kind w k (a_selector u) ≡ true) (sym l.0) e, tt)) plain)
  message_fits k (of_keywords xs) u ts ps arguments in_turn plain keyed l = by (w.keywords u) refl
    where
      by : (o : Option (List (List ℕ))) → w.keywords u ≡ o → IsFitting w (metas_in_turn ps xs) (option_and_then (in_turn xs) o)
      by None e = tt
      by (Some ys) e = keyed xs ys l.0 (known.each u ys e)
  message_fits k (any_message m) u ts ps arguments in_turn plain keyed l = (refl, (subst (λ k. is_of_kind w k (a_message u ts) ≡ true) (sym l.0) refl, tt))

  statement_fits : (k : ℕ) (p : PatternOf N) (o : Option (MetaOf N)) → list_meta p ≡ o → (ms : List (MetaOf N)) (run rs : StatementsOf N) (parts : List (Placed N)) (others : FoundOf N) (one : TreeOf N → StatementsOf N → FoundOf N)
      → IsFitting w ms others
      → ((t : TreeOf N) (us : StatementsOf N) → IsFitting w (metas p ++ ms) (one t us))
      → IsFitting w (metas p ++ ms) (option_map_or (λ m. both (placed m (a_run run) parts) others) o (one_statement w one rs))
  statement_fits k p (Some m) q ms run rs parts others one behind first =
      let is = list_meta_is p m q in
      subst (λ (ns : List (MetaOf N)). IsFitting w (ns ++ ms) (both (placed m (a_run run) parts) others)) (sym is.1)
      (fits_both w (m ∷ []) ms (placed m (a_run run) parts) others (refl, (subst (λ k. is_of_kind w k (a_run run) ≡ true) (sym is.0) refl, tt)) behind)
  statement_fits k p None q ms run no_statements parts others one behind first = tt
  statement_fits k p None q ms run (more_statements c t us) parts others one behind first = first t us

  mutual
    pub fits : (p : PatternOf N) (t : TreeOf N) (may : MetaKind → Bool) → IsLawfulBy may p → IsFitting w (metas p) (places w p t)
    fits (meta m) t may l = fits_where w (m ∷ []) (may_stand w.tests.is_pseudo m.kind t) (placed m (a_part t) (([], t) ∷ [])) (λ e. (refl, (e, tt)))
    fits (var_like n) (var k) may l = fits_where w [] (w.tests.same n k) (Some []) (λ e. (refl, tt))
    fits (literal_like x) (literal y) may l = fits_where w [] (same_literal w.tests.same x y) (Some []) (λ e. (refl, tt))
    fits (send_like r s ps) (send t u ts) may l =
        fits_both w (metas r) (message_metas s (trees_metas ps) (metas_in_turn ps)) (deeper 0 (places w r t)) (message_places w 1 s u ts (trees_places w 1 ps ts) (places_in_turn w 1 ps ts))
        (fits_deeper w (metas r) 0 (places w r t) (fits r t is_operand_kind l.0))
        (message_fits 1 s u ts ps (trees_places w 1 ps ts) (places_in_turn w 1 ps ts) (trees_fit 1 ps ts l.2) (λ xs ys a b. turn_fits 1 ps ts xs ys l.2 a b) l.1)
    fits (cascade_like r ms) (cascade t us) may l =
        fits_both w (metas r) (messages_metas ms) (deeper 0 (places w r t)) (messages_places w 1 ms us)
        (fits_deeper w (metas r) 0 (places w r t) (fits r t is_operand_kind l.0)) (messages_fit 1 ms us l.1)
    fits (assign_like n p) (assign k t) may l =
        fits_where w (metas p) (w.tests.same n k) (deeper 0 (places w p t)) (λ e. fits_deeper w (metas p) 0 (places w p t) (fits p t is_operand_kind l))
    fits (block_like ps ts ss e) (block qs us rs f) may l =
        fits_where w (statements_metas ss) (pointwise w.tests.same ps qs && pointwise w.tests.same ts us) (statements_places w 0 ss rs) (λ e. statements_fit 0 ss rs l)
    fits (brace_like ps) (brace ts) may l = trees_fit 0 ps ts l
    fits (return_like p) (return t) may l = fits_deeper w (metas p) 0 (places w p t) (fits p t is_operand_kind l)
    fits p t may l = tt

    trees_fit : (k : ℕ) (ps : PatternsOf N) (ts : TreesOf N) → AreLawful ps → IsFitting w (trees_metas ps) (trees_places w k ps ts)
    trees_fit k no_patterns no_trees l = (refl, tt)
    trees_fit k (more_patterns p ps) (more_trees t ts) l =
        fits_both w (metas p) (trees_metas ps) (deeper k (places w p t)) (trees_places w (k + 1) ps ts)
        (fits_deeper w (metas p) k (places w p t) (fits p t is_operand_kind l.0)) (trees_fit (k + 1) ps ts l.1)
    trees_fit k ps ts l = tt

    turn_fits : (k : ℕ) (ps : PatternsOf N) (ts : TreesOf N) (xs : List (KeywordLike N)) (ys : List (List ℕ)) → AreLawful ps → AllByRecursion IsLawfulKeyword xs → AllByRecursion (λ y. is_keyword y ≡ true) ys
        → IsFitting w (metas_in_turn ps xs) (places_in_turn w k ps ts xs ys)
    turn_fits k no_patterns no_trees [] [] l a b = (refl, tt)
    turn_fits k (more_patterns p ps) (more_trees t ts) (x ∷ xs) (y ∷ ys) l a b =
        fits_both w (keyword_metas x) (metas p ++ metas_in_turn ps xs) (keyword_places x y) (both (deeper k (places w p t)) (places_in_turn w (k + 1) ps ts xs ys))
        (keyword_fits x y a.0 b.0)
        (fits_both w (metas p) (metas_in_turn ps xs) (deeper k (places w p t)) (places_in_turn w (k + 1) ps ts xs ys)
        (fits_deeper w (metas p) k (places w p t) (fits p t is_operand_kind l.0)) (turn_fits (k + 1) ps ts xs ys l.1 a.1 b.1))
    turn_fits k ps ts xs ys l a b = tt

    messages_fit : (k : ℕ) (ms : MessagesLike N) (us : MessagesOf N) → AreLawfulMessages ms → IsFitting w (messages_metas ms) (messages_places w k ms us)
    messages_fit k no_messages_like no_messages l = (refl, tt)
    messages_fit k (more_messages_like s ps ms) (more_messages u ts us) l =
        fits_both w (message_metas s (trees_metas ps) (metas_in_turn ps)) (messages_metas ms) (message_places w k s u ts (trees_places w k ps ts) (places_in_turn w k ps ts)) (messages_places w (k + count ts) ms us)
        (message_fits k s u ts ps (trees_places w k ps ts) (places_in_turn w k ps ts) (trees_fit k ps ts l.1) (λ xs ys a b. turn_fits k ps ts xs ys l.1 a b) l.0)
        (messages_fit (k + count ts) ms us l.2)
    messages_fit k ms us l = tt

    statements_fit : (k : ℕ) (ss : StatementsLike N) (rs : StatementsOf N) → AreLawfulStatements ss → IsFitting w (statements_metas ss) (statements_places w k ss rs)
    statements_fit k no_statements_like no_statements l = (refl, tt)
    statements_fit k no_statements_like (more_statements c t rs) l = tt
    statements_fit k (more_statements_like c p ss) rs l =
        let n : ℕ = count_statements rs - count_like ss in
        statement_fits k p (list_meta p) refl (statements_metas ss) (first_statements n rs) rs (numbered_statements k (first_statements n rs))
        (statements_places w (k + n) ss (other_statements n rs))
        (λ t us. both (deeper k (places w p t)) (statements_places w (k + 1) ss us))
        (statements_fit (k + n) ss (other_statements n rs) l.1)
        (λ t us.
        fits_both w (metas p) (statements_metas ss) (deeper k (places w p t)) (statements_places w (k + 1) ss us)
        (fits_deeper w (metas p) k (places w p t) (fits p t is_statement_kind l.0)) (statements_fit (k + 1) ss us l.1))
