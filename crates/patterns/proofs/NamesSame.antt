-- A pattern whose names all stay is the same pattern.
use Rattle.std.proofs.Common.{◌≡◌, List, [], ◌∷◌, map, refl, ap, ◌∙◌}
use Rattle.std.specs.List.{AllByRecursion}
use Rattle.tree_model.specs.Tree.{LiteralOf, TreeOf, literal, map_literal}
use Rattle.tree_model.specs.AllNames.{LiteralNames}
use Rattle.tree_model.proofs.AllNamesLemmas.{map_names-same, AllNames-implies}
use Rattle.tree_model.proofs.MapNames.{map_names-id}
use Rattle.pattern_model.specs.Patterns.{KeywordLike, this_keyword, any_keyword, SelectorLike, this_selector, any_unary, of_keywords, any_message, PatternOf, meta, var_like, literal_like, send_like, cascade_like, assign_like, block_like, brace_like, return_like, PatternsOf, no_patterns, more_patterns, MessagesLike, no_messages_like, more_messages_like, StatementsLike, no_statements_like, more_statements_like}
use Rattle.pattern_model.specs.Named.{map_keyword, map_selector, map_pattern, map_patterns, map_messages_like, map_statements_like}
use Rattle.patterns.specs.Names.{KeywordNames, SelectorNames, PatternNames, PatternsNames, MessagesLikeNames, StatementsLikeNames}

module _ {N : Type 0} (P : N → Type 0) (f : N → N) (stays : (n : N) → P n → f n ≡ n) where
  -- lists, and literals as trees
  names_stay : (ns : List N) → AllByRecursion P ns → map f ns ≡ ns
  names_stay [] h = refl
  names_stay (n ∷ ns) h = λ i. stays n h.0 i ∷ names_stay ns h.1 i

  abbrev literal_in : LiteralOf N → TreeOf N → LiteralOf N
  literal_in k (literal l) = l
  literal_in k t = k

  literal_stays : (l : LiteralOf N) → LiteralNames P l → map_literal f l ≡ l
  literal_stays l h = ap (literal_in l) (map_names-same f (λ n. n) (literal l) (AllNames-implies P (λ n. f n ≡ n) stays (literal l) h) ∙ map_names-id (literal l))

  keyword_stays : (k : KeywordLike N) → KeywordNames P k → map_keyword f k ≡ k
  keyword_stays (this_keyword k) h = refl
  keyword_stays (any_keyword m) h = λ i. any_keyword (record { kind = m.kind; name = stays m.name h i; doubled = m.doubled })

  keywords_stay : (ks : List (KeywordLike N)) → AllByRecursion (KeywordNames P) ks → map (map_keyword f) ks ≡ ks
  keywords_stay [] h = refl
  keywords_stay (k ∷ ks) h = λ i. keyword_stays k h.0 i ∷ keywords_stay ks h.1 i

  selector_stays : (s : SelectorLike N) → SelectorNames P s → map_selector f s ≡ s
  selector_stays (this_selector n) h = ap this_selector (stays n h)
  selector_stays (any_unary m) h = λ i. any_unary (record { kind = m.kind; name = stays m.name h i; doubled = m.doubled })
  selector_stays (of_keywords ks) h = ap of_keywords (keywords_stay ks h)
  selector_stays (any_message m) h = λ i. any_message (record { kind = m.kind; name = stays m.name h i; doubled = m.doubled })

  -- a pattern
  mutual
    pub pattern_stays : (p : PatternOf N) → PatternNames P p → map_pattern f p ≡ p
    pattern_stays (meta m) h = λ i. meta (record { kind = m.kind; name = stays m.name h i; doubled = m.doubled })
    pattern_stays (var_like n) h = ap var_like (stays n h)
    pattern_stays (literal_like l) h = ap literal_like (literal_stays l h)
    pattern_stays (send_like r s ps) h = λ i. send_like (pattern_stays r h.0 i) (selector_stays s h.1 i) (patterns_stay ps h.2 i)
    pattern_stays (cascade_like r ms) h = λ i. cascade_like (pattern_stays r h.0 i) (messages_stay ms h.1 i)
    pattern_stays (assign_like n p) h = λ i. assign_like (stays n h.0 i) (pattern_stays p h.1 i)
    pattern_stays (block_like ps ts ss e) h = λ i. block_like (names_stay ps h.0 i) (names_stay ts h.1 i) (statements_stay ss h.2 i) e
    pattern_stays (brace_like ps) h = ap brace_like (patterns_stay ps h)
    pattern_stays (return_like p) h = ap return_like (pattern_stays p h)

    patterns_stay : (ps : PatternsOf N) → PatternsNames P ps → map_patterns f ps ≡ ps
    patterns_stay no_patterns h = refl
    patterns_stay (more_patterns p ps) h = λ i. more_patterns (pattern_stays p h.0 i) (patterns_stay ps h.1 i)

    messages_stay : (ms : MessagesLike N) → MessagesLikeNames P ms → map_messages_like f ms ≡ ms
    messages_stay no_messages_like h = refl
    messages_stay (more_messages_like s ps ms) h = λ i. more_messages_like (selector_stays s h.0 i) (patterns_stay ps h.1 i) (messages_stay ms h.2 i)

    statements_stay : (ss : StatementsLike N) → StatementsLikeNames P ss → map_statements_like f ss ≡ ss
    statements_stay no_statements_like h = refl
    statements_stay (more_statements_like c p ss) h = λ i. more_statements_like c (pattern_stays p h.0 i) (statements_stay ss h.1 i)
