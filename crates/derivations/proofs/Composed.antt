-- A pattern whose names are changed there and back.
use Rattle.std.proofs.Common.{◌≡◌, List, [], ◌∷◌, map, refl, ap, ◌∙◌}
use Rattle.std.specs.List.{AllByRecursion}
use Rattle.tree_model.specs.Tree.{LiteralOf, TreeOf, literal, map_literal}
use Rattle.tree_model.specs.AllNames.{LiteralNames}
use Rattle.tree_model.proofs.AllNamesLemmas.{map_names-same, AllNames-implies, AllNames-map_names}
use Rattle.tree_model.proofs.MapNames.{map_names-id, map_names-map_names}
use Rattle.pattern_model.specs.Patterns.{KeywordLike, this_keyword, any_keyword, SelectorLike, this_selector, any_unary, of_keywords, any_message, PatternOf, meta, var_like, literal_like, send_like, cascade_like, assign_like, block_like, brace_like, return_like, PatternsOf, no_patterns, more_patterns, MessagesLike, no_messages_like, more_messages_like, StatementsLike, no_statements_like, more_statements_like}
use Rattle.pattern_model.specs.Named.{map_keyword, map_selector, map_pattern, map_patterns, map_messages_like, map_statements_like}
use Rattle.patterns.specs.Names.{KeywordNames, SelectorNames, PatternNames, PatternsNames, MessagesLikeNames, StatementsLikeNames}

module _ {M N : Type 0} (P : M → Type 0) (f : M → N) (g : N → M) (back : (m : M) → P m → g (f m) ≡ m) where
  names_back : (ns : List M) → AllByRecursion P ns → map g (map f ns) ≡ ns
  names_back [] h = refl
  names_back (n ∷ ns) h = λ i. back n h.0 i ∷ names_back ns h.1 i

  abbrev literal_in : LiteralOf M → TreeOf M → LiteralOf M
  literal_in k (literal l) = l
  literal_in k t = k

  literal_back : (l : LiteralOf M) → LiteralNames P l → map_literal g (map_literal f l) ≡ l
  literal_back l h = ap (literal_in l) (map_names-map_names g f (literal l) ∙ map_names-same (λ m. g (f m)) (λ m. m) (literal l) (AllNames-implies P (λ m. g (f m) ≡ m) back (literal l) h) ∙ map_names-id (literal l))

  keywords_back : (ks : List (KeywordLike M)) → AllByRecursion (KeywordNames P) ks → map (map_keyword g) (map (map_keyword f) ks) ≡ ks
  keywords_back [] h = refl
  keywords_back (this_keyword k ∷ ks) h = λ i. this_keyword k ∷ keywords_back ks h.1 i
  keywords_back (any_keyword m ∷ ks) h = λ i. any_keyword (record { kind = m.kind; name = back m.name h.0 i; doubled = m.doubled }) ∷ keywords_back ks h.1 i

  selector_back : (s : SelectorLike M) → SelectorNames P s → map_selector g (map_selector f s) ≡ s
  selector_back (this_selector n) h = ap this_selector (back n h)
  selector_back (any_unary m) h = λ i. any_unary (record { kind = m.kind; name = back m.name h i; doubled = m.doubled })
  selector_back (of_keywords ks) h = ap of_keywords (keywords_back ks h)
  selector_back (any_message m) h = λ i. any_message (record { kind = m.kind; name = back m.name h i; doubled = m.doubled })

  mutual
    pub pattern_back : (p : PatternOf M) → PatternNames P p → map_pattern g (map_pattern f p) ≡ p
    pattern_back (meta m) h = λ i. meta (record { kind = m.kind; name = back m.name h i; doubled = m.doubled })
    pattern_back (var_like n) h = ap var_like (back n h)
    pattern_back (literal_like l) h = ap literal_like (literal_back l h)
    pattern_back (send_like r s ps) h = λ i. send_like (pattern_back r h.0 i) (selector_back s h.1 i) (patterns_back ps h.2 i)
    pattern_back (cascade_like r ms) h = λ i. cascade_like (pattern_back r h.0 i) (messages_back ms h.1 i)
    pattern_back (assign_like n p) h = λ i. assign_like (back n h.0 i) (pattern_back p h.1 i)
    pattern_back (block_like ps ts ss e) h = λ i. block_like (names_back ps h.0 i) (names_back ts h.1 i) (statements_back ss h.2 i) e
    pattern_back (brace_like ps) h = ap brace_like (patterns_back ps h)
    pattern_back (return_like p) h = ap return_like (pattern_back p h)

    patterns_back : (ps : PatternsOf M) → PatternsNames P ps → map_patterns g (map_patterns f ps) ≡ ps
    patterns_back no_patterns h = refl
    patterns_back (more_patterns p ps) h = λ i. more_patterns (pattern_back p h.0 i) (patterns_back ps h.1 i)

    messages_back : (ms : MessagesLike M) → MessagesLikeNames P ms → map_messages_like g (map_messages_like f ms) ≡ ms
    messages_back no_messages_like h = refl
    messages_back (more_messages_like s ps ms) h = λ i. more_messages_like (selector_back s h.0 i) (patterns_back ps h.1 i) (messages_back ms h.2 i)

    statements_back : (ss : StatementsLike M) → StatementsLikeNames P ss → map_statements_like g (map_statements_like f ss) ≡ ss
    statements_back no_statements_like h = refl
    statements_back (more_statements_like c p ss) h = λ i. more_statements_like c (pattern_back p h.0 i) (statements_back ss h.1 i)

-- a fact of the changed names
module _ {M N : Type 0} (P : M → Type 0) (f : M → N) (Q : N → Type 0) (there : (m : M) → P m → Q (f m)) where
  names_there : (ns : List M) → AllByRecursion P ns → AllByRecursion Q (map f ns)
  names_there [] h = tt
  names_there (n ∷ ns) h = (there n h.0, names_there ns h.1)

  keywords_there : (ks : List (KeywordLike M)) → AllByRecursion (KeywordNames P) ks → AllByRecursion (KeywordNames Q) (map (map_keyword f) ks)
  keywords_there [] h = tt
  keywords_there (this_keyword k ∷ ks) h = (tt, keywords_there ks h.1)
  keywords_there (any_keyword m ∷ ks) h = (there m.name h.0, keywords_there ks h.1)

  selector_there : (s : SelectorLike M) → SelectorNames P s → SelectorNames Q (map_selector f s)
  selector_there (this_selector n) h = there n h
  selector_there (any_unary m) h = there m.name h
  selector_there (of_keywords ks) h = keywords_there ks h
  selector_there (any_message m) h = there m.name h

  mutual
    pub pattern_there : (p : PatternOf M) → PatternNames P p → PatternNames Q (map_pattern f p)
    pattern_there (meta m) h = there m.name h
    pattern_there (var_like n) h = there n h
    pattern_there (literal_like l) h = AllNames-map_names Q f (literal l) (AllNames-implies P (λ m. Q (f m)) there (literal l) h)
    pattern_there (send_like r s ps) h = (pattern_there r h.0, selector_there s h.1, patterns_there ps h.2)
    pattern_there (cascade_like r ms) h = (pattern_there r h.0, messages_there ms h.1)
    pattern_there (assign_like n p) h = (there n h.0, pattern_there p h.1)
    pattern_there (block_like ps ts ss e) h = (names_there ps h.0, names_there ts h.1, statements_there ss h.2)
    pattern_there (brace_like ps) h = patterns_there ps h
    pattern_there (return_like p) h = pattern_there p h

    patterns_there : (ps : PatternsOf M) → PatternsNames P ps → PatternsNames Q (map_patterns f ps)
    patterns_there no_patterns h = tt
    patterns_there (more_patterns p ps) h = (pattern_there p h.0, patterns_there ps h.1)

    messages_there : (ms : MessagesLike M) → MessagesLikeNames P ms → MessagesLikeNames Q (map_messages_like f ms)
    messages_there no_messages_like h = tt
    messages_there (more_messages_like s ps ms) h = (selector_there s h.0, patterns_there ps h.1, messages_there ms h.2)

    statements_there : (ss : StatementsLike M) → StatementsLikeNames P ss → StatementsLikeNames Q (map_statements_like f ss)
    statements_there no_statements_like h = tt
    statements_there (more_statements_like c p ss) h = (pattern_there p h.0, statements_there ss h.1)
