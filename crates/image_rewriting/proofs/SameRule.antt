-- A pattern is the same over texts whatever names are added to the table.
use Rattle.std.proofs.Common.{◌≡◌, ℕ, ◌<◌, List, [], ◌∷◌, length, map, Option, unwrap_or, refl, sym, ap, ◌∙◌}
use Rattle.std.specs.List.{AllByRecursion}
use Rattle.rb_base.specs.Names.{name_at}
use Rattle.query_model.specs.Lines.{Text}
use Rattle.tree_model.specs.Tree.{LiteralOf, TreeOf, literal, map_literal}
use Rattle.tree_model.specs.AllNames.{LiteralNames}
use Rattle.tree_model.proofs.AllNamesLemmas.{map_names-same, AllNames-implies}
use Rattle.event_trees.specs.Naming.{Grows}
use Rattle.event_trees.proofs.Known.{text_stays}
use Rattle.class_table.proofs.Live.{there}
use Rattle.pattern_model.specs.Patterns.{KeywordLike, this_keyword, any_keyword, SelectorLike, this_selector, any_unary, of_keywords, any_message, PatternOf, meta, var_like, literal_like, send_like, cascade_like, assign_like, block_like, brace_like, return_like, PatternsOf, no_patterns, more_patterns, MessagesLike, no_messages_like, more_messages_like, StatementsLike, no_statements_like, more_statements_like}
use Rattle.pattern_model.specs.Named.{map_keyword, map_selector, map_pattern, map_patterns, map_messages_like, map_statements_like}
use Rattle.patterns.specs.Names.{KeywordNames, SelectorNames, PatternNames, PatternsNames, MessagesLikeNames, StatementsLikeNames}
use Rattle.patterns.specs.declared.tree.Rule.{Rule}
use Rattle.image_rewriting.specs.Changed.{rule_of, KnowsRule}
use Rattle.image_rewriting.proofs.Grown.{longer}

-- changes that agree on each name of a pattern
module _ {M N : Type 0} (P : M → Type 0) (f g : M → N) (agree : (n : M) → P n → f n ≡ g n) where
  names_same : (ns : List M) → AllByRecursion P ns → map f ns ≡ map g ns
  names_same [] h = refl
  names_same (n ∷ ns) h = λ i. agree n h.0 i ∷ names_same ns h.1 i

  abbrev literal_in : LiteralOf N → TreeOf N → LiteralOf N
  literal_in k (literal l) = l
  literal_in k t = k

  literal_same : (l : LiteralOf M) → LiteralNames P l → map_literal f l ≡ map_literal g l
  literal_same l h = ap (literal_in (map_literal f l)) (map_names-same f g (literal l) (AllNames-implies P (λ n. f n ≡ g n) agree (literal l) h))

  keyword_same : (k : KeywordLike M) → KeywordNames P k → map_keyword f k ≡ map_keyword g k
  keyword_same (this_keyword k) h = refl
  keyword_same (any_keyword m) h = λ i. any_keyword (record { kind = m.kind; name = agree m.name h i; doubled = m.doubled })

  keywords_same : (ks : List (KeywordLike M)) → AllByRecursion (KeywordNames P) ks → map (map_keyword f) ks ≡ map (map_keyword g) ks
  keywords_same [] h = refl
  keywords_same (k ∷ ks) h = λ i. keyword_same k h.0 i ∷ keywords_same ks h.1 i

  selector_same : (s : SelectorLike M) → SelectorNames P s → map_selector f s ≡ map_selector g s
  selector_same (this_selector n) h = ap this_selector (agree n h)
  selector_same (any_unary m) h = λ i. any_unary (record { kind = m.kind; name = agree m.name h i; doubled = m.doubled })
  selector_same (of_keywords ks) h = ap of_keywords (keywords_same ks h)
  selector_same (any_message m) h = λ i. any_message (record { kind = m.kind; name = agree m.name h i; doubled = m.doubled })

  mutual
    pattern_same : (p : PatternOf M) → PatternNames P p → map_pattern f p ≡ map_pattern g p
    pattern_same (meta m) h = λ i. meta (record { kind = m.kind; name = agree m.name h i; doubled = m.doubled })
    pattern_same (var_like n) h = ap var_like (agree n h)
    pattern_same (literal_like l) h = ap literal_like (literal_same l h)
    pattern_same (send_like r s ps) h = λ i. send_like (pattern_same r h.0 i) (selector_same s h.1 i) (patterns_same ps h.2 i)
    pattern_same (cascade_like r ms) h = λ i. cascade_like (pattern_same r h.0 i) (messages_same ms h.1 i)
    pattern_same (assign_like n p) h = λ i. assign_like (agree n h.0 i) (pattern_same p h.1 i)
    pattern_same (block_like ps ts ss e) h = λ i. block_like (names_same ps h.0 i) (names_same ts h.1 i) (statements_same ss h.2 i) e
    pattern_same (brace_like ps) h = ap brace_like (patterns_same ps h)
    pattern_same (return_like p) h = ap return_like (pattern_same p h)

    patterns_same : (ps : PatternsOf M) → PatternsNames P ps → map_patterns f ps ≡ map_patterns g ps
    patterns_same no_patterns h = refl
    patterns_same (more_patterns p ps) h = λ i. more_patterns (pattern_same p h.0 i) (patterns_same ps h.1 i)

    messages_same : (ms : MessagesLike M) → MessagesLikeNames P ms → map_messages_like f ms ≡ map_messages_like g ms
    messages_same no_messages_like h = refl
    messages_same (more_messages_like s ps ms) h = λ i. more_messages_like (selector_same s h.0 i) (patterns_same ps h.1 i) (messages_same ms h.2 i)

    statements_same : (ss : StatementsLike M) → StatementsLikeNames P ss → map_statements_like f ss ≡ map_statements_like g ss
    statements_same no_statements_like h = refl
    statements_same (more_statements_like c p ss) h = λ i. more_statements_like c (pattern_same p h.0 i) (statements_same ss h.1 i)

-- a fact of each name that implies another
module _ {N : Type 0} (P Q : N → Type 0) (implies : (n : N) → P n → Q n) where
  names_imply : (ns : List N) → AllByRecursion P ns → AllByRecursion Q ns
  names_imply [] h = tt
  names_imply (n ∷ ns) h = (implies n h.0, names_imply ns h.1)

  keyword_implies : (k : KeywordLike N) → KeywordNames P k → KeywordNames Q k
  keyword_implies (this_keyword k) h = tt
  keyword_implies (any_keyword m) h = implies m.name h

  keywords_imply : (ks : List (KeywordLike N)) → AllByRecursion (KeywordNames P) ks → AllByRecursion (KeywordNames Q) ks
  keywords_imply [] h = tt
  keywords_imply (k ∷ ks) h = (keyword_implies k h.0, keywords_imply ks h.1)

  selector_implies : (s : SelectorLike N) → SelectorNames P s → SelectorNames Q s
  selector_implies (this_selector n) h = implies n h
  selector_implies (any_unary m) h = implies m.name h
  selector_implies (of_keywords ks) h = keywords_imply ks h
  selector_implies (any_message m) h = implies m.name h

  mutual
    pattern_implies : (p : PatternOf N) → PatternNames P p → PatternNames Q p
    pattern_implies (meta m) h = implies m.name h
    pattern_implies (var_like n) h = implies n h
    pattern_implies (literal_like l) h = AllNames-implies P Q implies (literal l) h
    pattern_implies (send_like r s ps) h = (pattern_implies r h.0, selector_implies s h.1, patterns_imply ps h.2)
    pattern_implies (cascade_like r ms) h = (pattern_implies r h.0, messages_imply ms h.1)
    pattern_implies (assign_like n p) h = (implies n h.0, pattern_implies p h.1)
    pattern_implies (block_like ps ts ss e) h = (names_imply ps h.0, names_imply ts h.1, statements_imply ss h.2)
    pattern_implies (brace_like ps) h = patterns_imply ps h
    pattern_implies (return_like p) h = pattern_implies p h

    patterns_imply : (ps : PatternsOf N) → PatternsNames P ps → PatternsNames Q ps
    patterns_imply no_patterns h = tt
    patterns_imply (more_patterns p ps) h = (pattern_implies p h.0, patterns_imply ps h.1)

    messages_imply : (ms : MessagesLike N) → MessagesLikeNames P ms → MessagesLikeNames Q ms
    messages_imply no_messages_like h = tt
    messages_imply (more_messages_like s ps ms) h = (selector_implies s h.0, patterns_imply ps h.1, messages_imply ms h.2)

    statements_imply : (ss : StatementsLike N) → StatementsLikeNames P ss → StatementsLikeNames Q ss
    statements_imply no_statements_like h = tt
    statements_imply (more_statements_like c p ss) h = (pattern_implies p h.0, statements_imply ss h.1)

-- a name keeps its text
pub name-stays : (names later : List Text) → Grows names later → (n : ℕ) → n < length names → name_at later n ≡ name_at names n
name-stays names later grows n l =
    let w = there names n l in
    ap (λ (o : Option Text). unwrap_or o []) (text_stays n w.0 grows w.1 ∙ sym w.1)

-- so does a rule
pub same-rule : (names later : List Text) (r : Rule) → Grows names later → KnowsRule names r → rule_of later r ≡ rule_of names r
same-rule names later r grows known =
    λ i. record {
      pattern = pattern_same (λ n. n < length names) (name_at later) (name_at names) (name-stays names later grows) r.pattern known.pattern i;
      replacement = pattern_same (λ n. n < length names) (name_at later) (name_at names) (name-stays names later grows) r.replacement known.replacement i;
    }

-- its names are known still
pub still-known : (names later : List Text) (r : Rule) → Grows names later → KnowsRule names r → KnowsRule later r
still-known names later r grows known = record {
  pattern = pattern_implies (λ n. n < length names) (λ n. n < length later) (longer names later grows) r.pattern known.pattern;
  replacement = pattern_implies (λ n. n < length names) (λ n. n < length later) (longer names later grows) r.replacement known.replacement;
}
