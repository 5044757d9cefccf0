-- Faults of the metavariables of a rule are the same of numbers and of their texts, where the table of names has no text twice.
use Rattle.std.proofs.Common.{◌≡◌, ℕ, ◌<◌, ◌&&◌, ◌||◌, List, [], ◌∷◌, ◌++◌, length, map, Some, refl, sym, ap, ◌∙◌, inl, inr}
use Rattle.std.specs.Prelude.{nat_eq, filter, slice_get, if◌then◌else◌}
use Rattle.std.specs.List.{AllByRecursion, list_any}
use Rattle.std.proofs.lemmas.Bool.{cases_Bool}
use Rattle.std.proofs.lemmas.List.{map-append}
use Rattle.std.proofs.lemmas.Option.{slice_get-get_or, unwrap_or-slice_get}
use Rattle.rb_base.specs.Names.{text_eq, name_at, HasNoTwice}
use Rattle.rb_base.proofs.NamesLemmas.{text_eq-refl}
use Rattle.same_trees.proofs.Told.{text_told}
use Rattle.grammar_model.specs.Terminal.{Text}
use Rattle.pattern_model.specs.Patterns.{MetaOf, KeywordLike, this_keyword, any_keyword, SelectorLike, this_selector, any_unary, of_keywords, any_message, PatternOf, meta, var_like, literal_like, send_like, cascade_like, assign_like, block_like, brace_like, return_like, PatternsOf, no_patterns, more_patterns, MessagesLike, no_messages_like, more_messages_like, StatementsLike, no_statements_like, more_statements_like, keyword_metas, message_metas, metas, trees_metas, metas_in_turn, messages_metas, statements_metas}
use Rattle.pattern_model.specs.Named.{map_meta, map_keyword, map_selector, map_pattern, map_patterns, map_messages_like, map_statements_like}
use Rattle.pattern_model.specs.Bindings.{kind_number, same_meta}
use Rattle.pattern_laws.proofs.SameMetas.{all_kept}
use Rattle.patterns.specs.Names.{KeywordNames, SelectorNames, PatternNames, PatternsNames, MessagesLikeNames, StatementsLikeNames}
use Rattle.pattern_match.proofs.Told.{one_test, number_refl, number_told}
use Rattle.pattern_trees.specs.Faults.{MetaAt, at_places, is_among, is_doubled_among, first_unknown, first_again, unbound_in_replacement, twice_doubled}

all_append : {X : Type 0} (P : X → Type 0) (xs ys : List X) → AllByRecursion P xs → AllByRecursion P ys → AllByRecursion P (xs ++ ys)
all_append P [] ys h g = g
all_append P (x ∷ xs) ys h g = (h.0, all_append P xs ys h.1 g)

-- the metavariables of a pattern have the names of the pattern
module _ {N : Type 0} (P : N → Type 0) where
  abbrev Known : MetaOf N → Type 0
  Known m = P m.name

  keyword_known : (k : KeywordLike N) → KeywordNames P k → AllByRecursion Known (keyword_metas k)
  keyword_known (this_keyword k) h = tt
  keyword_known (any_keyword m) h = (h, tt)

  message_known : (s : SelectorLike N) (ms : List (MetaOf N)) (in_turn : List (KeywordLike N) → List (MetaOf N)) → SelectorNames P s → AllByRecursion Known ms
      → ((ks : List (KeywordLike N)) → AllByRecursion (KeywordNames P) ks → AllByRecursion Known (in_turn ks)) → AllByRecursion Known (message_metas s ms in_turn)
  message_known (this_selector n) ms in_turn h g t = g
  message_known (any_unary m) ms in_turn h g t = (h, g)
  message_known (of_keywords ks) ms in_turn h g t = t ks h
  message_known (any_message m) ms in_turn h g t = (h, tt)

  mutual
    metas_known : (p : PatternOf N) → PatternNames P p → AllByRecursion Known (metas p)
    metas_known (meta m) h = (h, tt)
    metas_known (var_like n) h = tt
    metas_known (literal_like l) h = tt
    metas_known (send_like r s ps) h = all_append Known (metas r) _ (metas_known r h.0) (message_known s (trees_metas ps) (metas_in_turn ps) h.1 (trees_known ps h.2) (λ ks g. turn_known ps ks h.2 g))
    metas_known (cascade_like r ms) h = all_append Known (metas r) (messages_metas ms) (metas_known r h.0) (messages_known ms h.1)
    metas_known (assign_like n p) h = metas_known p h.1
    metas_known (block_like ps ts ss e) h = statements_known ss h.2
    metas_known (brace_like ps) h = trees_known ps h
    metas_known (return_like p) h = metas_known p h

    trees_known : (ps : PatternsOf N) → PatternsNames P ps → AllByRecursion Known (trees_metas ps)
    trees_known no_patterns h = tt
    trees_known (more_patterns p ps) h = all_append Known (metas p) (trees_metas ps) (metas_known p h.0) (trees_known ps h.1)

    turn_known : (ps : PatternsOf N) (ks : List (KeywordLike N)) → PatternsNames P ps → AllByRecursion (KeywordNames P) ks → AllByRecursion Known (metas_in_turn ps ks)
    turn_known no_patterns ks h g = tt
    turn_known (more_patterns p ps) [] h g = tt
    turn_known (more_patterns p ps) (k ∷ ks) h g = all_append Known (keyword_metas k) _ (keyword_known k g.0) (all_append Known (metas p) (metas_in_turn ps ks) (metas_known p h.0) (turn_known ps ks h.1 g.1))

    messages_known : (ms : MessagesLike N) → MessagesLikeNames P ms → AllByRecursion Known (messages_metas ms)
    messages_known no_messages_like h = tt
    messages_known (more_messages_like s ps ms) h =
        all_append Known (message_metas s (trees_metas ps) (metas_in_turn ps)) (messages_metas ms) (message_known s (trees_metas ps) (metas_in_turn ps) h.0 (trees_known ps h.1) (λ ks g. turn_known ps ks h.1 g)) (messages_known ms h.2)

    statements_known : (ss : StatementsLike N) → StatementsLikeNames P ss → AllByRecursion Known (statements_metas ss)
    statements_known no_statements_like h = tt
    statements_known (more_statements_like c p ss) h = all_append Known (metas p) (statements_metas ss) (metas_known p h.0) (statements_known ss h.1)

-- with each name changed
module _ {M N : Type 0} (f : M → N) where
  abbrev all_mapped : List (MetaOf M) → List (MetaOf N)
  all_mapped ms = map (map_meta f) ms

  keyword_mapped : (k : KeywordLike M) → keyword_metas (map_keyword f k) ≡ all_mapped (keyword_metas k)
  keyword_mapped (this_keyword k) = refl
  keyword_mapped (any_keyword m) = refl

  message_mapped : (s : SelectorLike M) (ms : List (MetaOf M)) (ns : List (MetaOf N)) (turn : List (KeywordLike M) → List (MetaOf M)) (mapped_turn : List (KeywordLike N) → List (MetaOf N)) → ns ≡ all_mapped ms
      → ((ks : List (KeywordLike M)) → mapped_turn (map (map_keyword f) ks) ≡ all_mapped (turn ks)) → message_metas (map_selector f s) ns mapped_turn ≡ all_mapped (message_metas s ms turn)
  message_mapped (this_selector n) ms ns turn mapped_turn h t = h
  message_mapped (any_unary m) ms ns turn mapped_turn h t = ap (λ xs. map_meta f m ∷ xs) h
  message_mapped (of_keywords ks) ms ns turn mapped_turn h t = t ks
  message_mapped (any_message m) ms ns turn mapped_turn h t = refl

  both_mapped : (ms ns : List (MetaOf N)) (xs ys : List (MetaOf M)) → ms ≡ all_mapped xs → ns ≡ all_mapped ys → ms ++ ns ≡ all_mapped (xs ++ ys)
  both_mapped ms ns xs ys h g = (λ i. h i ++ g i) ∙ sym (map-append (map_meta f) xs ys)

  mutual
    metas_mapped : (p : PatternOf M) → metas (map_pattern f p) ≡ all_mapped (metas p)
    metas_mapped (meta m) = refl
    metas_mapped (var_like n) = refl
    metas_mapped (literal_like l) = refl
    metas_mapped (send_like r s ps) = both_mapped _ _ (metas r) (message_metas s (trees_metas ps) (metas_in_turn ps)) (metas_mapped r) (message_mapped s (trees_metas ps) _ (metas_in_turn ps) _ (trees_mapped ps) (λ ks. turn_mapped ps ks))
    metas_mapped (cascade_like r ms) = both_mapped _ _ (metas r) (messages_metas ms) (metas_mapped r) (messages_mapped ms)
    metas_mapped (assign_like n p) = metas_mapped p
    metas_mapped (block_like ps ts ss e) = statements_mapped ss
    metas_mapped (brace_like ps) = trees_mapped ps
    metas_mapped (return_like p) = metas_mapped p

    trees_mapped : (ps : PatternsOf M) → trees_metas (map_patterns f ps) ≡ all_mapped (trees_metas ps)
    trees_mapped no_patterns = refl
    trees_mapped (more_patterns p ps) = both_mapped _ _ (metas p) (trees_metas ps) (metas_mapped p) (trees_mapped ps)

    turn_mapped : (ps : PatternsOf M) (ks : List (KeywordLike M)) → metas_in_turn (map_patterns f ps) (map (map_keyword f) ks) ≡ all_mapped (metas_in_turn ps ks)
    turn_mapped no_patterns ks = refl
    turn_mapped (more_patterns p ps) [] = refl
    turn_mapped (more_patterns p ps) (k ∷ ks) = both_mapped _ _ (keyword_metas k) (metas p ++ metas_in_turn ps ks) (keyword_mapped k) (both_mapped _ _ (metas p) (metas_in_turn ps ks) (metas_mapped p) (turn_mapped ps ks))

    messages_mapped : (ms : MessagesLike M) → messages_metas (map_messages_like f ms) ≡ all_mapped (messages_metas ms)
    messages_mapped no_messages_like = refl
    messages_mapped (more_messages_like s ps ms) =
        both_mapped _ _ (message_metas s (trees_metas ps) (metas_in_turn ps)) (messages_metas ms) (message_mapped s (trees_metas ps) _ (metas_in_turn ps) _ (trees_mapped ps) (λ ks. turn_mapped ps ks)) (messages_mapped ms)

    statements_mapped : (ss : StatementsLike M) → statements_metas (map_statements_like f ss) ≡ all_mapped (statements_metas ss)
    statements_mapped no_statements_like = refl
    statements_mapped (more_statements_like c p ss) = both_mapped _ _ (metas p) (statements_metas ss) (metas_mapped p) (statements_mapped ss)

  -- metavariables with their places
  abbrev place_mapped : MetaAt M → MetaAt N
  place_mapped x = record { meta = map_meta f x.meta; from = x.from }

  places_mapped : (ms : List (MetaOf M)) (fs : List ℕ) → at_places (all_mapped ms) fs ≡ map place_mapped (at_places ms fs)
  places_mapped [] fs = refl
  places_mapped (m ∷ ms) [] = ap (λ xs. record { meta = map_meta f m; from = 0 } ∷ xs) (places_mapped ms [])
  places_mapped (m ∷ ms) (n ∷ fs) = ap (λ xs. record { meta = map_meta f m; from = n } ∷ xs) (places_mapped ms fs)

module _ (names : List Text) (distinct : HasNoTwice names) where
  abbrev text : ℕ → Text
  text n = name_at names n

  abbrev IsKnown : MetaOf ℕ → Type 0
  IsKnown m = m.name < length names

  abbrev AreKnown : List (MetaOf ℕ) → Type 0
  AreKnown ms = AllByRecursion IsKnown ms

  abbrev texts : List (MetaOf ℕ) → List (MetaOf Text)
  texts ms = map (map_meta text) ms

  -- numbers of the table are told apart by their texts
  same_number : (m n : ℕ) → m < length names → n < length names → text_eq (text m) (text n) ≡ nat_eq m n
  same_number m n h g =
      one_test (text_eq (text m) (text n)) (nat_eq m n)
      (λ e. let same : text m ≡ text n = text_told (text m) (text n) e in
      let equal : m ≡ n = distinct m n h (there m h ∙ ap (λ (t : Text). Some t) same ∙ sym (there n g)) in
      ap (nat_eq m) (sym equal) ∙ number_refl m)
      (λ e. ap (λ k. text_eq (text m) (text k)) (sym (number_told m n e)) ∙ text_eq-refl (text m))
    where
      there : (k : ℕ) → k < length names → slice_get names k ≡ Some (text k)
      there k h = slice_get-get_or names k [] h ∙ ap (λ (t : Text). Some t) (sym (unwrap_or-slice_get names k []))

  same_known : (m n : MetaOf ℕ) → IsKnown m → IsKnown n → same_meta text_eq (map_meta text m) (map_meta text n) ≡ same_meta nat_eq m n
  same_known m n h g = ap (λ b. nat_eq (kind_number m.kind) (kind_number n.kind) && b) (same_number m.name n.name h g)

  among_known : (ms : List (MetaOf ℕ)) (m : MetaOf ℕ) → AreKnown ms → IsKnown m → is_among text_eq (texts ms) (map_meta text m) ≡ is_among nat_eq ms m
  among_known [] m h g = refl
  among_known (n ∷ ms) m h g = λ i. same_known m n g h.0 i || among_known ms m h.1 g i

  doubled_known : (ms : List (MetaOf ℕ)) (m : MetaOf ℕ) → AreKnown ms → IsKnown m → is_doubled_among text_eq (texts ms) (map_meta text m) ≡ is_doubled_among nat_eq ms m
  doubled_known [] m h g = refl
  doubled_known (n ∷ ms) m h g = λ i. (same_known m n g h.0 i && n.doubled) || doubled_known ms m h.1 g i

  before_known : (ms : List (MetaOf ℕ)) (m : MetaOf ℕ) → AreKnown ms → IsKnown m → list_any (λ n. same_meta text_eq n (map_meta text m)) (texts ms) ≡ list_any (λ n. same_meta nat_eq n m) ms
  before_known [] m h g = refl
  before_known (n ∷ ms) m h g = λ i. same_known n m h.0 g i || before_known ms m h.1 g i

  abbrev ArePlaced : List (MetaAt ℕ) → Type 0
  ArePlaced xs = AllByRecursion (λ x. IsKnown x.meta) xs

  placed_known : (ms : List (MetaOf ℕ)) (fs : List ℕ) → AreKnown ms → ArePlaced (at_places ms fs)
  placed_known [] fs h = tt
  placed_known (m ∷ ms) [] h = (h.0, placed_known ms [] h.1)
  placed_known (m ∷ ms) (f ∷ fs) h = (h.0, placed_known ms fs h.1)

  unknown_same : (ms : List (MetaOf ℕ)) (xs : List (MetaAt ℕ)) → AreKnown ms → ArePlaced xs → first_unknown text_eq (texts ms) (map (place_mapped text) xs) ≡ first_unknown nat_eq ms xs
  unknown_same ms [] h g = refl
  unknown_same ms (x ∷ xs) h g = λ i. if among_known ms x.meta h g.0 i then unknown_same ms xs h g.1 i else Some x.from

  again_same : (ms : List (MetaOf ℕ)) (xs : List (MetaAt ℕ)) → AreKnown ms → ArePlaced xs → first_again text_eq (texts ms) (map (place_mapped text) xs) ≡ first_again nat_eq ms xs
  again_same ms [] h g = refl
  again_same ms (x ∷ xs) h g = λ i. if before_known ms x.meta h g.0 i then Some x.from else again_same (x.meta ∷ ms) xs (g.0, h) g.1 i

  filter_same : (ms : List (MetaOf ℕ)) (xs : List (MetaAt ℕ)) → AreKnown ms → ArePlaced xs
      → filter (λ x. is_doubled_among text_eq (texts ms) x.meta) (map (place_mapped text) xs) ≡ map (place_mapped text) (filter (λ x. is_doubled_among nat_eq ms x.meta) xs)
  filter_same ms [] h g = refl
  filter_same ms (x ∷ xs) h g =
      elim (cases_Bool (is_doubled_among nat_eq ms x.meta)) [
        | inl t ↦ rw (t, doubled_known ms x.meta h g.0 ∙ t) (ap (λ ys. place_mapped text x ∷ ys) (filter_same ms xs h g.1))
        | inr f ↦ rw (f, doubled_known ms x.meta h g.0 ∙ f) (filter_same ms xs h g.1)
      ]

  module _ (p q : PatternOf ℕ) (fs : List ℕ) (h : PatternNames (λ n. n < length names) p) (g : PatternNames (λ n. n < length names) q) where
    placed_same : at_places (metas (map_pattern text q)) fs ≡ map (place_mapped text) (at_places (metas q) fs)
    placed_same = ap (λ ms. at_places ms fs) (metas_mapped text q) ∙ places_mapped text (metas q) fs

    abbrev named : ℕ → Type 0
    named n = n < length names

    pub unbound_same : unbound_in_replacement text_eq (map_pattern text p) (map_pattern text q) fs ≡ unbound_in_replacement nat_eq p q fs
    unbound_same = (λ i. first_unknown text_eq (metas_mapped text p i) (placed_same i)) ∙ unknown_same (metas p) (at_places (metas q) fs) (metas_known named p h) (placed_known (metas q) fs (metas_known named q g))

    pub twice_same : twice_doubled text_eq (map_pattern text p) (map_pattern text q) fs ≡ twice_doubled nat_eq p q fs
    twice_same =
        (λ i. first_again text_eq [] (filter (λ x. is_doubled_among text_eq (metas_mapped text p i) x.meta) (placed_same i)))
        ∙ ap (first_again text_eq []) (filter_same (metas p) (at_places (metas q) fs) (metas_known named p h) (placed_known (metas q) fs (metas_known named q g)))
        ∙ again_same [] (filter (λ x. is_doubled_among nat_eq (metas p) x.meta) (at_places (metas q) fs)) tt
        (all_kept (λ x. IsKnown x.meta) (λ x. is_doubled_among nat_eq (metas p) x.meta) (at_places (metas q) fs) (placed_known (metas q) fs (metas_known named q g)))
