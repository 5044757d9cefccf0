-- Numbers of a table without repeats stand for their texts: a match over numbers is the match over texts.
use Rattle.std.proofs.Common.{◌≡◌, ℕ, zero, suc, ◌+◌, ◌<◌, ◌≤◌, Bool, true, false, List, [], ◌∷◌, length, get_or, map, refl, sym, ap, ◌∙◌, inl, inr, arith, Some, None, ◌⊎◌}
use Rattle.std.specs.Prelude.{Option, option_map, nat_eq}
use Rattle.std.specs.List.{position_or_len}
use Rattle.std.proofs.Math.ListN.{get_or-eq_default}
use Rattle.std.proofs.lemmas.Bool.{cases_Bool}
use Rattle.std.proofs.lemmas.Option.{slice_get-get_or, unwrap_or-slice_get}
use Rattle.rb_base.specs.Names.{text_eq, name_at, HasNoTwice}
use Rattle.rb_base.proofs.NamesLemmas.{text_eq-refl}
use Rattle.tree_model.specs.Tree.{TreeOf, SequenceOf, map_names, map_trees, map_statements, map_sequence}
use Rattle.tree_model.specs.AllNames.{AllNames, SequenceNames}
use Rattle.tree_model.proofs.AllNamesLemmas.{map_names-same, map_sequence-same, AllNames-implies, SequenceNames-implies}
use Rattle.tree_model.proofs.MapNames.{map_names-id, map_sequence-id, map_names-map_names, map_trees-map_trees, map_statements-map_statements}
use Rattle.scope_model.specs.SpecialNames.{is_pseudo_variable, control_form}
use Rattle.text_model.specs.Literals.{is_identifier}
use Rattle.same_trees.proofs.Told.{text_told}
use Rattle.pattern_model.specs.Patterns.{PatternOf}
use Rattle.pattern_model.specs.Bindings.{BoundOf, a_part, a_run, a_selector, a_keyword, a_message, BindingOf}
use Rattle.pattern_model.specs.Words.{text_keywords, text_pattern_words}
use Rattle.pattern_model.specs.MatchTree.{match_tree}
use Rattle.pattern_model.specs.Search.{all_matches}
use Rattle.pattern_model.specs.Named.{map_pattern, map_bound, map_binding, asked_through}
use Rattle.pattern_laws.proofs.MatchMapped.{match_mapped, search_mapped}
use Rattle.patterns.specs.Names.{PatternNames}
use Rattle.patterns.proofs.NamesSame.{pattern_stays}
use Rattle.pattern_match.specs.Words.{number_words}
use Rattle.pattern_match.proofs.Told.{one_test, number_refl, number_told}

module _ {X : Type 0} (p : X → Bool) where
  -- the first item that passes does
  passes : (xs : List X) (d : X) → position_or_len p xs < length xs → p (get_or xs (position_or_len p xs) d) ≡ true
  passes [] d h = absurd (omega arith)
  passes (x ∷ xs) d h = elim (cases_Bool (p x)) [ inl t ↦ rw t t | inr f ↦ rw f (ap (λ n. p (get_or (x ∷ xs) n d)) one ∙ passes xs d (omega (arith, within f))) ]
    where
      one : 1 + position_or_len p xs ≡ suc (position_or_len p xs)
      one = omega arith

      within : p x ≡ false → 1 + position_or_len p xs < length (x ∷ xs)
      within f = let e : position_or_len p (x ∷ xs) ≡ 1 + position_or_len p xs = rw f refl in omega (arith, e, h)

  -- and none before it
  before : (xs : List X) (i : ℕ) (d : X) → i < length xs → p (get_or xs i d) ≡ true → position_or_len p xs ≤ i
  before [] i d h t = absurd (omega arith)
  before (x ∷ xs) zero d h t = rw t (omega arith)
  before (x ∷ xs) (suc i) d h t =
      let rest : position_or_len p xs ≤ i = before xs i d (omega arith) t in
      elim (cases_Bool (p x)) [ inl u ↦ rw u (omega arith) | inr f ↦ rw f (omega (arith, rest)) ]

below_or : (m n : ℕ) → (m < n) ⊎ (n ≤ m)
below_or m zero = inr (omega arith)
below_or zero (suc n) = inl (omega arith)
below_or (suc m) (suc n) = by (below_or m n)
  where
    by : (m < n) ⊎ (n ≤ m) → (suc m < suc n) ⊎ (suc n ≤ suc m)
    by (inl h) = inl (omega (arith, h))
    by (inr h) = inr (omega (arith, h))

module _ (names : List (List ℕ)) where
  abbrev text : ℕ → List ℕ
  text n = name_at names n

  -- the first number of a text
  abbrev settled : ℕ → ℕ
  settled n = position_or_len (text_eq (name_at names n)) names

  text_get : (n : ℕ) → name_at names n ≡ get_or names n []
  text_get n = unwrap_or-slice_get names n []

  settled_text : (n : ℕ) → name_at names (settled n) ≡ name_at names n
  settled_text n = by (below_or (settled n) (length names))
    where
      by : (settled n < length names) ⊎ (length names ≤ settled n) → name_at names (settled n) ≡ name_at names n
      by (inl h) = text_get (settled n) ∙ sym (text_told (name_at names n) (get_or names (settled n) []) (passes (text_eq (name_at names n)) names [] h))
      by (inr h) = text_get (settled n) ∙ get_or-eq_default names [] h ∙ of (below_or n (length names))
        where
          of : (n < length names) ⊎ (length names ≤ n) → [] ≡ name_at names n
          of (inl l) =
              let at : settled n ≤ n = before (text_eq (name_at names n)) names n [] l (ap (text_eq (name_at names n)) (sym (text_get n)) ∙ text_eq-refl (name_at names n)) in
              let bad : ⊥ = omega (arith, at, l, h) in absurd bad
          of (inr l) = sym (text_get n ∙ get_or-eq_default names [] l)

  same_answer : (m n : ℕ) → text_eq (name_at names m) (name_at names n) ≡ nat_eq (settled m) (settled n)
  same_answer m n =
      one_test (text_eq (name_at names m) (name_at names n)) (nat_eq (settled m) (settled n))
      (λ e. let same : name_at names m ≡ name_at names n = text_told (name_at names m) (name_at names n) e in
      ap (nat_eq (settled m)) (ap (λ (t : List ℕ). position_or_len (text_eq t) names) (sym same)) ∙ number_refl (settled m))
      (λ e. let same : settled m ≡ settled n = number_told (settled m) (settled n) e in
      ap (text_eq (name_at names m)) (sym (sym (settled_text m) ∙ ap (name_at names) same ∙ settled_text n)) ∙ text_eq-refl (name_at names m))

  -- what is asked of texts is asked of the first numbers
  asked : asked_through (name_at names) text_pattern_words ≡ asked_through settled (number_words names)
  asked = λ i. record {
    tests = record { same = λ m n. same_answer m n i; is_pseudo = λ n. is_pseudo_variable (sym (settled_text n) i); form = λ n. control_form (sym (settled_text n) i) };
    is_unary = λ n. is_identifier (sym (settled_text n) i);
    keywords = λ n. text_keywords (sym (settled_text n) i);
  }

  mapped_bound : (b : BoundOf ℕ) → map_bound (name_at names) (map_bound settled b) ≡ map_bound (name_at names) b
  mapped_bound (a_part t) = ap a_part (map_names-map_names (name_at names) settled t ∙ (λ i. map_names (λ n. settled_text n i) t))
  mapped_bound (a_run ss) = ap a_run (map_statements-map_statements (name_at names) settled ss ∙ (λ i. map_statements (λ n. settled_text n i) ss))
  mapped_bound (a_selector s) = ap a_selector (settled_text s)
  mapped_bound (a_keyword k) = refl
  mapped_bound (a_message s ts) = λ i. a_message (settled_text s i) ((map_trees-map_trees (name_at names) settled ts ∙ (λ j. map_trees (λ n. settled_text n j) ts)) i)

  mapped : (bs : List (BindingOf ℕ)) → map (map_binding (name_at names)) (map (map_binding settled) bs) ≡ map (map_binding (name_at names)) bs
  mapped [] = refl
  mapped (b ∷ bs) = λ i. record { meta = record { kind = b.meta.kind; name = settled_text b.meta.name i; doubled = b.meta.doubled }; bound = mapped_bound b.bound i } ∷ mapped bs i

  maybe_mapped : (o : Option (List (BindingOf ℕ))) → option_map (map (map_binding (name_at names))) (option_map (map (map_binding settled)) o) ≡ option_map (map (map_binding (name_at names))) o
  maybe_mapped None = refl
  maybe_mapped (Some bs) = ap (λ (cs : List (BindingOf (List ℕ))). Some cs) (mapped bs)

  module _ (distinct : HasNoTwice names) where
    settles : (n : ℕ) → n < length names → settled n ≡ n
    settles n h =
        let at : settled n ≤ n = before (text_eq (name_at names n)) names n [] h (ap (text_eq (name_at names n)) (sym (text_get n)) ∙ text_eq-refl (name_at names n)) in
        let within : settled n < length names = omega (arith, at, h) in
        distinct (settled n) n within
        (slice_get-get_or names (settled n) [] within ∙ ap (λ (t : List ℕ). Some t) (sym (text_get (settled n)) ∙ settled_text n ∙ text_get n) ∙ sym (slice_get-get_or names n [] h))

    module _ (p : PatternOf ℕ) (known : PatternNames (λ n. n < length names) p) where
      pattern_settles : map_pattern settled p ≡ p
      pattern_settles = pattern_stays (λ n. n < length names) settled settles p known

      pub match_texts : (t : TreeOf ℕ) → AllNames (λ n. n < length names) t
          → match_tree text_pattern_words (map_pattern (name_at names) p) (map_names (name_at names) t) ≡ option_map (map (map_binding (name_at names))) (match_tree (number_words names) p t)
      match_texts t named =
          let tree : map_names settled t ≡ t = map_names-same settled (λ n. n) t (AllNames-implies (λ n. n < length names) (λ n. settled n ≡ n) settles t named) ∙ map_names-id t in
          let there : match_tree (number_words names) p t ≡ option_map (map (map_binding settled)) (match_tree (asked_through settled (number_words names)) p t) =
          (λ i. match_tree (number_words names) (sym pattern_settles i) (sym tree i)) ∙ match_mapped settled (number_words names) p t in
          match_mapped (name_at names) text_pattern_words p t
          ∙ (λ i. option_map (map (map_binding (name_at names))) (match_tree (asked i) p t))
          ∙ sym (maybe_mapped (match_tree (asked_through settled (number_words names)) p t))
          ∙ ap (option_map (map (map_binding (name_at names)))) (sym there)

      pub search_texts : (b : SequenceOf ℕ) → SequenceNames (λ n. n < length names) b
          → all_matches text_pattern_words (map_pattern (name_at names) p) (map_sequence (name_at names) b) ≡ all_matches (number_words names) p b
      search_texts b named =
          let code : map_sequence settled b ≡ b = map_sequence-same settled (λ n. n) b (SequenceNames-implies (λ n. n < length names) (λ n. settled n ≡ n) settles b named) ∙ map_sequence-id b in
          search_mapped (name_at names) text_pattern_words p b
          ∙ (λ i. all_matches (asked i) p b)
          ∙ sym (search_mapped settled (number_words names) p b)
          ∙ (λ i. all_matches (number_words names) (pattern_settles i) (code i))
