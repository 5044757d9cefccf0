-- A rule of lawful patterns is lawful exactly where it has neither fault.
use Rattle.std.proofs.Common.{◌≡◌, ℕ, Bool, true, false, not, ◌&&◌, ◌||◌, List, [], ◌∷◌, map, Option, Some, None, refl, sym, ap, ◌∙◌, inl, inr}
use Rattle.std.specs.Prelude.{◌↔◌, filter}
use Rattle.std.specs.List.{list_any, list_all}
use Rattle.std.specs.Option.{is_none}
use Rattle.std.proofs.lemmas.Bool.{cases_Bool}
use Rattle.pattern_model.specs.Patterns.{MetaOf, PatternOf, metas}
use Rattle.pattern_model.specs.Bindings.{same_meta}
use Rattle.pattern_model.specs.Matches.{IsLawful}
use Rattle.pattern_model.specs.Rewritten.{IsLawfulRule, are_apart}
use Rattle.pattern_trees.specs.Faults.{MetaAt, at_places, is_among, is_doubled_among, first_unknown, first_again, unbound_in_replacement, twice_doubled}
use Rattle.pattern_trees.proofs.Bytes.{and_false}

-- tests that are joined
and_swap : (a b c : Bool) → ((a && b) && c) ≡ (b && (a && c))
and_swap true b c = refl
and_swap false true c = refl
and_swap false false c = refl

-- neither test passes on any item exactly where the one passes on none, and so does the other
neither : {X : Type 0} (p q : X → Bool) (xs : List X) → list_all (λ x. not (p x || q x)) xs ≡ (not (list_any p xs) && list_all (λ x. not (q x)) xs)
neither p q [] = refl
neither p q (x ∷ xs) = by (p x) (q x) (neither p q xs)
  where
    by : (a b : Bool) → list_all (λ x. not (p x || q x)) xs ≡ (not (list_any p xs) && list_all (λ x. not (q x)) xs)
        → (not (a || b) && list_all (λ x. not (p x || q x)) xs) ≡ (not (a || list_any p xs) && (not b && list_all (λ x. not (q x)) xs))
    by true b h = refl
    by false true h = sym (and_false (not (list_any p xs)))
    by false false h = h

-- nothing stands before the first item
none_before : {X : Type 0} (xs : List X) → list_all (λ x. not false) xs ≡ true
none_before [] = refl
none_before (x ∷ xs) = none_before xs

-- the metavariables without their places
abbrev pub bare_metas : {N : Type 0} → List (MetaAt N) → List (MetaOf N)
bare_metas xs = map (λ x. x.meta) xs

metas_at : {N : Type 0} (ms : List (MetaOf N)) (fs : List ℕ) → bare_metas (at_places ms fs) ≡ ms
metas_at [] fs = refl
metas_at (m ∷ ms) [] = ap (λ ns. m ∷ ns) (metas_at ms [])
metas_at (m ∷ ms) (f ∷ fs) = ap (λ ns. m ∷ ns) (metas_at ms fs)

chosen : {N : Type 0} (p : MetaOf N → Bool) (xs : List (MetaAt N)) → bare_metas (filter (λ x. p x.meta) xs) ≡ filter p (bare_metas xs)
chosen p [] = refl
chosen p (x ∷ xs) = elim (cases_Bool (p x.meta)) [ inl h ↦ rw h (ap (λ ns. x.meta ∷ ns) (chosen p xs)) | inr h ↦ rw h (chosen p xs) ]

module _ {N : Type 0} (same : N → N → Bool) where
  -- none is unknown
  known_all : (ms : List (MetaOf N)) (xs : List (MetaAt N)) → is_none (first_unknown same ms xs) ≡ list_all (is_among same ms) (bare_metas xs)
  known_all ms [] = refl
  known_all ms (x ∷ xs) = elim (cases_Bool (is_among same ms x.meta)) [ inl h ↦ rw h (known_all ms xs) | inr h ↦ rw h refl ]

  -- none stands behind the same one
  apart_all : (before : List (MetaOf N)) (xs : List (MetaAt N)) → is_none (first_again same before xs) ≡ (list_all (λ n. not (list_any (λ m. same_meta same m n) before)) (bare_metas xs) && are_apart same (bare_metas xs))
  apart_all before [] = refl
  apart_all before (x ∷ xs) =
      elim (cases_Bool (list_any (λ m. same_meta same m x.meta) before)) [
        | inl h ↦ rw h refl
        | inr h ↦
            rw h (apart_all (x.meta ∷ before) xs
            ∙ ap (λ b. b && are_apart same (bare_metas xs)) (neither (same_meta same x.meta) (λ n. list_any (λ m. same_meta same m n) before) (bare_metas xs))
            ∙ and_swap (not (list_any (same_meta same x.meta) (bare_metas xs))) (list_all (λ n. not (list_any (λ m. same_meta same m n) before)) (bare_metas xs)) (are_apart same (bare_metas xs)))
      ]

  -- the tests of a rule
  bound_test : (p q : PatternOf N) (fs : List ℕ) → is_none (unbound_in_replacement same p q fs) ≡ list_all (is_among same (metas p)) (metas q)
  bound_test p q fs = known_all (metas p) (at_places (metas q) fs) ∙ ap (list_all (is_among same (metas p))) (metas_at (metas q) fs)

  once_test : (p q : PatternOf N) (fs : List ℕ) → is_none (twice_doubled same p q fs) ≡ are_apart same (filter (is_doubled_among same (metas p)) (metas q))
  once_test p q fs =
      apart_all [] (filter (λ x. is_doubled_among same (metas p) x.meta) (at_places (metas q) fs))
      ∙ ap (λ b. b && are_apart same (bare_metas (filter (λ x. is_doubled_among same (metas p) x.meta) (at_places (metas q) fs)))) (none_before (bare_metas (filter (λ x. is_doubled_among same (metas p) x.meta) (at_places (metas q) fs))))
      ∙ ap (are_apart same) (chosen (is_doubled_among same (metas p)) (at_places (metas q) fs) ∙ ap (filter (is_doubled_among same (metas p))) (metas_at (metas q) fs))

  passes : (o : Option ℕ) (b : Bool) → is_none o ≡ b → o ≡ None → b ≡ true
  passes o b e h = sym e ∙ ap (λ (p : Option ℕ). is_none p) h

  is_clear : (o : Option ℕ) (b : Bool) → is_none o ≡ b → b ≡ true → o ≡ None
  is_clear None b e h = refl
  is_clear (Some n) b e h = let bad : false ≡ true = e ∙ h in let worse : ⊥ = cc in absurd worse

  pub rule_faults : (p q : PatternOf N) (fs : List ℕ) → IsLawful p → IsLawful q → ((unbound_in_replacement same p q fs ≡ None) × (twice_doubled same p q fs ≡ None)) ↔ IsLawfulRule same (record { pattern = p; replacement = q })
  rule_faults p q fs h g = (
    λ none. record { pattern = h; replacement = g; bound = passes (unbound_in_replacement same p q fs) _ (bound_test p q fs) none.0; once = passes (twice_doubled same p q fs) _ (once_test p q fs) none.1 },
    λ rule. (is_clear (unbound_in_replacement same p q fs) _ (bound_test p q fs) rule.bound, is_clear (twice_doubled same p q fs) _ (once_test p q fs) rule.once),
  )
