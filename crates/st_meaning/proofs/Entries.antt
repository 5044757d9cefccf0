-- A list of entries with a value for a key.
use Rattle.std.proofs.Common.{◌≡◌, ℕ, zero, suc, ◌+◌, ◌<◌, ◌≤◌, Bool, true, false, cond, not, if◌then◌else◌, nat_lt, List, [], ◌∷◌, ◌++◌, length, get_or, set, Some, None, position, refl, sym, ap, ◌∙◌, subst, arith}
use Rattle.std.specs.List.{position_or_len}
use Rattle.std.proofs.lemmas.List.Quantifiers.{position-Some}
use Rattle.std.proofs.lemmas.Bool.{ltb-false}
use Rattle.run_model.specs.Values.{Value}
use Rattle.run_model.specs.Store.{with_value}

module _ {K : Type 0} (same : K → K → Bool) (k : K) (v : Value) where
  -- the entry at the first place of the key
  placed : (es : List (K × Value)) (i : ℕ) (d : K × Value) → i < length es → same k (get_or es i d).0 ≡ true → ((j : ℕ) → j < i → same k (get_or es j d).0 ≡ false) → set es i ((get_or es i d).0, v) ≡ with_value same es k v
  placed [] i d l h f = absurd (omega (arith, l))
  placed (e ∷ es) zero d l h f = sym (ap (λ b. if b then (e.0, v) ∷ es else e ∷ with_value same es k v) h)
  placed (e ∷ es) (suc i) d l h f =
      ap (λ (z : List (K × Value)). e ∷ z) (placed es i d (omega (arith, l)) h (λ j m. f (suc j) (omega (arith, m))))
      ∙ sym (ap (λ b. if b then (e.0, v) ∷ es else e ∷ with_value same es k v) (f zero (omega arith)))

  -- an entry that replaces the first one of the key
  pub replaced : (es : List (K × Value)) (i : ℕ) (e new : K × Value) → position (λ x. same k x.0) es ≡ Some i → e ≡ get_or es i e → new ≡ (e.0, v) → set es i new ≡ with_value same es k v
  replaced es i e new p q r =
      let at = position-Some (λ x. same k x.0) es i e p in
      ap (set es i) (r ∙ ap (λ (x : K × Value). (x.0, v)) q) ∙ placed es i e at.0 at.1 at.2

  absent : (es : List (K × Value)) → length es ≤ position_or_len (λ x. same k x.0) es → es ++ (k, v) ∷ [] ≡ with_value same es k v
  absent [] h = refl
  absent (e ∷ es) h = by (same k e.0) refl (absent es)
    where
      by : (b : Bool) → same k e.0 ≡ b → (length es ≤ position_or_len (λ x. same k x.0) es → es ++ (k, v) ∷ [] ≡ with_value same es k v) → e ∷ es ++ (k, v) ∷ [] ≡ with_value same (e ∷ es) k v
      by true q more =
          let g : suc (length es) ≤ cond (not true) (1 + position_or_len (λ x. same k x.0) es) 0 = subst (λ b. suc (length es) ≤ cond (not b) (1 + position_or_len (λ x. same k x.0) es) 0) q h in
          absurd (omega (arith, g))
      by false q more =
          let g : suc (length es) ≤ cond (not false) (1 + position_or_len (λ x. same k x.0) es) 0 = subst (λ b. suc (length es) ≤ cond (not b) (1 + position_or_len (λ x. same k x.0) es) 0) q h in
          ap (λ (z : List (K × Value)). e ∷ z) (more (omega (arith, g)))
          ∙ sym (ap (λ b. if b then (e.0, v) ∷ es else e ∷ with_value same es k v) q)

  -- a first entry of the key
  pub added : (es : List (K × Value)) → position (λ x. same k x.0) es ≡ None → es ++ (k, v) ∷ [] ≡ with_value same es k v
  added es p = by (nat_lt (position_or_len (λ x. same k x.0) es) (length es)) refl
    where
      by : (b : Bool) → nat_lt (position_or_len (λ x. same k x.0) es) (length es) ≡ b → es ++ (k, v) ∷ [] ≡ with_value same es k v
      by true q =
          let bad : Some (position_or_len (λ x. same k x.0) es) ≡ None = sym (ap (λ b. cond b (Some (position_or_len (λ x. same k x.0) es)) None) q) ∙ p in
          cc
      by false q = absent es (ltb-false _ _ q)
