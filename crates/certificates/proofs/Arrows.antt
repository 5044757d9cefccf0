-- The first arrow in a text.
use Rattle.std.proofs.Common.{◌≡◌, ◌⊎◌, inl, inr, ℕ, zero, suc, ◌+◌, ◌<◌, ◌≤◌, [], ◌∷◌, ◌++◌, take, drop, length, refl, sym, ap, subst, ◌∙◌, arith}
use Rattle.std.proofs.lemmas.Bool.{cases_lt}
use Rattle.certified_model.specs.Marks.{Text}
use Rattle.rule_model.specs.RuleLines.{arrow, HasArrowAt, IsCut}

joined : (k : ℕ) (t : Text) → t ≡ take k t ++ drop k t
joined zero t = refl
joined (suc k) [] = refl
joined (suc k) (b ∷ t) = ap (λ (s : Text). b ∷ s) (joined k t)

within : (n k : ℕ) (t : Text) → k < length (take n t) → k < n
within zero k t h = h
within (suc n) k [] h = omega (arith, h)
within (suc n) zero (b ∷ t) h = omega arith
within (suc n) (suc k) (b ∷ t) h = let rest = within n k t (omega (arith, h)) in omega (arith, rest)

past : (k : ℕ) (t : Text) → length t ≤ k → drop k t ≡ []
past zero [] h = refl
past zero (b ∷ t) h = absurd (omega (arith, h))
past (suc k) [] h = refl
past (suc k) (b ∷ t) h = past k t (omega (arith, h))

pub cut_here : (t before from behind : Text) (at : ℕ) → before ≡ take at t → from ≡ drop at t → from ≡ arrow ++ behind → ((k : ℕ) → k < at → HasArrowAt t k → ⊥) → IsCut t before behind
cut_here t before from behind at e f g h = record {
  parts = joined at t ∙ (λ i. sym e i ++ (sym f ∙ g) i);
  earliest = λ k l. h k (within at k t (subst (λ (s : Text). k < length s) e l));
}

pub one_further : (t from : Text) (at : ℕ) → from ≡ drop at t → ((rest : Text) → from ≡ arrow ++ rest → ⊥) → ((k : ℕ) → k < at → HasArrowAt t k → ⊥) → (k : ℕ) → k < at + 1 → HasArrowAt t k → ⊥
one_further t from at f n h k l a = by (cases_lt k at)
  where
    by : (k < at) ⊎ (at ≤ k) → ⊥
    by (inl m) = h k m a
    by (inr m) = let same : at ≡ k = omega (arith, l, m) in n a.0 (f ∙ ap (λ (j : ℕ). drop j t) same ∙ a.1)

pub none_at_all : (t : Text) (n : ℕ) → length t ≤ n → ((k : ℕ) → k < n → HasArrowAt t k → ⊥) → (k : ℕ) → HasArrowAt t k → ⊥
none_at_all t n q h k a = by (cases_lt k n)
  where
    by : (k < n) ⊎ (n ≤ k) → ⊥
    by (inl m) = h k m a
    by (inr m) = let bad : [] ≡ arrow ++ a.0 = sym (past k t (omega (arith, q, m))) ∙ a.1 in absurd (cc)
