-- The digits of a numeral, which may stand behind a base.
use Rattle.std.proofs.Common.{◌≡◌, ◌∙◌, sym, ap, refl, ℕ, zero, suc, ◌+◌, Bool, true, false, not, cond, List, [], ◌∷◌, length, drop, arith}
use Rattle.std.specs.Prelude.{◌||◌}
use Rattle.std.specs.List.{list_any, prefix_len, before_first}
use Rattle.std.proofs.lemmas.List.Folds.{length-prefix_len}
use Rattle.run_model.specs.Numbers.{is_radix_mark}
use Rattle.file_model.specs.Numerals.{digits_of}

-- what stands behind one more element
drop_next : (n : ℕ) (xs : List ℕ) (x : ℕ) (rest : List ℕ) → drop n xs ≡ x ∷ rest → drop (suc n) xs ≡ rest
drop_next zero [] x rest e = absurd (cc)
drop_next zero (y ∷ ys) x rest e = cc
drop_next (suc n) [] x rest e = absurd (cc)
drop_next (suc n) (y ∷ ys) x rest e = drop_next n ys x rest e

-- a mark stands in a text where something stands behind those before the first mark
found : (p : ℕ → Bool) (xs : List ℕ) (x : ℕ) (rest : List ℕ) → drop (prefix_len (λ b. not (p b)) xs) xs ≡ x ∷ rest → list_any p xs ≡ true
found p [] x rest e = absurd (cc)
found p (y ∷ ys) x rest e = by (p y) e (found p ys x rest)
  where
    by : (b : Bool) → drop (cond (not b) (1 + prefix_len (λ c. not (p c)) ys) 0) (y ∷ ys) ≡ x ∷ rest
        → (drop (prefix_len (λ c. not (p c)) ys) ys ≡ x ∷ rest → list_any p ys ≡ true) → (b || list_any p ys) ≡ true
    by true h more = refl
    by false h more =
        let next : suc (prefix_len (λ c. not (p c)) ys) ≡ 1 + prefix_len (λ c. not (p c)) ys = omega arith in
        more (ap (λ k. drop k (y ∷ ys)) next ∙ h)

-- no mark stands in a text where nothing stands behind those before the first mark
missing : (p : ℕ → Bool) (xs : List ℕ) → drop (prefix_len (λ b. not (p b)) xs) xs ≡ [] → list_any p xs ≡ false
missing p [] e = refl
missing p (y ∷ ys) e = by (p y) e (missing p ys)
  where
    by : (b : Bool) → drop (cond (not b) (1 + prefix_len (λ c. not (p c)) ys) 0) (y ∷ ys) ≡ []
        → (drop (prefix_len (λ c. not (p c)) ys) ys ≡ [] → list_any p ys ≡ false) → (b || list_any p ys) ≡ false
    by true h more = absurd (cc)
    by false h more =
        let next : suc (prefix_len (λ c. not (p c)) ys) ≡ 1 + prefix_len (λ c. not (p c)) ys = omega arith in
        more (ap (λ k. drop k (y ∷ ys)) next ∙ h)

-- the digits of a numeral with a base
pub with_base : (xs behind rest : List ℕ) (n x : ℕ) → n ≡ prefix_len (λ b. not (is_radix_mark b)) xs → behind ≡ drop n xs → behind ≡ x ∷ rest → rest ≡ digits_of xs
with_base xs behind rest n x len back cut =
    let at : drop (prefix_len (λ b. not (is_radix_mark b)) xs) xs ≡ x ∷ rest = ap (λ k. drop k xs) (sym len) ∙ sym back ∙ cut in
    sym (ap (λ b. cond b (drop (suc (length (before_first is_radix_mark xs))) xs) xs) (found is_radix_mark xs x rest at)
    ∙ ap (λ k. drop (suc k) xs) (length-prefix_len (λ b. not (is_radix_mark b)) xs)
    ∙ drop_next (prefix_len (λ b. not (is_radix_mark b)) xs) xs x rest at)

-- the digits of a numeral without a base
pub without_base : (xs behind : List ℕ) (n : ℕ) → n ≡ prefix_len (λ b. not (is_radix_mark b)) xs → behind ≡ drop n xs → behind ≡ [] → xs ≡ digits_of xs
without_base xs behind n len back cut =
    let at : drop (prefix_len (λ b. not (is_radix_mark b)) xs) xs ≡ [] = ap (λ k. drop k xs) (sym len) ∙ sym back ∙ cut in
    sym (ap (λ b. cond b (drop (suc (length (before_first is_radix_mark xs))) xs) xs) (missing is_radix_mark xs at))
