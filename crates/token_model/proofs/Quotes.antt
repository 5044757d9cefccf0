-- Texts with a mark in pairs, cut at a place.
use Rattle.std.proofs.Common.{◌≡◌, ℕ, suc, ◌+◌, ◌-◌, ◌<◌, ◌≤◌, inl, inr, List, [], ◌∷◌, ◌++◌, length, get_or, take, drop, sym, ◌∙◌, ap, subst, arith}
use Rattle.std.specs.Prelude.{slice_range}
use Rattle.std.proofs.lemmas.List.{drop-drop}
use Rattle.std.proofs.lemmas.Bool.{cases_lt}
use Rattle.std.proofs.Math.Seq.{take-add, drop-cons}
use Rattle.rb_base.specs.Doubling.{IsPaired, Empty, Byte, Pair}

-- two paired texts joined are paired
pub IsPaired-append : (mark : ℕ) (a b : List ℕ) → IsPaired mark a → IsPaired mark b → IsPaired mark (a ++ b)
IsPaired-append mark a b Empty k = k
IsPaired-append mark a b (Byte other h) k = Byte other (IsPaired-append mark _ b h k)
IsPaired-append mark a b (Pair h) k = Pair (IsPaired-append mark _ b h k)

-- where a front and the whole are paired, so is the rest
pub IsPaired-rest : (mark : ℕ) (s a b : List ℕ) → IsPaired mark a → IsPaired mark s → s ≡ a ++ b → IsPaired mark b
IsPaired-rest mark s a b Empty k e = subst (IsPaired mark) e k
IsPaired-rest mark s a b (Byte other h) Empty e = cc
IsPaired-rest mark s a b (Byte other h) (Byte _ k) e = IsPaired-rest mark _ _ b h k cc
IsPaired-rest mark s a b (Byte other h) (Pair k) e = absurd (other cc)
IsPaired-rest mark s a b (Pair h) Empty e = cc
IsPaired-rest mark s a b (Pair h) (Byte other k) e = absurd (other cc)
IsPaired-rest mark s a b (Pair h) (Pair k) e = IsPaired-rest mark _ _ b h k cc

-- in a paired text that begins with the mark another follows
pub IsPaired-second : (mark : ℕ) (s b : List ℕ) → IsPaired mark s → s ≡ mark ∷ b → (c : List ℕ) × (b ≡ mark ∷ c)
IsPaired-second mark s b Empty e = cc
IsPaired-second mark s b (Byte other k) e = absurd (other cc)
IsPaired-second mark s b (Pair {s = c} k) e = (c, cc)

-- the bytes from i up to j, and on from there up to k
slice_split : (t : List ℕ) (i j k : ℕ) → i ≤ j → j ≤ k → slice_range t i k ≡ slice_range t i j ++ slice_range t j k
slice_split t i j k le le' =
    let sum : k - i ≡ (j - i) + (k - j) = omega arith in
    let place : i + (j - i) ≡ j = omega arith in
    ap (λ n. take n (drop i t)) sum ∙ take-add (j - i) (k - j) (drop i t) ∙ ap (λ s. take (j - i) (drop i t) ++ take (k - j) s) (drop-drop (j - i) i t ∙ ap (λ n. drop n t) place)

-- the byte at i, and what follows it
slice_first : (t : List ℕ) (i k : ℕ) → i < k → k ≤ length t → slice_range t i k ≡ get_or t i 0 ∷ slice_range t (i + 1) k
slice_first t i k lt le =
    let inside : i < length t = omega arith in
    let one : k - i ≡ suc (k - (i + 1)) = omega arith in
    let next : suc i ≡ i + 1 = omega arith in
    ap (λ s. take (k - i) s) (drop-cons t i 0 inside ∙ ap (λ n. get_or t i 0 ∷ drop n t) next) ∙ ap (λ n. take n (get_or t i 0 ∷ drop (i + 1) t)) one

-- equal lists begin alike
head_same : (a b : ℕ) (xs ys : List ℕ) → a ∷ xs ≡ b ∷ ys → a ≡ b
head_same a b xs ys e = cc

-- the empty list has no first element
nil_not_cons : (a : ℕ) (xs : List ℕ) → ([] ≡ a ∷ xs) → ⊥
nil_not_cons a xs e = cc

-- no pair is cut where both parts are paired and another byte follows
pub closes_once : (mark : ℕ) (t : List ℕ) (i n m : ℕ) → i ≤ n → n < m → m ≤ length t → IsPaired mark (slice_range t i n) → IsPaired mark (slice_range t i m) → get_or t n 0 ≡ mark → get_or t (n + 1) 0 ≡ mark
closes_once mark t i n m le lt inside a b e =
    let cut : slice_range t i m ≡ slice_range t i n ++ slice_range t n m = slice_split t i n m le (omega arith) in
    let rest = IsPaired-rest mark _ _ _ a b cut in
    let first : slice_range t n m ≡ mark ∷ slice_range t (n + 1) m = slice_first t n m lt inside ∙ ap (λ x. x ∷ slice_range t (n + 1) m) e in
    let second = IsPaired-second mark _ _ rest first in
    elim (cases_lt (n + 1) m) [
      | inl more ↦ let next = slice_first t (n + 1) m more inside in head_same _ _ _ _ (sym next ∙ second.1)
      | inr end ↦ let none : m - (n + 1) ≡ 0 = omega arith in absurd (nil_not_cons _ _ (sym (ap (λ k. take k (drop (n + 1) t)) none) ∙ second.1))
    ]
