-- Texts in which a mark stands in pairs, and texts with each mark written twice.
use Rattle.std.proofs.Common.{◌≡◌, ◌≢◌, ℕ, zero, suc, ◌+◌, ◌<◌, ◌≤◌, ◌⊎◌, inl, inr, true, false, List, [], ◌∷◌, ◌++◌, length, take, drop, get_or, refl, ap, sym, subst, ◌∙◌, arith, Some, None, take_all, le_refl}
use Rattle.std.specs.Prelude.{◌==◌, if◌then◌else◌}
use Rattle.std.proofs.lemmas.Bool.{eq-eqb, eqb-true}
use Rattle.std.proofs.lemmas.Bool.Decides.{eqb_tells}
use Rattle.memchr.specs.Find.{IsFirstByte, is_byte}
use Rattle.rb_base.specs.Doubling.{IsPaired, Empty, Byte, Pair, doubled}

-- whether a byte is the mark
pub mark_or_not : (m b : ℕ) → (b ≡ m) ⊎ (b ≢ m)
mark_or_not m b = elim (eqb_tells b m) [ inl same ↦ inl same.1 | inr other ↦ inr other.1 ]

-- a mark is written twice
pub doubled-mark : (m : ℕ) (s : List ℕ) → doubled m (m ∷ s) ≡ m ∷ m ∷ doubled m s
doubled-mark m s = ap (λ b. if b then m ∷ m ∷ doubled m s else m ∷ doubled m s) (eq-eqb m m refl)

-- any other byte is written once
pub doubled-other : (m b : ℕ) (s : List ℕ) → b ≢ m → doubled m (b ∷ s) ≡ b ∷ doubled m s
doubled-other m b s other = by (eqb_tells b m)
  where
    by : ((b == m) ≡ true) × (b ≡ m) ⊎ ((b == m) ≡ false) × (b ≢ m) → doubled m (b ∷ s) ≡ b ∷ doubled m s
    by (inl same) = absurd (other same.1)
    by (inr differs) = ap (λ t. if t then m ∷ m ∷ doubled m s else b ∷ doubled m s) differs.0

-- two texts, one behind the other, are written one behind the other
pub doubled-append : (m : ℕ) (a b : List ℕ) → doubled m (a ++ b) ≡ doubled m a ++ doubled m b
doubled-append m [] b = refl
doubled-append m (x ∷ a) b = by (doubled-append m a b) (mark_or_not m x)
  where
    by : doubled m (a ++ b) ≡ doubled m a ++ doubled m b → (x ≡ m) ⊎ (x ≢ m) → doubled m (x ∷ (a ++ b)) ≡ doubled m (x ∷ a) ++ doubled m b
    by rest (inl same) =
        let P : ℕ → Type 0 = λ y. doubled m (y ∷ (a ++ b)) ≡ doubled m (y ∷ a) ++ doubled m b in
        subst P (sym same) (doubled-mark m (a ++ b) ∙ ap (λ s. m ∷ m ∷ s) rest ∙ ap (λ s. s ++ doubled m b) (sym (doubled-mark m a)))
    by rest (inr other) = doubled-other m x (a ++ b) other ∙ ap (λ s. x ∷ s) rest ∙ ap (λ s. s ++ doubled m b) (sym (doubled-other m x a other))

-- two paired texts, one behind the other, are paired
pub IsPaired-append : {m : ℕ} (a b : List ℕ) → IsPaired m a → IsPaired m b → IsPaired m (a ++ b)
IsPaired-append a b Empty k = k
IsPaired-append a b (Byte other h) k = Byte other (IsPaired-append _ b h k)
IsPaired-append a b (Pair h) k = Pair (IsPaired-append _ b h k)

-- what is written with each mark twice is paired
pub IsPaired-doubled : (m : ℕ) (s : List ℕ) → IsPaired m (doubled m s)
IsPaired-doubled m [] = Empty
IsPaired-doubled m (b ∷ s) = by (IsPaired-doubled m s) (mark_or_not m b)
  where
    by : IsPaired m (doubled m s) → (b ≡ m) ⊎ (b ≢ m) → IsPaired m (doubled m (b ∷ s))
    by rest (inl same) =
        let P : ℕ → Type 0 = λ y. IsPaired m (doubled m (y ∷ s)) in
        subst P (sym same) (subst (IsPaired m) (sym (doubled-mark m s)) (Pair rest))
    by rest (inr other) = subst (IsPaired m) (sym (doubled-other m b s other)) (Byte other rest)

-- a text in which the mark stands in pairs is some text with each mark written twice
pub source_of_paired : {m : ℕ} (s : List ℕ) → IsPaired m s → (t : List ℕ) × (doubled m t ≡ s)
source_of_paired s Empty = ([], refl)
source_of_paired s (Byte {b} other h) =
    let r = source_of_paired _ h in (b ∷ r.0, doubled-other _ b r.0 other ∙ ap (λ u. b ∷ u) r.1)
source_of_paired {m} s (Pair h) =
    let r = source_of_paired _ h in (m ∷ r.0, doubled-mark m r.0 ∙ ap (λ u. m ∷ m ∷ u) r.1)

-- two texts that are the same with each mark written twice are the same
pub doubled_one : (m : ℕ) (a b : List ℕ) → doubled m a ≡ doubled m b → a ≡ b
doubled_one m [] [] e = refl
doubled_one m [] (y ∷ b) e = by (mark_or_not m y)
  where
    by : (y ≡ m) ⊎ (y ≢ m) → [] ≡ y ∷ b
    by (inl same) = let d = ap (λ z. doubled m (z ∷ b)) same ∙ doubled-mark m b in cc
    by (inr other) = let d = doubled-other m y b other in cc
doubled_one m (x ∷ a) [] e = by (mark_or_not m x)
  where
    by : (x ≡ m) ⊎ (x ≢ m) → x ∷ a ≡ []
    by (inl same) = let d = ap (λ z. doubled m (z ∷ a)) same ∙ doubled-mark m a in cc
    by (inr other) = let d = doubled-other m x a other in cc
doubled_one m (x ∷ a) (y ∷ b) e = by (doubled_one m a b) (mark_or_not m x) (mark_or_not m y)
  where
    by : (doubled m a ≡ doubled m b → a ≡ b) → (x ≡ m) ⊎ (x ≢ m) → (y ≡ m) ⊎ (y ≢ m) → x ∷ a ≡ y ∷ b
    by rest (inl p) (inl q) =
        let d = ap (λ z. doubled m (z ∷ a)) p ∙ doubled-mark m a in
        let f = ap (λ z. doubled m (z ∷ b)) q ∙ doubled-mark m b in
        let r : a ≡ b = rest cc in cc
    by rest (inl p) (inr q) =
        let d = ap (λ z. doubled m (z ∷ a)) p ∙ doubled-mark m a in
        let f = doubled-other m y b q in absurd (q cc)
    by rest (inr p) (inl q) =
        let d = doubled-other m x a p in
        let f = ap (λ z. doubled m (z ∷ b)) q ∙ doubled-mark m b in absurd (p cc)
    by rest (inr p) (inr q) =
        let d = doubled-other m x a p in
        let f = doubled-other m y b q in
        let r : a ≡ b = rest cc in cc

-- none of the first k bytes is the mark
pub record HasNoMark (m : ℕ) (s : List ℕ) (k : ℕ) : Type 0 where
  pub short : k ≤ length s
  pub others : (i : ℕ) → i < k → get_or s i 0 ≢ m

-- the same one byte on
pub behind_first : {m b : ℕ} {s : List ℕ} {k : ℕ} → HasNoMark m (b ∷ s) (suc k) → HasNoMark m s k
behind_first h = record { short = omega (arith, h.short); others = λ i l. h.others (suc i) (omega arith) }

-- bytes among which there is no mark are paired
pub IsPaired-take : (m : ℕ) (s : List ℕ) (k : ℕ) → HasNoMark m s k → IsPaired m (take k s)
IsPaired-take m s zero h = Empty
IsPaired-take m [] (suc k) h = absurd (omega (arith, h.short))
IsPaired-take m (b ∷ s) (suc k) h = Byte (h.others 0 (omega arith)) (IsPaired-take m s k (behind_first h))

-- bytes among which there is no mark are written as they are
pub doubled-take : (m : ℕ) (s : List ℕ) (k : ℕ) → HasNoMark m s k → doubled m (take k s) ≡ take k s
doubled-take m s zero h = refl
doubled-take m [] (suc k) h = refl
doubled-take m (b ∷ s) (suc k) h = doubled-other m b (take k s) (h.others 0 (omega arith)) ∙ ap (λ t. b ∷ t) (doubled-take m s k (behind_first h))

-- up to the first mark, and with it
pub doubled-take_mark : (m : ℕ) (s : List ℕ) (k : ℕ) → HasNoMark m s k → k < length s → get_or s k 0 ≡ m → doubled m (take (suc k) s) ≡ take (suc k) s ++ m ∷ []
doubled-take_mark m [] k h l mark = absurd (omega arith)
doubled-take_mark m (b ∷ s) zero h l mark =
    let P : ℕ → Type 0 = λ y. doubled m (y ∷ []) ≡ y ∷ m ∷ [] in subst P (sym mark) (doubled-mark m [])
doubled-take_mark m (b ∷ s) (suc k) h l mark =
    doubled-other m b (take (suc k) s) (h.others 0 (omega arith)) ∙ ap (λ t. b ∷ t) (doubled-take_mark m s k (behind_first h) (omega arith) mark)

-- what is known of a paired text at its first mark
pub record AtPair (m : ℕ) (s : List ℕ) (k : ℕ) : Type 0 where
  pub inside : k + 2 ≤ length s
  pub front : doubled m (take (suc k) s) ≡ take (suc (suc k)) s
  pub rest : IsPaired m (drop (suc (suc k)) s)

-- the first mark of a paired text is the first of two
pub first_pair : (m : ℕ) (s : List ℕ) (k : ℕ) → IsPaired m s → HasNoMark m s k → k < length s → get_or s k 0 ≡ m → AtPair m s k
first_pair m s k Empty h l mark = absurd (omega arith)
first_pair m s zero (Byte other p) h l mark = absurd (other mark)
first_pair m s (suc k) (Byte {b} {s = t} other p) h l mark =
    let r = first_pair m t k p (behind_first h) (omega arith) mark in
    record {
      inside = omega (arith, r.inside);
      front = doubled-other m b (take (suc k) t) other ∙ ap (λ u. b ∷ u) r.front;
      rest = r.rest;
    }
first_pair m s zero (Pair {s = t} p) h l mark = record {
  inside = omega arith;
  front = doubled-mark m [];
  rest = p;
}
first_pair m s (suc k) (Pair p) h l mark = absurd (h.others 0 (omega arith) refl)

-- what a search for the mark says
pub record FindsMark (m : ℕ) (s : List ℕ) (k : ℕ) : Type 0 where
  pub before : HasNoMark m s k
  pub inside : k < length s
  pub mark : get_or s k 0 ≡ m

-- the place that a search gives
pub FindsMark-from_first : (m : ℕ) (s : List ℕ) (k : ℕ) → IsFirstByte (is_byte m) s (Some k) → FindsMark m s k
FindsMark-from_first m s k (first, found) = record {
  before = record {
    short = omega (arith, first.high);
    others = λ i l is. first.before i (omega arith) l (eq-eqb _ m is);
  };
  inside = first.high;
  mark = eqb-true _ m found;
}

-- a search that gives no place
pub HasNoMark-from_none : (m : ℕ) (s : List ℕ) → IsFirstByte (is_byte m) s None → HasNoMark m s (length s)
HasNoMark-from_none m s none = record {
  short = le_refl (length s);
  others = λ i l is. none i (omega arith) l (eq-eqb _ m is);
}

-- a text without a mark
whole : (s : List ℕ) → take (length s) s ≡ s
whole s = take_all _ s (le_refl (length s))

-- a text without a mark is written as it is
pub doubled-no_mark : (m : ℕ) (s : List ℕ) → HasNoMark m s (length s) → doubled m s ≡ s
doubled-no_mark m s h = ap (doubled m) (sym (whole s)) ∙ doubled-take m s (length s) h ∙ whole s

-- a text without a mark is paired
pub IsPaired-no_mark : (m : ℕ) (s : List ℕ) → HasNoMark m s (length s) → IsPaired m s
IsPaired-no_mark m s h = subst (IsPaired m) (whole s) (IsPaired-take m s (length s) h)
