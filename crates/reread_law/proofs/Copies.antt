-- Numerals and comments that stand in one text stand in another with the same bytes.
use Rattle.std.proofs.Common.{◌≡◌, ◌≢◌, ℕ, ◌+◌, ◌-◌, ◌<◌, ◌≤◌, ◌⊎◌, inl, inr, Bool, List, get_or, arith, ap, sym, subst, ◌∙◌}
use Rattle.std.specs.Prelude.{slice_range}
use Rattle.std.proofs.lemmas.Bool.{cases_lt, false≢true}
use Rattle.std.specs.Char.{digit_value}
use Rattle.std.specs.Str.Parse.{digits_value}
use Rattle.token_model.specs.Bytes.{is_digit, is_radix_digit, Passes, Fails, IsRun}
use Rattle.token_model.specs.Tokens.{IsComment, IsDigits, HasRadix, HasFraction, IsInBase, IsMantissa, Radix, Fraction, Plain, IsExponent, Scaled, Unscaled, IsNumeral}

-- n bytes stand at j in one text and at i in another
pub record IsCopy (t : List ℕ) (i : ℕ) (u : List ℕ) (j n : ℕ) : Type 0 where
  pub bytes : (k : ℕ) → k < n → get_or t (i + k) 0 ≡ get_or u (j + k) 0
  pub ranges : (k : ℕ) → k ≤ n → slice_range t i (i + k) ≡ slice_range u j (j + k)

-- a byte behind which no numeral goes on
pub record EndsNumeral (t : List ℕ) (i : ℕ) : Type 0 where
  pub digit : Fails is_digit t i
  pub radix : Fails is_radix_digit t i
  pub no_r : get_or t i 0 ≢ 114
  pub no_e : get_or t i 0 ≢ 101
  pub no_fraction : ¬ HasFraction t i

-- a run at whose first byte the class passes is not empty
longer : (p : ℕ → Bool) (u : List ℕ) (a b : ℕ) → Passes p u a → IsRun p u a b → a < b
longer p u a b h r = elim (cases_lt a b) [
  | inl lt ↦ lt
  | inr le ↦ let e : b ≡ a = omega (arith, r.order) in absurd (false≢true (sym (subst (Fails p u) e r.stops) ∙ h))
]

-- the parts of a numeral are in order
mantissa_order : (u : List ℕ) (j w m : ℕ) → IsMantissa u j w m → w ≤ m
mantissa_order u j w m (Radix h r b) = omega (arith, r.order)
mantissa_order u j w m (Fraction h r) = omega (arith, r.order)
mantissa_order u j w m (Plain r f e) = omega arith

-- so is the exponent
exponent_order : (u : List ℕ) (m e : ℕ) → IsExponent u m e → m ≤ e
exponent_order u m e (Scaled k (h, inl f, d) r) = omega (arith, r.order)
exponent_order u m e (Scaled k (h, inr f, d) r) = omega (arith, r.order, f.1)
exponent_order u m e (Unscaled none f) = omega arith

module _ (t : List ℕ) (i : ℕ) (u : List ℕ) (j n : ℕ) (c : IsCopy t i u j n) where
  -- a byte of the copy
  byte_at : (k : ℕ) → j ≤ k → k < j + n → get_or t (i + (k - j)) 0 ≡ get_or u k 0
  byte_at k a b = let e : j + (k - j) ≡ k = omega arith in c.bytes (k - j) (omega arith) ∙ ap (λ m. get_or u m 0) e

  -- the same the other way round
  byte_of : (k : ℕ) → i ≤ k → k < i + n → get_or t k 0 ≡ get_or u (j + (k - i)) 0
  byte_of k a b = let e : i + (k - i) ≡ k = omega arith in ap (λ m. get_or t m 0) (sym e) ∙ c.bytes (k - i) (omega arith)

  -- a run in the copy
  run_copy : (p : ℕ → Bool) (a b : ℕ) → j ≤ a → b ≤ j + n → Fails p t (i + n) → IsRun p u a b → IsRun p t (i + (a - j)) (i + (b - j))
  run_copy p a b low high ends r = record {
    order = omega (arith, r.order);
    all = λ k x y. ap p (byte_of k (omega arith) (omega arith)) ∙ r.all (j + (k - i)) (omega arith) (omega (arith, r.order));
    stops = elim (cases_lt b (j + n)) [
      | inl lt ↦ ap p (byte_at b (omega (arith, r.order)) lt) ∙ r.stops
      | inr le ↦ let e : i + n ≡ i + (b - j) = omega arith in subst (Fails p t) e ends
    ];
  }

  -- the range of digits before the r of a radix
  base_copy : (r m : ℕ) → j ≤ r → m ≤ j + n → r ≤ m → IsInBase u j r m → IsInBase t i (i + (r - j)) (i + (m - j))
  base_copy r m low high order h =
      let e : j + (r - j) ≡ r = omega arith in
      let same : slice_range t i (i + (r - j)) ≡ slice_range u j r = c.ranges (r - j) (omega arith) ∙ ap (λ k. slice_range u j k) e in
      record {
        low = subst (λ s. 2 ≤ digits_value 10 s) (sym same) h.low;
        high = subst (λ s. digits_value 10 s ≤ 36) (sym same) h.high;
        below = λ k x y.
            subst (λ s. digit_value (get_or t k 0) < digits_value 10 s) (sym same)
            (subst (λ b. digit_value b < digits_value 10 (slice_range u j r)) (sym (byte_of k (omega arith) (omega arith))) (h.below (j + (k - i)) (omega arith) (omega arith)));
      }

  -- the digits in front
  digits_copy : (w : ℕ) → j + 1 ≤ w → w ≤ j + n → Fails is_digit t (i + n) → IsDigits u j w → IsDigits t i (i + (w - j))
  digits_copy w low high ends h =
      let e : j + (i - i) ≡ j = omega arith in
      let f : i + (j + 1 - j) ≡ i + 1 = omega arith in
      (ap is_digit (byte_of i (omega arith) (omega arith) ∙ ap (λ m. get_or u m 0) e) ∙ h.0, subst (λ m. IsRun is_digit t m (i + (w - j))) f (run_copy is_digit (j + 1) w (omega arith) high ends h.1))

  -- a run behind a mark
  run_behind : (p : ℕ → Bool) (w m : ℕ) → j ≤ w → m ≤ j + n → Fails p t (i + n) → IsRun p u (w + 1) m → IsRun p t (i + (w - j) + 1) (i + (m - j))
  run_behind p w m low high ends r =
      let f : i + (w + 1 - j) ≡ i + (w - j) + 1 = omega arith in
      subst (λ k. IsRun p t k (i + (m - j))) f (run_copy p (w + 1) m (omega arith) high ends r)

  -- a byte behind a mark
  byte_behind : (w : ℕ) → j ≤ w → w + 1 < j + n → get_or t (i + (w - j) + 1) 0 ≡ get_or u (w + 1) 0
  byte_behind w low high =
      let f : i + (w + 1 - j) ≡ i + (w - j) + 1 = omega arith in
      ap (λ m. get_or t m 0) (sym f) ∙ byte_at (w + 1) (omega arith) high

  -- behind the mantissa stands an e, or nothing more
  abbrev AfterMantissa : ℕ → Type 0
  AfterMantissa m = (get_or t (i + (m - j)) 0 ≡ 101) ⊎ (m ≡ j + n)

  -- there stands no r
  no_radix : (m : ℕ) → EndsNumeral t (i + n) → AfterMantissa m → ¬ HasRadix t (i + (m - j))
  no_radix m ends (inl e) h = absurd (omega (arith, e, h.0))
  no_radix m ends (inr e) h = let f : i + (m - j) ≡ i + n = omega arith in ends.no_r (subst (λ k. get_or t k 0 ≡ 114) f h.0)

  -- nor a fraction
  no_fraction : (m : ℕ) → EndsNumeral t (i + n) → AfterMantissa m → ¬ HasFraction t (i + (m - j))
  no_fraction m ends (inl e) h = absurd (omega (arith, e, h.0))
  no_fraction m ends (inr e) h = let f : i + (m - j) ≡ i + n = omega arith in ends.no_fraction (subst (HasFraction t) f h)

  -- what stands behind the digits
  part_copy : (w m : ℕ) → j ≤ w → m ≤ j + n → EndsNumeral t (i + n) → AfterMantissa m → IsMantissa u j w m → IsMantissa t i (i + (w - j)) (i + (m - j))
  part_copy w m low high ends after (Radix h r b) =
      let more : w + 1 < m = longer is_radix_digit u (w + 1) m h.1 r in
      Radix (byte_at w low (omega arith) ∙ h.0, ap is_radix_digit (byte_behind w low (omega arith)) ∙ h.1) (run_behind is_radix_digit w m low high ends.radix r) (base_copy w m low high (omega arith) b)
  part_copy w m low high ends after (Fraction h r) =
      let more : w + 1 < m = longer is_digit u (w + 1) m h.1 r in
      Fraction (byte_at w low (omega arith) ∙ h.0, ap is_digit (byte_behind w low (omega arith)) ∙ h.1) (run_behind is_digit w m low high ends.digit r)
  part_copy w m low high ends after (Plain r f e) =
      let g : i + (m - j) ≡ i + (w - j) = omega arith in
      Plain (subst (λ k. ¬ HasRadix t k) g (no_radix m ends after)) (subst (λ k. ¬ HasFraction t k) g (no_fraction m ends after)) g

  -- the exponent
  exponent_copy : (m : ℕ) → j ≤ m → EndsNumeral t (i + n) → IsExponent u m (j + n) → IsExponent t (i + (m - j)) (i + n)
  exponent_copy m low ends (Scaled k (e, inl f, d) r) =
      let more : k < j + n = longer is_digit u k (j + n) d r in
      let g : i + (j + n - j) ≡ i + n = omega arith in
      Scaled (i + (k - j)) (byte_at m low (omega arith) ∙ e, inl (omega arith), ap is_digit (byte_at k (omega arith) more) ∙ d)
      (subst (IsRun is_digit t (i + (k - j))) g (run_copy is_digit k (j + n) (omega arith) (omega arith) ends.digit r))
  exponent_copy m low ends (Scaled k (e, inr f, d) r) =
      let more : k < j + n = longer is_digit u k (j + n) d r in
      let g : i + (j + n - j) ≡ i + n = omega arith in
      let place : k ≡ m + 2 = f.1 in
      Scaled (i + (k - j)) (byte_at m low (omega arith) ∙ e, inr (byte_behind m low (omega arith) ∙ f.0, omega arith), ap is_digit (byte_at k (omega arith) more) ∙ d)
      (subst (IsRun is_digit t (i + (k - j))) g (run_copy is_digit k (j + n) (omega arith) (omega arith) ends.digit r))
  exponent_copy m low ends (Unscaled none e) =
      let g : i + n ≡ i + (m - j) = omega arith in
      Unscaled (λ k h. ends.no_e (subst (λ k. get_or t k 0 ≡ 101) (sym g) h.0)) g

  -- what stands behind the mantissa
  after_mantissa : (m : ℕ) → j ≤ m → IsExponent u m (j + n) → AfterMantissa m
  after_mantissa m low (Scaled k (e, inl f, d) r) = inl (byte_at m low (omega (arith, r.order)) ∙ e)
  after_mantissa m low (Scaled k (e, inr f, d) r) = let place : k ≡ m + 2 = f.1 in inl (byte_at m low (omega (arith, r.order)) ∙ e)
  after_mantissa m low (Unscaled none e) = inr (sym e)

  -- a numeral
  pub numeral_copy : EndsNumeral t (i + n) → IsNumeral u j (j + n) → IsNumeral t i (i + n)
  numeral_copy ends h =
      let a : j + 1 ≤ h.whole = h.digits.1.order in
      let b : h.whole ≤ h.mantissa = mantissa_order u j h.whole h.mantissa h.part in
      let c : h.mantissa ≤ j + n = exponent_order u h.mantissa (j + n) h.exponent in
      record {
        whole = i + (h.whole - j);
        mantissa = i + (h.mantissa - j);
        digits = digits_copy h.whole a (omega arith) ends.digit h.digits;
        part = part_copy h.whole h.mantissa (omega arith) c ends (after_mantissa h.mantissa (omega arith) h.exponent) h.part;
        exponent = exponent_copy h.mantissa (omega arith) ends h.exponent;
      }

  -- a comment
  pub comment_copy : IsComment u j (j + n) → IsComment t i (i + n)
  comment_copy h =
      let e : j + (i - i) ≡ j = omega arith in
      let size : j + n ≡ h.close + 1 = h.end in
      let order : j < h.close = h.order in
      record {
        close = i + (h.close - j);
        opens = byte_of i (omega arith) (omega arith) ∙ ap (λ m. get_or u m 0) e ∙ h.opens;
        order = omega arith;
        inside = λ k x y is. h.inside (j + (k - i)) (omega arith) (omega arith) (sym (byte_of k (omega arith) (omega arith)) ∙ is);
        closes = byte_at h.close (omega arith) (omega arith) ∙ h.closes;
        end = omega arith;
      }
