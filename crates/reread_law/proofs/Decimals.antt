-- Numbers in decimal, as numerals of digits alone.
use Rattle.std.proofs.Common.{◌≡◌, ℕ, ◌<◌, ◌≤◌, ◌^◌, Bool, true, false, [], ◌∷◌, length, get_or, arith, refl, ap, sym, ◌∙◌, append-nil}
use Rattle.std.specs.Prelude.{if◌then◌else◌, nat_le}
use Rattle.std.specs.Fmt.{decimal}
use Rattle.std.specs.List.{list_all}
use Rattle.std.specs.Str.Parse.{digits_value}
use Rattle.std.proofs.lemmas.Bool.{and_parts, and_from, leb-true, le-leb}
use Rattle.std.proofs.lemmas.List.{get_or_past}
use Rattle.std.proofs.lemmas.Fmt.{digits_decimal, digits_value-decimal, decimal_nonempty}
use Rattle.std.proofs.lemmas.Str.Parse.{IsDigitsTest, IsNumeralModel, numerals_by_value}
use Rattle.token_model.specs.Bytes.{is_digit, is_radix_digit}
use Rattle.token_model.specs.Tokens.{Plain, Unscaled}
use Rattle.grammar_model.specs.Terminal.{Text, SmallDigits, LargeDigits, OtherNumeral}
use Rattle.grammar_model.specs.Lexemes.{numeral_of}
use Rattle.reread_law.specs.WellFormed.{IsUnsigned}
use Rattle.reread_law.proofs.Bytes.{At, all_at, first_at}
use Rattle.reread_law.proofs.Copies.{EndsNumeral}

-- digits
abbrev AreDigits : Text → Type 0
AreDigits ds = list_all is_digit ds ≡ true

-- tested byte by byte
pub digits_test : IsDigitsTest AreDigits
digits_test = record {
  empty = refl;
  parts = λ c cs h.
      let p = and_parts (is_digit c) (list_all is_digit cs) h in
      let q = and_parts (nat_le 48 c) (nat_le c 57) p.0 in
      ((leb-true 48 c q.0, leb-true c 57 q.1), p.1);
  more = λ c cs r h. and_from (is_digit c) (list_all is_digit cs) (and_from (nat_le 48 c) (nat_le c 57) (le-leb 48 c r.0) (le-leb c 57 r.1)) h;
}

-- their value
pub digits_model : IsNumeralModel AreDigits (digits_value 10)
digits_model = numerals_by_value AreDigits digits_test

-- digits alone are a numeral
digits_unsigned : (ds : Text) → AreDigits ds → 0 < length ds → IsUnsigned ds
digits_unsigned ds h some =
    let past = get_or_past ds (length ds) 0 (omega arith) in
    let all = λ (k : ℕ) (lt : k < length ds). ap (λ x. is_digit (get_or x k 0)) (sym (append-nil ds)) ∙ all_at is_digit ds [] k h lt in
    record {
      whole = length ds;
      mantissa = length ds;
      digits = (all 0 some, record { order = some; all = λ k a b. all k b; stops = ap is_digit past });
      part = Plain (λ r. omega (arith, past, r.0)) (λ r. omega (arith, past, r.0)) refl;
      exponent = Unscaled (λ k r. omega (arith, past, r.0)) refl;
    }

-- a number in decimal is a numeral
pub decimal_unsigned : (n : ℕ) → n ≤ 65535 → IsUnsigned (decimal n)
decimal_unsigned n le =
    let small : n < 2 ^ 64 = omega arith in
    digits_unsigned (decimal n) (digits_decimal digits_model n small) (decimal_nonempty n small)

-- of this value
pub decimal_value : (n : ℕ) → n ≤ 65535 → digits_value 10 (decimal n) ≡ n
decimal_value n le = digits_value-decimal digits_model n (omega arith)

-- which is of digits alone, and no larger
pub decimal_kind : (n : ℕ) → n ≤ 65535 → numeral_of (decimal n) ≡ SmallDigits
decimal_kind n le =
    let small : n < 2 ^ 64 = omega arith in
    let value = decimal_value n le in
    (λ i. if digits_decimal digits_model n small i then (if nat_le (value i) 65535 then SmallDigits else LargeDigits) else OtherNumeral) ∙ ap (λ b. if b then SmallDigits else LargeDigits) (le-leb n 65535 le)

-- > ends a numeral
pub greater_ends : (t : Text) (i : ℕ) (s : Text) → At t i (62 ∷ s) → EndsNumeral t i
greater_ends t i s a =
    let first = first_at a in
    record {
      digit = ap is_digit first;
      radix = ap is_radix_digit first;
      no_r = λ h. omega (arith, first, h);
      no_e = λ h. omega (arith, first, h);
      no_fraction = λ h. omega (arith, first, h.0);
    }

-- the value of digits alone that are told apart as small
pub small_value : (t : Text) → numeral_of t ≡ SmallDigits → digits_value 10 t ≤ 65535
small_value t e = go (list_all is_digit t) (nat_le (digits_value 10 t) 65535) refl e
  where
    go : (x y : Bool) → nat_le (digits_value 10 t) 65535 ≡ y → (if x then (if y then SmallDigits else LargeDigits) else OtherNumeral) ≡ SmallDigits → digits_value 10 t ≤ 65535
    go true true f g = leb-true (digits_value 10 t) 65535 f
    go true false f g = cc
    go false y f g = cc
