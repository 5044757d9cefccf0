-- The numerals by which places and do-its are stated.
use Rattle.std.proofs.Common.{◌≡◌, ℕ, ◌<◌, ◌^◌, Bool, true, false, [], ◌∷◌, length, get_or, arith, refl, ap, sym, ◌∙◌, append-nil}
use Rattle.std.specs.Prelude.{◌==◌, if◌then◌else◌, nat_le, drop, suc, pos, neg_ℤ, Some, None}
use Rattle.std.specs.Fmt.{decimal}
use Rattle.std.specs.List.{list_all, list_any, before_first}
use Rattle.std.specs.Option.{option_and_then}
use Rattle.std.specs.Str.Parse.{digits_value}
use Rattle.std.proofs.lemmas.Bool.{and_parts, or_from, le-leb, lt-ltb, ne_eqb}
use Rattle.std.proofs.lemmas.List.{get_or_past}
use Rattle.std.proofs.lemmas.Fmt.{digits_decimal, digits_value-decimal, decimal_nonempty, length-decimal-le}
use Rattle.token_model.specs.Bytes.{is_digit}
use Rattle.token_model.specs.Tokens.{Plain, Unscaled}
use Rattle.token_model.proofs.Leads.{other_byte}
use Rattle.run_model.specs.Numbers.{is_radix_mark, is_fraction_mark, unsigned_value, signed_value, fits, fitting, numeral_integer}
use Rattle.reread_law.specs.WellFormed.{IsUnsigned}
use Rattle.reread_law.proofs.Bytes.{all_at}
use Rattle.reread_law.proofs.Decimals.{digits_model}
use Rattle.file_model.specs.Filing.{Text}
use Rattle.file_model.specs.Numerals.{digits_of, positive, place_in}
use Rattle.change_file_laws.specs.Stated.{IsStatedNumber}

-- digits
abbrev AreDigits : Text → Type 0
AreDigits ds = list_all is_digit ds ≡ true

-- digits alone are a numeral
digits_unsigned : (ds : Text) → AreDigits ds → 0 < length ds → IsUnsigned ds
digits_unsigned ds h some =
    let past = get_or_past ds (length ds) 0 (omega arith) in
    let all = λ (k : ℕ) (lt : k < length ds). ap (λ x. is_digit (get_or x k 0)) (sym (append-nil ds)) ∙ all_at is_digit ds [] k h lt in
    record {
      whole = length ds;
      mantissa = length ds;
      digits = (all 0 some, record { order = some; all = λ k a b. all k b; stops = ap is_digit past });
      part = Plain (λ r. omega (arith, past, r.0)) (λ r. omega (arith, past, r.0)) refl;
      exponent = Unscaled (λ k r. omega (arith, past, r.0)) refl;
    }

-- a mark that is no digit is not among digits
none_among : (p : ℕ → Bool) → ((b : ℕ) → is_digit b ≡ true → p b ≡ false) → (ds : Text) → AreDigits ds → list_any p ds ≡ false
none_among p other [] h = refl
none_among p other (b ∷ ds) h =
    let q = and_parts (is_digit b) (list_all is_digit ds) h in or_from (p b) (list_any p ds) (other b q.0) (none_among p other ds q.1)

-- the letter before a base is none, nor are the marks of a fraction
no_radix : (b : ℕ) → is_digit b ≡ true → is_radix_mark b ≡ false
no_radix b h = ne_eqb b 114 (other_byte is_digit b 114 h refl)

no_fraction : (b : ℕ) → is_digit b ≡ true → is_fraction_mark b ≡ false
no_fraction b h = or_from (b == 46) (b == 101) (ne_eqb b 46 (other_byte is_digit b 46 h refl)) (ne_eqb b 101 (other_byte is_digit b 101 h refl))

-- digits have no sign
no_sign : (ds : Text) → AreDigits ds → 0 < length ds → signed_value ds ≡ pos (unsigned_value ds)
no_sign [] h some = absurd (omega (arith, some))
no_sign (b ∷ ds) h some =
    let q = and_parts (is_digit b) (list_all is_digit ds) h in
    ap (λ (t : Bool). if t then neg_ℤ (pos (unsigned_value ds)) else pos (unsigned_value (b ∷ ds))) (ne_eqb b 45 (other_byte is_digit b 45 q.0 refl))

module _ (k : ℕ) (n : IsStatedNumber k) where
  -- it is small
  small : k < 2 ^ 64
  small = omega (arith, n.to)

  abbrev digits : AreDigits (decimal k)
  digits = digits_decimal digits_model k small

  -- its numeral is one
  pub numeral_unsigned : IsUnsigned (decimal k)
  numeral_unsigned = digits_unsigned (decimal k) digits (decimal_nonempty k small)

  -- without a base
  no_base : list_any is_radix_mark (decimal k) ≡ false
  no_base = none_among is_radix_mark no_radix (decimal k) digits

  value : unsigned_value (decimal k) ≡ k
  value =
      ap (λ (b : Bool). if b then digits_value (digits_value 10 (before_first is_radix_mark (decimal k))) (drop (suc (length (before_first is_radix_mark (decimal k)))) (decimal k)) else digits_value 10 (decimal k)) no_base
      ∙ digits_value-decimal digits_model k small

  -- of this integer
  pub numeral_value : numeral_integer (decimal k) ≡ Some (pos k)
  numeral_value =
      let fitted : fits (pos k) ≡ true = lt-ltb k (2 ^ 63) (omega (arith, n.to)) in
      ap (λ (b : Bool). if b then None else fitting (signed_value (decimal k))) (none_among is_fraction_mark no_fraction (decimal k) digits)
      ∙ ap fitting (no_sign (decimal k) digits (decimal_nonempty k small) ∙ ap (λ (m : ℕ). pos m) value)
      ∙ ap (λ (b : Bool). if b then Some (pos k) else None) fitted

  -- and states this place
  pub place_stated : place_in (decimal k) ≡ Some k
  place_stated =
      let digits_are : digits_of (decimal k) ≡ decimal k =
      ap (λ (b : Bool). if b then drop (suc (length (before_first is_radix_mark (decimal k)))) (decimal k) else decimal k) no_base in
      let short : nat_le (length (digits_of (decimal k))) 9 ≡ true =
      ap (λ (s : Text). nat_le (length s) 9) digits_are ∙ le-leb (length (decimal k)) 9 (length-decimal-le 9 k (omega arith) n.to small) in
      ap (λ (b : Bool). if b then option_and_then positive (numeral_integer (decimal k)) else None) short
      ∙ ap (option_and_then positive) numeral_value
      ∙ ap (λ (b : Bool). if b then Some k else None) (le-leb 1 k n.from)
