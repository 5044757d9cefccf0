-- The number that stands first.
use Rattle.std.proofs.Common.{◌≡◌, ℕ, ◌+◌, ◌^◌, ◌<◌, Bool, true, false, cond, not, List, [], ◌∷◌, ◌++◌, length, take, decimal, refl, ap, ◌∙◌, arith}
use Rattle.std.specs.Char.{is_ascii_digit}
use Rattle.std.specs.Int.{IsInRange}
use Rattle.std.specs.List.{prefix_len, position_or_len}
use Rattle.std.specs.Str.Parse.{AllDigits}
use Rattle.std.proofs.lemmas.Bool.Decides.{nat_tests}
use Rattle.std.proofs.lemmas.Fmt.{decimal_is_IsNumeral}
use Rattle.std.proofs.lemmas.List.{take_at}
use Rattle.std.proofs.lemmas.List.Folds.{prefix_len-append}
use Rattle.std.proofs.lemmas.Str.Parse.{digit_from_value}
use Rattle.case_tables.specs.TableFaults.{BeginsWithDigit}

passes : (c : ℕ) → IsInRange 48 57 c → is_ascii_digit c ≡ true
passes c range = grind (arith, nat_tests)

all_pass : (digits : List ℕ) → AllDigits 10 digits → prefix_len is_ascii_digit digits ≡ length digits
all_pass [] are = refl
all_pass (c ∷ cs) are =
    let rest = all_pass cs are.1 in
    ap (λ (t : Bool). cond t (1 + prefix_len is_ascii_digit cs) 0) (passes c (digit_from_value c are.0)) ∙ omega arith

is_false : (b : Bool) → (b ≡ true → ⊥) → b ≡ false
is_false true never = absurd (never refl)
is_false false never = refl

none_pass : (bytes : List ℕ) → ¬ (BeginsWithDigit bytes) → prefix_len is_ascii_digit bytes ≡ 0
none_pass [] never = refl
none_pass (b ∷ bs) never = ap (λ (t : Bool). cond t (1 + prefix_len is_ascii_digit bs) 0) (is_false (is_ascii_digit b) never)

either : (t : Bool) (a b n : ℕ) → a ≡ n → b ≡ n → cond t a b ≡ n
either true a b n e f = e
either false a b n e f = f

twice : (b : Bool) → not (not b) ≡ b
twice true = refl
twice false = refl

same_len : (bytes : List ℕ) → position_or_len (λ b. not (is_ascii_digit b)) bytes ≡ prefix_len is_ascii_digit bytes
same_len [] = refl
same_len (b ∷ bs) =
    ap (λ (t : Bool). cond t (1 + position_or_len (λ c. not (is_ascii_digit c)) bs) 0) (twice (is_ascii_digit b))
    ∙ ap (λ n. cond (is_ascii_digit b) (1 + n) 0) (same_len bs)

-- the digits before the first byte that is none are those of the number
pub digits_first : (number : ℕ) (more rest : List ℕ) → number < 2 ^ 64 → ¬ (BeginsWithDigit more) → rest ≡ decimal number ++ more
    → take (position_or_len (λ b. not (is_ascii_digit b)) rest) rest ≡ decimal number
digits_first number more rest small never e =
    ap (λ bytes. take (position_or_len (λ b. not (is_ascii_digit b)) bytes) bytes) e
    ∙ ap (λ n. take n (decimal number ++ more)) count
    ∙ take_at (decimal number) more (length (decimal number)) refl
  where
    whole : prefix_len is_ascii_digit (decimal number) ≡ length (decimal number)
    whole = all_pass (decimal number) (decimal_is_IsNumeral number small).0.1

    past : length (decimal number) + prefix_len is_ascii_digit more ≡ length (decimal number)
    past = let none = none_pass more never in omega arith

    count : position_or_len (λ b. not (is_ascii_digit b)) (decimal number ++ more) ≡ length (decimal number)
    count = same_len (decimal number ++ more) ∙ prefix_len-append is_ascii_digit (decimal number) more
        ∙ either _ _ _ (length (decimal number)) past whole
