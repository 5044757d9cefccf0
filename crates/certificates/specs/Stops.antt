-- Where a text stops to be the beginning of a certificate.
use Rattle.std.specs.Prelude.{ℕ, zero, suc, ◌+◌, ◌-◌, ◌*◌, nat_eq, nat_lt, if◌then◌else◌, Bool, true, false, [], ◌∷◌, length, Option, Some, None}
use Rattle.std.specs.Option.{option_map_or}
use Rattle.std.specs.Char.{is_ascii_digit}
use Rattle.certified_model.specs.Marks.{Text}

-- the bytes of which certificates are made
pub data Sort : Type 0 where
  plus : Sort
  minus : Sort
  comma : Sort
  period : Sort
  at_sign : Sort
  digit : ℕ → Sort
  no_part : Sort

abbrev pub sort_of : ℕ → Sort
sort_of b =
    if nat_eq b 43 then plus
    else if nat_eq b 45 then minus
    else if nat_eq b 44 then comma
    else if nat_eq b 46 then period
    else if nat_eq b 64 then at_sign
    else if is_ascii_digit b then digit (b - 48)
    else no_part

-- what comes next: a sign; the number of a law; a zero behind its digit 1, or an at sign; an at sign; a path; a number of a path; further digits of a number with this value; what stands behind a whole number, and behind a whole path
pub data Next : Type 0 where
  a_sign : Next
  a_law : Next
  behind_one : Next
  an_at_sign : Next
  a_path : Next
  a_number : Next
  in_number : ℕ → Next
  behind_number : Next
  behind_path : Next

-- a number without a leading zero goes on to nine digits
abbrev pub one_digit_more : ℕ → ℕ → Option Next
one_digit_more zero d = None
one_digit_more (suc n) d = if nat_lt (suc n) 100000000 then Some (in_number (suc n * 10 + d)) else None

-- the digits that a law begins with
abbrev pub law_digit : ℕ → Option Next
law_digit zero = None
law_digit (suc zero) = Some behind_one
law_digit (suc (suc d)) = Some an_at_sign

-- the digit behind the digit 1 of a law
abbrev pub second_digit : ℕ → Option Next
second_digit zero = Some an_at_sign
second_digit (suc d) = None

-- what comes behind one more byte; none where it continues no certificate
abbrev pub behind : Next → Sort → Option Next
behind a_sign plus = Some a_law
behind a_sign minus = Some a_law
behind a_law (digit d) = law_digit d
behind behind_one (digit d) = second_digit d
behind behind_one at_sign = Some a_path
behind an_at_sign at_sign = Some a_path
behind a_path (digit d) = Some (in_number d)
behind a_path comma = Some a_sign
behind a_number (digit d) = Some (in_number d)
behind (in_number n) (digit d) = one_digit_more n d
behind (in_number n) period = Some a_number
behind (in_number n) comma = Some a_sign
behind behind_number period = Some a_number
behind behind_number comma = Some a_sign
behind behind_path comma = Some a_sign
behind p x = None

-- whether a certificate may end here
abbrev pub may_end : Next → Bool
may_end a_path = true
may_end (in_number n) = true
may_end behind_number = true
may_end behind_path = true
may_end p = false

-- how many bytes of a text are left from its first byte on that continues no certificate; 0 where more is wanted, and none where the text may end
unfoldable pub left_from : Next → Text → Option ℕ
left_from p [] = if may_end p then None else Some 0
left_from p (b ∷ t) = option_map_or (λ q. left_from q t) (behind p (sort_of b)) (Some (length (b ∷ t)))

-- whether a text begins with a byte, and with a digit
abbrev pub begins_with : ℕ → Text → Bool
begins_with b [] = false
begins_with b (a ∷ t) = nat_eq a b

abbrev pub begins_with_digit : Text → Bool
begins_with_digit [] = false
begins_with_digit (a ∷ t) = is_ascii_digit a
