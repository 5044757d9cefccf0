-- Integers of 64 bits: their arithmetic, and the integer that a numeral spells.
use Rattle.std.specs.Prelude.{ℕ, suc, ◌/◌, ◌^◌, ◌==◌, ◌||◌, ◌*ℤ◌, ◌-ℤ◌, nat_lt, Bool, false, if◌then◌else◌, List, [], ◌∷◌, length, drop, ℤ, pos, negsuc, neg_ℤ, Option, Some, None}
use Rattle.std.specs.List.{list_any, before_first}
use Rattle.std.specs.Int.{div_ceil}
use Rattle.std.specs.Str.Parse.{digits_value}

-- whether an integer is one of 64 bits, from -2^63 to 2^63 - 1
abbrev pub fits : ℤ → Bool
fits (pos n) = nat_lt n (2 ^ 63)
fits (negsuc n) = nat_lt n (2 ^ 63)

-- the integer, if it is one of 64 bits
abbrev pub fitting : ℤ → Option ℤ
fitting z = if fits z then Some z else None

-- whether an integer is 0
abbrev pub is_zero : ℤ → Bool
is_zero (pos n) = n == 0
is_zero (negsuc n) = false

-- the quotient rounded down, for a divisor that is not 0
abbrev pub floor_quotient : ℤ → ℤ → ℤ
floor_quotient (pos a) (pos b) = pos (a / b)
floor_quotient (pos a) (negsuc b) = neg_ℤ (pos (div_ceil a (suc b)))
floor_quotient (negsuc a) (pos b) = negsuc (a / b)
floor_quotient (negsuc a) (negsuc b) = pos (suc a / suc b)

-- what is left by the quotient rounded down
abbrev pub floor_remainder : ℤ → ℤ → ℤ
floor_remainder x y = x -ℤ floor_quotient x y *ℤ y

-- times 2 to the power n, which for negative n is divided by 2 to the power -n, rounded down
abbrev pub shifted : ℤ → ℤ → ℤ
shifted x (pos n) = x *ℤ pos (2 ^ n)
shifted x (negsuc n) = floor_quotient x (pos (2 ^ suc n))

-- the letter `r` between the base and the digits of a numeral
abbrev pub is_radix_mark : ℕ → Bool
is_radix_mark b = b == 114

-- the point of a fraction, and the letter `e` before an exponent
abbrev pub is_fraction_mark : ℕ → Bool
is_fraction_mark b = b == 46 || b == 101

-- the number that digits spell, in the base before `r` where there is one
abbrev pub unsigned_value : List ℕ → ℕ
unsigned_value t =
    if list_any is_radix_mark t
    then digits_value (digits_value 10 (before_first is_radix_mark t)) (drop (suc (length (before_first is_radix_mark t))) t)
    else digits_value 10 t

-- the number that a numeral spells, with its sign
abbrev pub signed_value : List ℕ → ℤ
signed_value [] = pos 0
signed_value (b ∷ t) = if b == 45 then neg_ℤ (pos (unsigned_value t)) else pos (unsigned_value (b ∷ t))

-- the integer that a numeral is, if it has no fraction and no exponent and is one of 64 bits
abbrev pub numeral_integer : List ℕ → Option ℤ
numeral_integer t = if list_any is_fraction_mark t then None else fitting (signed_value t)
