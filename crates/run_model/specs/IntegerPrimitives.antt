-- The primitives of integers and characters.
use Rattle.std.specs.Prelude.{ℕ, nat_lt, if◌then◌else◌, [], ◌∷◌, ℤ, pos, negsuc, ◌+ℤ◌, ◌-ℤ◌, ◌*ℤ◌, int_lt, Option, Some, None}
use Rattle.std.specs.Int.{int_bit_and, int_bit_or, w64}
use Rattle.std.specs.Fmt.{signed_decimal}
use Rattle.run_model.specs.Values.{int_value, char_value, string_value, unsupported, divide_by_zero}
use Rattle.run_model.specs.Numbers.{is_zero, floor_quotient, floor_remainder, shifted}
use Rattle.run_model.specs.Views.{char_text}
use Rattle.run_model.specs.Calls.{Call, PrimResult, faults, argument, at_once, demands, makes_bytes, answers_integer, answers_truth, as_integer, as_char}

-- goes on with the integers that receiver and argument are
abbrev pub two_integers : Call → (ℤ → ℤ → PrimResult) → PrimResult
two_integers c go = demands c (as_integer c.receiver) (λ x. demands c (as_integer (argument c 0)) (λ y. go x y))

-- goes on with a divisor that is not 0
abbrev pub divisor : ℤ → PrimResult → PrimResult
divisor y r = if is_zero y then faults divide_by_zero else r

-- the sum
abbrev pub adds : Call → PrimResult
adds c = two_integers c (λ x y. answers_integer c (x +ℤ y))

-- the difference
abbrev pub subtracts : Call → PrimResult
subtracts c = two_integers c (λ x y. answers_integer c (x -ℤ y))

-- the product
abbrev pub multiplies : Call → PrimResult
multiplies c = two_integers c (λ x y. answers_integer c (x *ℤ y))

-- the quotient rounded down
abbrev pub divides_down : Call → PrimResult
divides_down c = two_integers c (λ x y. divisor y (answers_integer c (floor_quotient x y)))

-- what is left by the quotient rounded down
abbrev pub gives_remainder : Call → PrimResult
gives_remainder c = two_integers c (λ x y. divisor y (answers_integer c (floor_remainder x y)))

-- the quotient where it is whole
abbrev pub divides_exactly : Call → PrimResult
divides_exactly c =
    two_integers c (λ x y. divisor y (if is_zero (floor_remainder x y) then answers_integer c (floor_quotient x y) else faults unsupported))

-- whether the receiver is less
abbrev pub is_less : Call → PrimResult
is_less c = two_integers c (λ x y. answers_truth c (int_lt x y))

-- the bits of two's complement that are set in both
abbrev pub bits_in_both : Call → PrimResult
bits_in_both c = two_integers c (λ x y. at_once c (int_value (int_bit_and w64 x y)))

-- the bits of two's complement that are set in one or both
abbrev pub bits_in_any : Call → PrimResult
bits_in_any c = two_integers c (λ x y. at_once c (int_value (int_bit_or w64 x y)))

-- times 2 to the power of the argument, rounded down
abbrev pub shifts : Call → PrimResult
shifts c = two_integers c (λ x y. answers_integer c (shifted x y))

-- the decimal digits of an integer, behind a minus sign where it is negative
abbrev pub prints_integer : Call → PrimResult
prints_integer c = demands c (as_integer c.receiver) (λ x. makes_bytes c string_value (signed_decimal x))

-- the integer as a byte
abbrev pub byte_of : ℤ → Option ℕ
byte_of (pos n) = if nat_lt n 256 then Some n else None
byte_of (negsuc n) = None

-- the character of an integer from 0 to 255
abbrev pub gives_character : Call → PrimResult
gives_character c = demands c (as_integer c.receiver) (λ x. demands c (byte_of x) (λ b. at_once c (char_value b)))

-- the byte of a character as an integer
abbrev pub gives_byte : Call → PrimResult
gives_byte c = demands c (as_char c.receiver) (λ b. at_once c (int_value (pos b)))

-- the string of a character alone
abbrev pub string_of_character : Call → PrimResult
string_of_character c = demands c (as_char c.receiver) (λ b. makes_bytes c string_value (b ∷ []))

-- how a character is printed
abbrev pub prints_character : Call → PrimResult
prints_character c = demands c (as_char c.receiver) (λ b. makes_bytes c string_value (char_text b))
