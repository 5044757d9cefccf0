-- The places that numerals state in a file of changes.
use Rattle.std.specs.Prelude.{ℕ, suc, List, length, drop, nat_le, if◌then◌else◌, ℤ, pos, negsuc, Option, Some, None}
use Rattle.std.specs.List.{list_any, before_first}
use Rattle.std.specs.Option.{option_and_then}
use Rattle.run_model.specs.Numbers.{is_radix_mark, numeral_integer}

-- the digits of a numeral without a sign: those behind `r`, where a base stands before it
abbrev pub digits_of : List ℕ → List ℕ
digits_of t = if list_any is_radix_mark t then drop (suc (length (before_first is_radix_mark t))) t else t

-- the place that an integer states: 1 or more
abbrev pub positive : ℤ → Option ℕ
positive (pos n) = if nat_le 1 n then Some n else None
positive (negsuc n) = None

-- the place that a numeral states: an integer of at most nine digits that is 1 or more
abbrev pub place_in : List ℕ → Option ℕ
place_in t = if nat_le (length (digits_of t)) 9 then option_and_then positive (numeral_integer t) else None
