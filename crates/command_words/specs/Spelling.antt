-- How the words of a command line are spelled.
use Rattle.std.specs.Prelude.{ℕ, ◌+◌, ◌*◌, ◌-◌, nat_le, Bool, false, ◌&&◌, if◌then◌else◌, Option, Some, None, List, [], ◌∷◌}
use Rattle.std.specs.List.{list_all}
use Rattle.token_model.specs.Bytes.{is_between, is_digit}

-- the number that decimal digits write behind those of n
abbrev pub value_after : ℕ → List ℕ → ℕ
value_after n [] = n
value_after n (b ∷ s) = value_after (n * 10 + (b - 48)) s

-- digits without a leading zero
abbrev pub is_numeral : List ℕ → Bool
is_numeral [] = false
is_numeral (b ∷ s) = is_between 49 57 b && list_all is_digit s

-- a decimal number from 1 to a greatest one, without a leading zero
abbrev pub is_number : ℕ → List ℕ → Bool
is_number most s = is_numeral s && nat_le (value_after 0 s) most

-- the value of such a number
abbrev pub number_of : ℕ → List ℕ → Option ℕ
number_of most s = if is_number most s then Some (value_after 0 s) else None
