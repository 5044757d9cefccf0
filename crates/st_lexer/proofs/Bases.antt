-- The number that decimal digits write, one digit after the other.
use Rattle.std.proofs.Common.{◌≡◌, ℕ, ◌+◌, ◌*◌, ◌<◌, ◌≤◌, List, length, get_or, ◌∙◌, ap}
use Rattle.std.specs.Prelude.{slice_range}
use Rattle.std.specs.Char.{digit_value}
use Rattle.std.specs.Str.Parse.{digits_value}
use Rattle.std.proofs.lemmas.List.Edits.{between_more}
use Rattle.std.proofs.lemmas.Int.Digits.{digits_value_push}

-- one more digit of a part of the text
pub digits_value-more : (t : List ℕ) (from at : ℕ) → from ≤ at → at < length t → digits_value 10 (slice_range t from (at + 1)) ≡ digits_value 10 (slice_range t from at) * 10 + digit_value (get_or t at 0)
digits_value-more t from at le lt =
    ap (digits_value 10) (between_more t from at 0 le lt) ∙ digits_value_push 10 (slice_range t from at) (get_or t at 0)
