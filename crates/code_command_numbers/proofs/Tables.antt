-- Numbers in a table of names, one of which is that of `self`, answer what their texts answer, and what they answer in a longer table.
use Rattle.std.proofs.Common.{ℕ, ◌<◌, List, ◌++◌, length, length-append, refl, sym, ◌∙◌, arith}
use Rattle.rb_base.specs.Names.{HasNoTwice, name_at}
use Rattle.command_model.specs.Located.{Locating}
use Rattle.command_model.specs.Asked.{asked_of_texts}
use Rattle.command_model.specs.Numbers.{number_asked}
use Rattle.command_numbers.proofs.Tables.{KeepsAsked-number_asked, name_at-more, KeepsAsked-more}
use Rattle.code_command_numbers.specs.KeepsMoves.{KeepsMoves}
use Rattle.code_command_numbers.specs.SelfNumber.{IsNumberOfSelf}

-- in a table without a text that has two numbers, with the number of `self`
pub KeepsMoves-number_asked : (names : List (List ℕ)) (self_number : ℕ) (part_of : Locating) → HasNoTwice names → IsNumberOfSelf names self_number
    → KeepsMoves (λ n. n < length names) (name_at names) (number_asked names self_number part_of) (asked_of_texts part_of)
KeepsMoves-number_asked names self_number part_of distinct is_self =
    let keeps = KeepsAsked-number_asked names self_number part_of distinct in
    record {
      asked = record { words = keeps.words; command_words = keeps.command_words; is_super = keeps.is_super; is_constant = keeps.is_constant };
      self_known = is_self.known;
      self_name = sym is_self.spelled;
      part_of = refl;
    }

-- `self` in a longer table
pub IsNumberOfSelf-more : (names more : List (List ℕ)) (n : ℕ) → IsNumberOfSelf names n → IsNumberOfSelf (names ++ more) n
IsNumberOfSelf-more names more n is_self = record { known = longer n is_self.known; spelled = name_at-more names more n is_self.known ∙ is_self.spelled }
  where
    longer : (k : ℕ) → k < length names → k < length (names ++ more)
    longer k h = omega (arith, h, length-append names more)

-- what is asked there
pub KeepsMoves-more : (names more : List (List ℕ)) (self_number : ℕ) (part_of : Locating) → self_number < length names → KeepsMoves (λ n. n < length names) (λ n. n) (number_asked names self_number part_of) (number_asked (names ++ more) self_number part_of)
KeepsMoves-more names more self_number part_of known = record { asked = KeepsAsked-more names more self_number part_of; self_known = known; self_name = refl; part_of = refl }
