-- Numbers in a table of names answer what their texts answer.
use Rattle.std.proofs.Common.{ℕ, ◌<◌, List, length, refl}
use Rattle.rb_base.specs.Names.{HasNoTwice, name_at}
use Rattle.scope_model.proofs.Tables.{KeepsAnswers-number_tests}
use Rattle.image_model.specs.Words.{KeepsWords, number_words, text_words}

pub KeepsWords-number_words : (names : List (List ℕ)) → HasNoTwice names → KeepsWords (λ n. n < length names) (name_at names) (number_words names) text_words
KeepsWords-number_words names distinct = record {
  tests = KeepsAnswers-number_tests names distinct;
  is_object = λ n h. refl;
  is_class = λ n h. refl;
  is_undefined_object = λ n h. refl;
  is_transcript = λ n h. refl;
}
