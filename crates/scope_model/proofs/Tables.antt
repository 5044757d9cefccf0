-- Numbers in a table of names answer what their texts answer.
use Rattle.std.proofs.Common.{ℕ, ◌<◌, List, length, refl}
use Rattle.rb_base.specs.Names.{HasNoTwice, name_at}
use Rattle.rb_base.proofs.NamesLemmas.{text_eq-name_at}
use Rattle.scope_model.specs.NameTests.{KeepsAnswers, number_tests, text_tests}

-- in a table without a text that has two numbers
pub KeepsAnswers-number_tests : (names : List (List ℕ)) → HasNoTwice names
    → KeepsAnswers (λ n. n < length names) (name_at names) (number_tests names) text_tests
KeepsAnswers-number_tests names distinct =
    record { same = λ j k p q. text_eq-name_at names distinct j k p q; is_pseudo = λ n p. refl; form = λ n p. refl }
