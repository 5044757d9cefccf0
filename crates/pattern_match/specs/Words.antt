-- What patterns ask of names that are numbers in a table.
use Rattle.std.specs.Prelude.{ℕ, List}
use Rattle.rb_base.specs.Names.{name_at}
use Rattle.scope_model.specs.NameTests.{number_tests}
use Rattle.text_model.specs.Literals.{is_identifier}
use Rattle.pattern_model.specs.Words.{PatternWordsOf, text_keywords}

-- numbers are compared, and else asked through their texts
abbrev pub number_words : List (List ℕ) → PatternWordsOf ℕ
number_words names = record {
  tests = number_tests names;
  is_unary = λ n. is_identifier (name_at names n);
  keywords = λ n. text_keywords (name_at names n);
}
