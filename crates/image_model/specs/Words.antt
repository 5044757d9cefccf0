-- How names are told apart, and which of them have a meaning of their own.
use Rattle.std.specs.Prelude.{◌≡◌, ℕ, List, Bool, codes}
use Rattle.rb_base.specs.Names.{text_eq, name_at}
use Rattle.scope_model.specs.NameTests.{NameTests, KeepsAnswers, text_tests, number_tests}

-- what is asked of names inside a method, and which name is that of a class or variable of which the language itself speaks
pub record WordsOf (N : Type 0) : Type 0 where
  pub tests : NameTests N
  pub is_object : N → Bool
  pub is_class : N → Bool
  pub is_undefined_object : N → Bool
  pub is_transcript : N → Bool

-- the words as texts
abbrev pub text_words : WordsOf (List ℕ)
text_words = record {
  tests = text_tests;
  is_object = text_eq (codes "Object");
  is_class = text_eq (codes "Class");
  is_undefined_object = text_eq (codes "UndefinedObject");
  is_transcript = text_eq (codes "Transcript");
}

-- the words as numbers of a table of names
abbrev pub number_words : List (List ℕ) → WordsOf ℕ
number_words names = record {
  tests = number_tests names;
  is_object = λ n. text_eq (codes "Object") (name_at names n);
  is_class = λ n. text_eq (codes "Class") (name_at names n);
  is_undefined_object = λ n. text_eq (codes "UndefinedObject") (name_at names n);
  is_transcript = λ n. text_eq (codes "Transcript") (name_at names n);
}

-- what is asked of the names of which P holds has the same answer once they are changed
pub record KeepsWords {M N : Type 0} (P : M → Type 0) (f : M → N) (before : WordsOf M) (after : WordsOf N) : Type 0 where
  pub tests : KeepsAnswers P f before.tests after.tests
  pub is_object : (n : M) → P n → after.is_object (f n) ≡ before.is_object n
  pub is_class : (n : M) → P n → after.is_class (f n) ≡ before.is_class n
  pub is_undefined_object : (n : M) → P n → after.is_undefined_object (f n) ≡ before.is_undefined_object n
  pub is_transcript : (n : M) → P n → after.is_transcript (f n) ≡ before.is_transcript n
