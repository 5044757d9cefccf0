-- What commands ask where names are numbers of a table, one of which is `self`, and how changed trees are written there.
use Rattle.std.specs.Prelude.{ℕ, List, codes}
use Rattle.rb_base.specs.Names.{text_eq, name_at}
use Rattle.tree_model.specs.Tree.{map_sequence, map_method}
use Rattle.text_model.specs.Whole.{canonical_method, canonical_doit}
use Rattle.image_model.specs.Words.{number_words}
use Rattle.rename_model.specs.CommandWords.{is_reflective_name, is_good_class_name, is_good_variable_name, is_good_selector, has_own_meaning, arity, CommandWordsOf}
use Rattle.rename_model.specs.ClassRenamed.{WritingOf}
use Rattle.st_kernel.specs.Selectors.{is_reflective_selector}
use Rattle.command_model.specs.Located.{Locating}
use Rattle.command_model.specs.Asked.{AskedOf, is_constant_text}

-- what commands ask of new names, by their texts
abbrev pub number_command_words : List (List ℕ) → CommandWordsOf ℕ
number_command_words names = record {
  is_reflective_selector = λ n. is_reflective_selector (name_at names n);
  is_not_understood = λ n. text_eq (codes "doesNotUnderstand:") (name_at names n);
  is_reflective_name = λ n. is_reflective_name (name_at names n);
  is_good_class_name = λ n. is_good_class_name (name_at names n);
  is_good_variable_name = λ n. is_good_variable_name (name_at names n);
  is_good_selector = λ n. is_good_selector (name_at names n);
  has_own_meaning = λ n. has_own_meaning (name_at names n);
  arity = λ n. arity (name_at names n);
}

-- what conditions ask of numbers in a table of names
abbrev pub number_asked : List (List ℕ) → ℕ → Locating → AskedOf ℕ
number_asked names self_number part_of = record {
  words = number_words names;
  command_words = number_command_words names;
  is_super = λ n. text_eq (codes "super") (name_at names n);
  self_name = self_number;
  is_constant = λ n. is_constant_text (name_at names n);
  part_of = part_of;
}

-- trees of numbers as canonical text
abbrev pub number_writing : List (List ℕ) → WritingOf ℕ
number_writing names = record {
  method_text = λ m. canonical_method (map_method (name_at names) m);
  doit_text = λ b. canonical_doit (map_sequence (name_at names) b);
}
