-- What commands ask of names and of sources.
use Rattle.std.specs.Prelude.{List, Bool, ◌||◌, ℕ, None, codes}
use Rattle.rb_base.specs.Names.{text_eq}
use Rattle.image_model.specs.Words.{WordsOf, text_words}
use Rattle.rename_model.specs.CommandWords.{CommandWordsOf, text_command_words}
use Rattle.command_model.specs.Located.{Locating}
use Rattle.command_model.specs.PartsOfText.{parts_of_text}

-- what images ask of names, what commands ask of new ones, and which name is `super`; the name `self`, and whether a name is `nil`, `true` or `false`; and the part of a method at a place of its source
pub record AskedOf (N : Type 0) : Type 0 where
  pub words : WordsOf N
  pub command_words : CommandWordsOf N
  pub is_super : N → Bool
  pub self_name : N
  pub is_constant : N → Bool
  pub part_of : Locating

-- whether a text names a constant
abbrev pub is_constant_text : List ℕ → Bool
is_constant_text n = text_eq (codes "nil") n || (text_eq (codes "true") n || text_eq (codes "false") n)

-- the same, asked of texts
abbrev pub asked_of_texts : Locating → AskedOf (List ℕ)
asked_of_texts part_of = record {
  words = text_words;
  command_words = text_command_words;
  is_super = text_eq (codes "super");
  self_name = codes "self";
  is_constant = is_constant_text;
  part_of = part_of;
}

-- the look-up that finds nothing: that is enough for each command that names no part
abbrev pub no_parts : Locating
no_parts source from to = None

-- what is asked of texts, where parts are looked up in sources that spell a method
abbrev pub text_asked : AskedOf (List ℕ)
text_asked = asked_of_texts parts_of_text
