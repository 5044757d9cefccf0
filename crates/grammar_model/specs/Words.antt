-- Identifiers with a meaning of their own.
use Rattle.std.specs.Prelude.{Bool, ◌||◌, codes}
use Rattle.std.specs.Str.{bytes_eq}
use Rattle.grammar_model.specs.Terminal.{Text}

-- nil, true and false
abbrev pub is_literal_word : Text → Bool
is_literal_word n = bytes_eq n (codes "nil") || bytes_eq n (codes "true") || bytes_eq n (codes "false")

-- the names that can be assigned nowhere: self, super, nil, true, false and thisContext
abbrev pub is_pseudo : Text → Bool
is_pseudo n = is_literal_word n || bytes_eq n (codes "self") || bytes_eq n (codes "super") || bytes_eq n (codes "thisContext")
