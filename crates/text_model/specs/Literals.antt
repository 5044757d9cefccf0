-- How literals are written.
use Rattle.std.specs.Prelude.{ℕ, ◌==◌, ◌&&◌, ◌||◌, if◌then◌else◌, Bool, false, List, [], ◌∷◌, ◌++◌, codes}
use Rattle.std.specs.List.{list_all}
use Rattle.rb_base.specs.Doubling.{doubled}
use Rattle.token_model.specs.Bytes.{is_letter, is_word, is_binary, is_second}
use Rattle.tree_model.specs.Tree.{LiteralOf, number, str, symbol, char, array, bytes, word, LiteralsOf, no_literals, more_literals}
use Rattle.text_model.specs.Pieces.{is_colon, pieces_joined, keywords_of}

-- a letter, then letters and digits
abbrev pub is_identifier : List ℕ → Bool
is_identifier [] = false
is_identifier (b ∷ s) = is_letter b && list_all is_word s

-- letters and digits, then a colon at the end
abbrev pub ends_as_keyword : List ℕ → Bool
ends_as_keyword [] = false
ends_as_keyword (b ∷ []) = is_colon b
ends_as_keyword (b ∷ c ∷ s) = is_word b && ends_as_keyword (c ∷ s)

-- an identifier and a colon
abbrev pub is_keyword : List ℕ → Bool
is_keyword [] = false
is_keyword (b ∷ s) = is_letter b && ends_as_keyword s

-- one or more keywords
abbrev pub is_keyword_row : List ℕ → Bool
is_keyword_row [] = false
is_keyword_row (b ∷ s) = list_all is_keyword (keywords_of (b ∷ s))

-- one or two characters of binary selectors, the second no minus sign, or a bar alone
abbrev pub is_operator : List ℕ → Bool
is_operator [] = false
is_operator (a ∷ []) = is_binary a || a == 124
is_operator (a ∷ b ∷ []) = is_binary a && is_second b
is_operator (a ∷ b ∷ c ∷ s) = false

-- a selector: the symbols that are spelled without quotes
abbrev pub is_selector : List ℕ → Bool
is_selector t = is_identifier t || is_keyword_row t || is_operator t

-- in quotes, each quote in it doubled
abbrev pub quoted_text : List ℕ → List ℕ
quoted_text t = codes "'" ++ doubled 39 t ++ codes "'"

-- # and the symbol, in quotes where it has no other spelling
abbrev pub symbol_text : List ℕ → List ℕ
symbol_text t = codes "#" ++ (if is_selector t then t else quoted_text t)

-- A numeral is written as it is spelled, and the elements of an array with one blank between them; nested arrays have their # too.
abbrev mutual
  pub literal_text : LiteralOf (List ℕ) → List ℕ
  literal_text (number t) = t
  literal_text (str t) = quoted_text t
  literal_text (symbol t) = symbol_text t
  literal_text (char b) = codes "$" ++ b ∷ []
  literal_text (array ls) = codes "#(" ++ pieces_joined (codes " ") (literal_texts ls) ++ codes ")"
  literal_text (bytes ls) = codes "#[" ++ pieces_joined (codes " ") (literal_texts ls) ++ codes "]"
  literal_text (word n) = n

  pub literal_texts : LiteralsOf (List ℕ) → List (List ℕ)
  literal_texts no_literals = []
  literal_texts (more_literals l ls) = literal_text l ∷ literal_texts ls
