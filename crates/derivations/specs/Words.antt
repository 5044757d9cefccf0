-- The words of the laws in a table of names, and patterns by their numbers.
use Rattle.std.specs.Prelude.{◌≡◌, ℕ, true, List, [], ◌∷◌, codes, unwrap_or}
use Rattle.std.specs.List.{AllByRecursion, list_any}
use Rattle.rb_base.specs.Names.{text_eq, number_in}
use Rattle.pattern_model.specs.Patterns.{PatternOf}
use Rattle.pattern_model.specs.Named.{map_pattern}
use Rattle.certified_model.specs.Marks.{Text}

-- the names and selectors in the sides of the laws
abbrev pub law_words : List Text
law_words =
    codes "a" ∷ codes "b" ∷ codes "c" ∷ codes "s" ∷ codes "t" ∷ codes "m" ∷ codes "n"
    ∷ codes "self" ∷ codes "nil" ∷ codes "true" ∷ codes "false"
    ∷ codes "ifTrue:" ∷ codes "ifFalse:" ∷ codes "ifTrue:ifFalse:" ∷ codes "ifFalse:ifTrue:" ∷ codes "and:" ∷ codes "or:"
    ∷ []

-- a table has a text
abbrev pub HasText : List Text → Text → Type 0
HasText names t = list_any (text_eq t) names ≡ true

abbrev pub HasWords : List Text → Type 0
HasWords names = AllByRecursion (HasText names) law_words

-- the number of a text in a table
abbrev pub number_at : List Text → Text → ℕ
number_at names t = unwrap_or (number_in names t) 0

-- a pattern by the numbers of its texts
abbrev pub by_numbers : List Text → PatternOf Text → PatternOf ℕ
by_numbers names p = map_pattern (number_at names) p
