-- What the grammar sees of a token, and the tokens behind it.
use Rattle.std.specs.Prelude.{◌≡◌, ◌≢◌, List, [], ◌∷◌}
use Rattle.tree_model.specs.Tree.{Notes}
use Rattle.grammar_model.specs.Terminal.{Text, Terminal}
use Rattle.grammar_model.specs.Input.{Lexeme, lex}
use Rattle.grammar_model.specs.Whole.{Form}
use Rattle.st_faults.specs.declared.sort.Sort.TheVariants.{TextEnd}
use Rattle.st_faults.specs.declared.lexeme.Lexeme as faults
use Rattle.st_faults.specs.Sorts.{terminal}
use Rattle.st_faults.specs.Lexing.{literal_of, IsLexedFrom}
use Rattle.st_events.specs.declared.token.Token.{Token}

-- a token as the grammar sees it
abbrev pub seen : Token → Terminal
seen t = terminal t.sort t.text.now (literal_of t.kind t.text.now)

-- a token as the search for faults sees it
abbrev pub lexeme_of : Token → faults.Lexeme
lexeme_of t = record { sort = t.sort; from = t.from; to = t.to }

-- the tokens begin with this one, which has these comments before it
pub record Begins (form : Form) (text : Text) (t : Token) (notes : Notes) (ts : List Lexeme) : Type 0 where
  pub rest : List Lexeme
  pub whole : ts ≡ lex notes t.from t.to (seen t) ∷ rest
  pub behind : t.sort ≢ TextEnd → IsLexedFrom form text t.to [] rest
