-- The tokens that the grammar sees from a place of a text on. Metavariables are tokens of patterns alone.
use Rattle.std.specs.Prelude.{◌≡◌, ◌≢◌, ℕ, ◌⊎◌, List, [], ◌∷◌, Some, None, slice_index, slice_range}
use Rattle.token_model.specs.Bytes.{is_digit}
use Rattle.token_model.specs.TokenLists.{Piece}
use Rattle.token_model.specs.declared.kind.Dialect.TheVariants.{Second}
use Rattle.token_model.specs.declared.kind.TokenKind.{TokenKind}
use Rattle.token_model.specs.declared.kind.TokenKind.TheVariants.{Comment, Character, Symbol}
use Rattle.token_model.specs.declared.fault.LexFault.{LexFault}
use Rattle.tree_model.specs.Tree.{Notes, LiteralOf, str, symbol, char}
use Rattle.grammar_model.specs.Terminal.{Text}
use Rattle.grammar_model.specs.Input as input
use Rattle.grammar_model.specs.Input.{lex}
use Rattle.grammar_model.specs.Whole.{Form}
use Rattle.grammar_model.specs.Lexemes.{unquoted, symbol_text, lexemes_by}
use Rattle.grammar_model.specs.PatternTokens.{IsNextOf, HasTokensOf, terminal_in}
use Rattle.st_faults.specs.declared.sort.Sort.TheVariants.{TextEnd}
use Rattle.st_faults.specs.declared.lexeme.Lexeme.{Lexeme}
use Rattle.st_faults.specs.Sorts.{terminal}

-- the literal that a string, a character or a symbol with these bytes spells
abbrev pub literal_of : TokenKind → Text → LiteralOf Text
literal_of Character s = char (slice_index s 1)
literal_of Symbol s = symbol (symbol_text s)
literal_of k s = str (unquoted s)

-- from a place on, with these comments before it, the text has no lexical fault, and the grammar sees these tokens
pub record IsLexedFrom (form : Form) (t : Text) (at : ℕ) (held : Notes) (ts : List input.Lexeme) : Type 0 where
  pub pieces : List Piece
  pub read : HasTokensOf form Second t at pieces None
  pub same : ts ≡ lexemes_by (terminal_in form) t held pieces

-- from a place on the text has this lexical fault first
abbrev pub HasLexFault : Form → Text → ℕ → LexFault → Type 0
HasLexFault form t at fault = (pieces : List Piece) × HasTokensOf form Second t at pieces (Some fault)

-- the tokens behind this one: none behind the end, else those from its end on
abbrev pub IsBehind : Form → Text → Lexeme → List input.Lexeme → Type 0
IsBehind form t l ts = ((l.sort ≡ TextEnd) × (ts ≡ [])) ⊎ ((l.sort ≢ TextEnd) × IsLexedFrom form t l.to [] ts)

-- from one place up to another stand comments alone, and blanks between them
pub data HasComments (form : Form) (t : Text) (start : ℕ) : ℕ → Type 0 where
  NoComment : HasComments form t start start
  OneComment : (at : ℕ) (p : Piece) → HasComments form t start at → IsNextOf form Second t at p → p.kind ≡ Comment → HasComments form t start p.to

-- From a place on this token is the first that is no comment, and the grammar sees it as one of its sort: a numeral
-- begins where it ends if a digit stands there. Joined to the tokens behind it, or to a fault behind it, it gives those
-- from the place on.
pub record IsFirst (form : Form) (t : Text) (at : ℕ) (l : Lexeme) : Type 0 where
  pub notes : Notes
  pub kind : TokenKind
  pub place : ℕ
  pub text : Text
  pub literal : LiteralOf Text
  pub comments : HasComments form t at place
  pub token : IsNextOf form Second t place (record { kind = kind; from = l.from; to = l.to })
  pub seen : terminal_in form kind (slice_range t l.from l.to) (is_digit (slice_index t l.to)) ≡ Some (terminal l.sort text literal)
  pub joined : (ts : List input.Lexeme) → IsBehind form t l ts → IsLexedFrom form t at [] (lex notes l.from l.to (terminal l.sort text literal) ∷ ts)
  pub fault : (fault : LexFault) → l.sort ≢ TextEnd → HasLexFault form t l.to fault → HasLexFault form t at fault
