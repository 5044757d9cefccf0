-- What the grammar sees of the tokens of a text.
use Rattle.std.specs.Prelude.{◌≡◌, ℕ, ◌-◌, Bool, true, false, ◌&&◌, ◌==◌, if◌then◌else◌, nat_le, List, [], ◌∷◌, ◌++◌, length, drop, slice_index, slice_range, codes, Option, Some, None}
use Rattle.std.specs.List.{list_all}
use Rattle.std.specs.Option.{option_map_or}
use Rattle.std.specs.Str.{bytes_eq}
use Rattle.std.specs.Str.Parse.{digits_value}
use Rattle.token_model.specs.Bytes.{is_digit}
use Rattle.token_model.specs.TokenLists.{Piece, HasTokens}
use Rattle.token_model.specs.declared.kind.Dialect.{Dialect}
use Rattle.token_model.specs.declared.kind.TokenKind.{TokenKind}
use Rattle.token_model.specs.declared.kind.TokenKind.TheVariants as token
use Rattle.tree_model.specs.Tree.{Notes, str, symbol, char}
use Rattle.grammar_model.specs.Terminal.{Text, Ordinary, Super, AnyKeyword, PrimitiveKeyword, Common, Sign, Less, Greater, Bar, NumeralKind, SmallDigits, LargeDigits, OtherNumeral, Group, BlockStart, BraceStart, ArrayStart, BytesStart, GroupEnd, BlockEnd, BraceEnd, TextEnd, Terminal, Name, Keyword, Binary, Numeral, Constant, Opens, Closes, Assignment, Colon, Semicolon, Period, Caret}
use Rattle.grammar_model.specs.Input.{Lexeme, lex}

-- each pair of marks made one; the flag says that the first mark of a pair was passed
abbrev pub singled : ℕ → Bool → Text → Text
singled mark odd [] = []
singled mark odd (b ∷ s) = if b == mark then (if odd then singled mark false s else b ∷ singled mark true s) else b ∷ singled mark false s

-- what a string holds: the bytes between its quotes, each pair of quotes made one
abbrev pub unquoted : Text → Text
unquoted s = singled 39 false (slice_range s 1 (length s - 1))

-- what a symbol names: the bytes behind its mark, or what the string behind it holds
abbrev pub symbol_text : Text → Text
symbol_text s = if slice_index s 1 == 39 then unquoted (drop 1 s) else drop 1 s

-- an identifier
abbrev pub name_of : Text → Terminal
name_of s = if bytes_eq s (codes "super") then Name Super s else Name Ordinary s

-- a keyword
abbrev pub keyword_of : Text → Terminal
keyword_of s = if bytes_eq s (codes "primitive:") then Keyword PrimitiveKeyword s else Keyword AnyKeyword s

-- a binary selector; the flag says that a numeral begins where it ends
abbrev pub binary_of : Text → Bool → Terminal
binary_of s before_numeral =
    if bytes_eq s (codes "-") && before_numeral then Binary Sign s
    else if bytes_eq s (codes "<") then Binary Less s
    else if bytes_eq s (codes ">") then Binary Greater s
    else Binary Common s

-- digits alone, up to 65,535 or more, or another numeral
abbrev pub numeral_of : Text → NumeralKind
numeral_of s = if list_all is_digit s then (if nat_le (digits_value 10 s) 65535 then SmallDigits else LargeDigits) else OtherNumeral

-- what the grammar sees of a token with these bytes; a comment it does not see
abbrev pub terminal_of : TokenKind → Text → Bool → Option Terminal
terminal_of token.Identifier s b = Some (name_of s)
terminal_of token.Keyword s b = Some (keyword_of s)
terminal_of token.Binary s b = Some (binary_of s b)
terminal_of token.Bar s b = Some (Binary Bar s)
terminal_of token.Assign s b = Some Assignment
terminal_of token.Colon s b = Some Colon
terminal_of token.Semicolon s b = Some Semicolon
terminal_of token.Period s b = Some Period
terminal_of token.Caret s b = Some Caret
terminal_of token.Open s b = Some (Opens Group)
terminal_of token.Close s b = Some (Closes GroupEnd)
terminal_of token.BlockOpen s b = Some (Opens BlockStart)
terminal_of token.BlockClose s b = Some (Closes BlockEnd)
terminal_of token.BraceOpen s b = Some (Opens BraceStart)
terminal_of token.BraceClose s b = Some (Closes BraceEnd)
terminal_of token.ArrayOpen s b = Some (Opens ArrayStart)
terminal_of token.BytesOpen s b = Some (Opens BytesStart)
terminal_of token.String s b = Some (Constant (str (unquoted s)))
terminal_of token.Comment s b = None
terminal_of token.Character s b = Some (Constant (char (slice_index s 1)))
terminal_of token.Symbol s b = Some (Constant (symbol (symbol_text s)))
terminal_of token.Numeral s b = Some (Numeral (numeral_of s) s)
terminal_of token.End s b = Some (Closes TextEnd)

-- whether a token is a numeral
abbrev pub is_numeral : TokenKind → Bool
is_numeral token.Numeral = true
is_numeral k = false

-- whether a numeral begins at this place
abbrev pub begins_numeral : ℕ → List Piece → Bool
begins_numeral at [] = false
begins_numeral at (p ∷ ps) = is_numeral p.kind && (p.from == at)

-- the tokens of a text, seen so one by one, the comments before the first of them in front
abbrev pub lexemes_by : (TokenKind → Text → Bool → Option Terminal) → Text → Notes → List Piece → List Lexeme
lexemes_by seen t held [] = []
lexemes_by seen t held (p ∷ ps) =
    option_map_or (λ k. lex held p.from p.to k ∷ lexemes_by seen t [] ps)
    (seen p.kind (slice_range t p.from p.to) (begins_numeral p.to ps))
    (lexemes_by seen t (held ++ slice_range t p.from p.to ∷ []) ps)

-- the tokens of a text as the grammar sees them, the comments before the first of them in front
abbrev pub lexemes_of : Text → Notes → List Piece → List Lexeme
lexemes_of t held ps = lexemes_by terminal_of t held ps

-- the text has no lexical fault, and the grammar sees these tokens of it
pub record IsLexed (d : Dialect) (t : Text) (ts : List Lexeme) : Type 0 where
  pub pieces : List Piece
  pub read : HasTokens d t 0 pieces None
  pub same : ts ≡ lexemes_of t [] pieces
