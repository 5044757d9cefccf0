-- Tokens of patterns: those of other texts, and metavariables, which begin with a backquote.
use Rattle.std.specs.Prelude.{◌≡◌, ◌≢◌, ℕ, ◌+◌, ◌==◌, ◌||◌, ◌⊎◌, if◌then◌else◌, Bool, List, [], ◌∷◌, slice_index, Option, Some, None}
use Rattle.token_model.specs.Bytes.{is_blank, Has, IsRun}
use Rattle.token_model.specs.Tokens.{IsName, HasColon, IsToken}
use Rattle.token_model.specs.Faults.{IsFault}
use Rattle.token_model.specs.TokenLists.{Piece, IsNext, IsNextFault, HasTokens}
use Rattle.token_model.specs.declared.kind.Dialect.{Dialect}
use Rattle.token_model.specs.declared.kind.Dialect.TheVariants.{Second}
use Rattle.token_model.specs.declared.kind.TokenKind.{TokenKind}
use Rattle.token_model.specs.declared.kind.TokenKind.TheVariants as token
use Rattle.token_model.specs.declared.fault.LexFault.{LexFault}
use Rattle.grammar_model.specs.Terminal.{Text, AnyKey, AnyName, AnyLiteral, AnyExpression, Terminal, Keyword, OperandMeta, StatementMeta, MessageMeta}
use Rattle.grammar_model.specs.Input.{Lexeme}
use Rattle.grammar_model.specs.Lexemes.{name_of, keyword_of, terminal_of, lexemes_by, IsLexed}
use Rattle.grammar_model.specs.Whole.{Form, DoIt, Method, PatternText}

-- behind the backquotes that begin at i, one or two
abbrev pub mark_at : Text → ℕ → ℕ
mark_at t i = if slice_index t (i + 1) == 96 then i + 2 else i + 1

-- behind the mark at m: #, @, . or .@, or none
abbrev pub behind_mark : Text → ℕ → ℕ
behind_mark t m =
    if slice_index t m == 46 then (if slice_index t (m + 1) == 64 then m + 2 else m + 1)
    else if slice_index t m == 35 || slice_index t m == 64 then m + 1
    else m

-- what may stand behind a mark with this first byte: an identifier behind each, a keyword behind none and behind @
abbrev pub MayMark : ℕ → TokenKind → Type 0
MayMark b token.Identifier = Unit {0}
MayMark b token.Keyword = (b ≢ 35) × (b ≢ 46)
MayMark b k = ⊥

-- the word behind a mark with this first byte: behind # and . a name, whatever follows it, and else a token
abbrev pub IsMetaWord : ℕ → TokenKind → Text → ℕ → ℕ → Type 0
IsMetaWord b token.Identifier t i j = IsName t i j × (b ≢ 35 → b ≢ 46 → ¬ HasColon t j)
IsMetaWord b kind t i j = IsToken Second kind t i j

-- A metavariable, `x, `#x, `@x, `.x, `.@x, `k: or `@k:, with one backquote or two. It is of the kind of its word.
pub record IsMeta (kind : TokenKind) (t : Text) (i j : ℕ) : Type 0 where
  pub quote : Has t i 96
  pub mark : MayMark (slice_index t (mark_at t i)) kind
  pub word : IsMetaWord (slice_index t (mark_at t i)) kind t (behind_mark t (mark_at t i)) j

-- the bytes of the text from i up to j are a token of a pattern
abbrev pub IsPatternToken : Dialect → TokenKind → Text → ℕ → ℕ → Type 0
IsPatternToken d kind t i j = IsToken d kind t i j ⊎ IsMeta kind t i j

-- behind the blanks from at on stands this token of a pattern
pub record IsPatternNext (d : Dialect) (t : Text) (at : ℕ) (p : Piece) : Type 0 where
  pub blanks : IsRun is_blank t at p.from
  pub token : IsPatternToken d p.kind t p.from p.to

-- behind the blanks from at on no token of a pattern begins, with this fault: at a backquote, BadByte
pub record IsPatternNextFault (d : Dialect) (t : Text) (at : ℕ) (fault : LexFault) : Type 0 where
  pub from : ℕ
  pub blanks : IsRun is_blank t at from
  pub no_meta : (kind : TokenKind) (j : ℕ) → ¬ IsMeta kind t from j
  pub fails : IsFault d t from fault

-- the tokens of the pattern from at on: up to the end, or up to the first fault
pub data HasPatternTokens (d : Dialect) (t : Text) : ℕ → List Piece → Option LexFault → Type 0 where
  Ended : (at : ℕ) (p : Piece) → IsPatternNext d t at p → p.kind ≡ token.End → HasPatternTokens d t at (p ∷ []) None
  Stopped : (at : ℕ) (fault : LexFault) → IsPatternNextFault d t at fault → HasPatternTokens d t at [] (Some fault)
  Further : (at : ℕ) (p : Piece) (ps : List Piece) (fault : Option LexFault) → IsPatternNext d t at p → p.kind ≢ token.End → HasPatternTokens d t p.to ps fault → HasPatternTokens d t at (p ∷ ps) fault

-- a metavariable that stands as an operand or a statement
abbrev pub meta_name_of : Text → Terminal
meta_name_of s =
    if slice_index s (mark_at s 0) == 46 then StatementMeta s
    else if slice_index s (mark_at s 0) == 35 then OperandMeta AnyLiteral s
    else if slice_index s (mark_at s 0) == 64 then OperandMeta AnyExpression s
    else OperandMeta AnyName s

-- a metavariable that stands as a keyword or begins a whole message
abbrev pub meta_keyword_of : Text → Terminal
meta_keyword_of s = if slice_index s (mark_at s 0) == 64 then MessageMeta s else Keyword AnyKey s

-- what the grammar sees of a token of a pattern
abbrev pub pattern_terminal_of : TokenKind → Text → Bool → Option Terminal
pattern_terminal_of token.Identifier s b = Some (if slice_index s 0 == 96 then meta_name_of s else name_of s)
pattern_terminal_of token.Keyword s b = Some (if slice_index s 0 == 96 then meta_keyword_of s else keyword_of s)
pattern_terminal_of kind s b = terminal_of kind s b

-- the text has no lexical fault as a pattern, and the grammar sees these tokens of it
pub record IsPatternLexed (d : Dialect) (t : Text) (ts : List Lexeme) : Type 0 where
  pub pieces : List Piece
  pub read : HasPatternTokens d t 0 pieces None
  pub same : ts ≡ lexemes_by pattern_terminal_of t [] pieces

-- behind the blanks from at on stands this token of a text of a form: metavariables stand in patterns alone
abbrev pub IsNextOf : Form → Dialect → Text → ℕ → Piece → Type 0
IsNextOf DoIt d t = IsNext d t
IsNextOf (Method kernel) d t = IsNext d t
IsNextOf PatternText d t = IsPatternNext d t

-- behind the blanks from at on no token of a text of a form begins, with this fault
abbrev pub IsNextFaultOf : Form → Dialect → Text → ℕ → LexFault → Type 0
IsNextFaultOf DoIt d t = IsNextFault d t
IsNextFaultOf (Method kernel) d t = IsNextFault d t
IsNextFaultOf PatternText d t = IsPatternNextFault d t

-- the tokens of a text of a form, from at on
abbrev pub HasTokensOf : Form → Dialect → Text → ℕ → List Piece → Option LexFault → Type 0
HasTokensOf DoIt d t = HasTokens d t
HasTokensOf (Method kernel) d t = HasTokens d t
HasTokensOf PatternText d t = HasPatternTokens d t

-- what the grammar sees of a token of a text of a form
abbrev pub terminal_in : Form → TokenKind → Text → Bool → Option Terminal
terminal_in DoIt = terminal_of
terminal_in (Method kernel) = terminal_of
terminal_in PatternText = pattern_terminal_of

-- the text has no lexical fault, and the grammar sees these tokens of it, as one of a form
abbrev pub IsLexedAs : Form → Dialect → Text → List Lexeme → Type 0
IsLexedAs DoIt d t = IsLexed d t
IsLexedAs (Method kernel) d t = IsLexed d t
IsLexedAs PatternText d t = IsPatternLexed d t
