-- Whole texts: a do-it is a sequence, and a method is a pattern and its body.
use Rattle.std.specs.Prelude.{◌≡◌, ℕ, List, [], ◌∷◌, ◌++◌, Bool, true, Option, Some, None}
use Rattle.std.specs.Str.Parse.{digits_value}
use Rattle.tree_model.specs.Tree.{Notes}
use Rattle.grammar_model.specs.Terminal.{Text, NameKind, KeywordKind, BinaryKind, Name, Keyword, Binary, Numeral, Closes, PrimitiveKeyword, Less, Greater, Bar, SmallDigits, TextEnd}
use Rattle.grammar_model.specs.Input.{first_from, Lexeme, lex, Input, beginning, kind_of, from_of, next, clear}
use Rattle.grammar_model.specs.Spanned.{Declared, SpannedStatements, NoStatements, SpannedSequence, SpannedMethod, SpannedTree, MoreStatements}
use Rattle.grammar_model.specs.Ahead.{Rows, Longest, Ends, NoKeyword, NoBar}
use Rattle.grammar_model.specs.Grammar.{Names, Sequence, Statements, Expression}

-- the end of the text stands here and nothing behind it; the comments that are held and those before the end are the tail
pub record IsOver (i : Input) (tail : Notes) : Type 0 where
  pub notes : Notes
  pub from : ℕ
  pub to : ℕ
  pub over : i.rest ≡ lex notes from to (Closes TextEnd) ∷ []
  pub tail_is : tail ≡ i.held ++ notes

-- the tokens are a do-it, and this is its tree
pub record IsDoIt (a : Rows) (ts : List Lexeme) (s : SpannedSequence) : Type 0 where
  pub stop : Input
  pub sequence : Sequence a (beginning ts) s.temporaries s.statements stop
  pub over : IsOver stop s.tail

-- keywords, each with the name of an argument
pub data PatternParts (a : Rows) : Input → Text → List Declared → Input → Type 0 where
  LastPatternPart : {i : Input} {c : KeywordKind} {d : NameKind} {k n : Text} → kind_of i ≡ Keyword c k → kind_of (next i) ≡ Name d n → Ends a (NoKeyword (kind_of (next (next i)))) →
      PatternParts a i k (record { name = n; from = from_of (next i) } ∷ []) (next (next i))
  FurtherPatternPart : {i j : Input} {c : KeywordKind} {d : NameKind} {k n s : Text} {ds : List Declared} → kind_of i ≡ Keyword c k → kind_of (next i) ≡ Name d n → PatternParts a (next (next i)) s ds j →
      PatternParts a i (k ++ s) (record { name = n; from = from_of (next i) } ∷ ds) j

-- a method's selector and its arguments
pub data Pattern (a : Rows) : Input → Text → List Declared → Input → Type 0 where
  UnaryPattern : {i : Input} {c : NameKind} {n : Text} → kind_of i ≡ Name c n → Pattern a i n [] (next i)
  BinaryPattern : {i : Input} {c : BinaryKind} {d : NameKind} {s n : Text} → kind_of i ≡ Binary c s → kind_of (next i) ≡ Name d n → Pattern a i s (record { name = n; from = from_of (next i) } ∷ []) (next (next i))
  KeywordPattern : {i j : Input} {s : Text} {ds : List Declared} → PatternParts a i s ds j → Pattern a i s ds j

-- temporaries and statements behind a pattern; apart stand the comments before the bar that opens the temporaries
pub data MethodBody (a : Rows) : Input → Notes → List Declared → SpannedStatements → Input → Type 0 where
  WithBars : {i m j : Input} {s t : Text} {ds : List Declared} {ss : SpannedStatements} → kind_of i ≡ Binary Bar s → Names a (clear (next i)) ds m → kind_of m ≡ Binary Bar t → Statements a (next m) ss j → MethodBody a i (next i).held ds ss j
  WithoutBars : {i j : Input} {ss : SpannedStatements} → Ends a (NoBar (kind_of i)) → Statements a i ss j → MethodBody a i [] [] ss j

-- the number of a primitive between its brackets
pub data Primitive : Input → ℕ → Input → Type 0 where
  OnePrimitive : {i : Input} {s k t u : Text} → kind_of i ≡ Binary Less s → kind_of (next i) ≡ Keyword PrimitiveKeyword k → kind_of (next (next i)) ≡ Numeral SmallDigits t → kind_of (next (next (next i))) ≡ Binary Greater u →
      Primitive i (digits_value 10 t) (next (next (next (next i))))

-- what stands behind the pattern; a primitive, only in the kernel, is the whole body
pub data Behind (a : Rows) : Bool → Input → Notes → Option ℕ → List Declared → SpannedStatements → Input → Type 0 where
  Plainly : {kernel : Bool} {i j : Input} {c : Notes} {ds : List Declared} {ss : SpannedStatements} → MethodBody a i c ds ss j → Behind a kernel i c None ds ss j
  Primitively : {i j : Input} {n : ℕ} → Primitive i n j → Behind a true i [] (Some n) [] NoStatements j

-- the tokens are a method, of the kernel or not, and this is its tree
pub record IsMethod (a : Rows) (kernel : Bool) (ts : List Lexeme) (m : SpannedMethod) : Type 0 where
  pub begin : Input
  pub stop : Input
  pub pattern : Pattern a (beginning ts) m.selector m.arguments begin
  pub behind : Behind a kernel begin m.opening m.primitive m.body.temporaries m.body.statements stop
  pub over : IsOver stop m.body.tail

-- the tokens are a pattern, which is one expression, and this is its tree
pub record IsPatternText (a : Rows) (ts : List Lexeme) (t : SpannedTree) : Type 0 where
  pub stop : Input
  pub tail : Notes
  pub expression : Expression a (beginning ts) t stop
  pub over : IsOver stop tail

-- a pattern's tree as the one statement of a sequence
abbrev pub alone : List Lexeme → SpannedTree → SpannedSequence
alone ts t = record { temporaries = []; statements = MoreStatements [] (first_from ts) t NoStatements; tail = [] }

-- which texts there are: do-its, methods of the kernel or of users, and patterns
pub data Form : Type 0 where
  DoIt : Form
  Method : Bool → Form
  PatternText : Form

-- the tokens are a text of this form
abbrev pub IsText : Form → List Lexeme → Type 0
IsText DoIt ts = (s : SpannedSequence) × IsDoIt Longest ts s
IsText (Method kernel) ts = (m : SpannedMethod) × IsMethod Longest kernel ts m
IsText PatternText ts = (t : SpannedTree) × IsPatternText Longest ts t
