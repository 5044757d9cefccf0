-- Which tree a text spells, and its first fault where it spells none.
use Rattle.std.specs.Prelude.{◌≡◌, ℕ, Bool, List, Option, Some, None}
use Rattle.token_model.specs.TokenLists.{Piece, HasTokens}
use Rattle.token_model.specs.declared.kind.Dialect.{Dialect}
use Rattle.token_model.specs.declared.kind.Dialect.TheVariants.{Second}
use Rattle.token_model.specs.declared.fault.LexFault.{LexFault}
use Rattle.tree_model.specs.Tree.{TreeOf, SequenceOf, MethodOf}
use Rattle.grammar_model.specs.declared.wanted.Wanted.{Wanted}
use Rattle.grammar_model.specs.Terminal.{Text, Terminal}
use Rattle.grammar_model.specs.Input.{Lexeme}
use Rattle.grammar_model.specs.Spanned.{SpannedSequence, SpannedMethod, SpannedTree, plain_tree, plain_sequence, plain_method}
use Rattle.grammar_model.specs.Lexemes.{IsLexed}
use Rattle.grammar_model.specs.PatternTokens.{HasPatternTokens, IsPatternLexed, HasTokensOf, IsLexedAs}
use Rattle.grammar_model.specs.Ahead.{Longest}
use Rattle.grammar_model.specs.Whole.{IsDoIt, IsMethod, Form, DoIt, Method, PatternText, IsPatternText, alone}
use Rattle.grammar_model.specs.Stop.{IsStop, IsUserPrimitive, IsWanted}
use Rattle.grammar_model.specs.Checks.{Fault, Lexical, TooDeep, Expected, PrimitiveInUser, first_deep, doit_fault, method_fault}

-- the text is a do-it without any fault, and this is its tree with the places of its parts
pub record SpellsDoItAt (d : Dialect) (t : Text) (s : SpannedSequence) : Type 0 where
  pub tokens : List Lexeme
  pub lexed : IsLexed d t tokens
  pub shallow : first_deep 0 tokens ≡ None
  pub grammar : IsDoIt Longest tokens s
  pub sound : doit_fault s ≡ None

-- the text is a method without any fault, of the kernel or not, and this is its tree with the places of its parts
pub record SpellsMethodAt (d : Dialect) (kernel : Bool) (t : Text) (m : SpannedMethod) : Type 0 where
  pub tokens : List Lexeme
  pub lexed : IsLexed d t tokens
  pub shallow : first_deep 0 tokens ≡ None
  pub grammar : IsMethod Longest kernel tokens m
  pub sound : method_fault m ≡ None

-- the text is a pattern without any fault of the grammar, of names or of heights, and this is its tree, in which metavariables stand as names
pub record SpellsPatternAt (d : Dialect) (t : Text) (p : SpannedTree) : Type 0 where
  pub tokens : List Lexeme
  pub lexed : IsPatternLexed d t tokens
  pub shallow : first_deep 0 tokens ≡ None
  pub grammar : IsPatternText Longest tokens p
  pub sound : doit_fault (alone tokens p) ≡ None

-- the text spells this do-it
pub record SpellsDoIt (d : Dialect) (t : Text) (s : SequenceOf Text) : Type 0 where
  pub spanned : SpannedSequence
  pub spells : SpellsDoItAt d t spanned
  pub same : s ≡ plain_sequence spanned

-- the text spells this method, its comments in normal form
pub record SpellsMethod (d : Dialect) (kernel : Bool) (t : Text) (m : MethodOf Text) : Type 0 where
  pub spanned : SpannedMethod
  pub spells : SpellsMethodAt d kernel t spanned
  pub same : m ≡ plain_method spanned

-- the text spells this pattern: its one expression, in which metavariables stand as names and keywords with their backquotes
pub record SpellsPattern (t : Text) (tree : TreeOf Text) : Type 0 where
  pub spanned : SpannedTree
  pub spells : SpellsPatternAt Second t spanned
  pub same : tree ≡ plain_tree spanned

-- the tokens are no text of this form, and this is the first fault of the grammar in them
pub data HasStop (form : Form) (ts : List Lexeme) : Fault → Type 0 where
  Unexpected : {before : List Terminal} {at : ℕ} {wrong : Terminal} {rest : List Lexeme} {what : Wanted} → IsStop form ts before at wrong rest → ¬ IsUserPrimitive form before wrong rest → IsWanted form before what → HasStop form ts (Expected what at)
  Primitive : {before : List Terminal} {at : ℕ} {wrong : Terminal} {rest : List Lexeme} → IsStop form ts before at wrong rest → IsUserPrimitive form before wrong rest → HasStop form ts (PrimitiveInUser at)

-- the tokens are a text of this form, and this is the first fault of its tree
pub data HasTreeFault (ts : List Lexeme) : Form → Fault → Type 0 where
  InDoIt : {s : SpannedSequence} {fault : Fault} → IsDoIt Longest ts s → doit_fault s ≡ Some fault → HasTreeFault ts DoIt fault
  InPattern : {t : SpannedTree} {fault : Fault} → IsPatternText Longest ts t → doit_fault (alone ts t) ≡ Some fault → HasTreeFault ts PatternText fault
  InMethod : {kernel : Bool} {m : SpannedMethod} {fault : Fault} → IsMethod Longest kernel ts m → method_fault m ≡ Some fault → HasTreeFault ts (Method kernel) fault

-- the first fault, where there is one, of a text whose tokens are read so; a kind comes only where none of an earlier kind is there
pub data HasFaultOf (tokens : List Piece → Option LexFault → Type 0) (lexed : List Lexeme → Type 0) (form : Form) : Fault → Type 0 where
  InTokens : {pieces : List Piece} {fault : LexFault} → tokens pieces (Some fault) → HasFaultOf tokens lexed form (Lexical fault)
  InBrackets : {ts : List Lexeme} {at : ℕ} → lexed ts → first_deep 0 ts ≡ Some at → HasFaultOf tokens lexed form (TooDeep at)
  InGrammar : {ts : List Lexeme} {fault : Fault} → lexed ts → first_deep 0 ts ≡ None → HasStop form ts fault → HasFaultOf tokens lexed form fault
  InTree : {ts : List Lexeme} {fault : Fault} → lexed ts → first_deep 0 ts ≡ None → HasTreeFault ts form fault → HasFaultOf tokens lexed form fault

-- the first fault of a text, where it has one
abbrev pub HasFirstFault : Dialect → Form → Text → Fault → Type 0
HasFirstFault d form t fault = HasFaultOf (HasTokens d t 0) (IsLexed d t) form fault

-- the first fault of a pattern, where it has one, but for those of its metavariables alone
abbrev pub HasFirstPatternFault : Text → Fault → Type 0
HasFirstPatternFault t fault = HasFaultOf (HasPatternTokens Second t 0) (IsPatternLexed Second t) PatternText fault

-- the first fault of a text of a form in the second dialect, where it has one: for do-its and methods HasFirstFault, for patterns HasFirstPatternFault
abbrev pub HasFirstFaultAs : Form → Text → Fault → Type 0
HasFirstFaultAs form t fault = HasFaultOf (HasTokensOf form Second t 0) (IsLexedAs form Second t) form fault
