-- What an answer says of a text.
use Rattle.std.specs.Prelude.{◌≡◌, List, Option, Some, None, MatchOption}
use Rattle.token_model.specs.declared.kind.Dialect.TheVariants.{Second}
use Rattle.grammar_model.specs.Terminal.{Text}
use Rattle.grammar_model.specs.Input.{Lexeme}
use Rattle.grammar_model.specs.Whole.{Form, IsText}
use Rattle.grammar_model.specs.PatternTokens.{IsLexedAs}
use Rattle.grammar_model.specs.Checks as grammar
use Rattle.grammar_model.specs.Checks.{Fault, first_deep}
use Rattle.grammar_model.specs.Spelling.{HasFirstFaultAs}
use Rattle.st_faults.specs.Lexing.{HasLexFault}
use Rattle.st_faults.specs.declared.fault.ParseFault.{ParseFault}
use Rattle.st_faults.specs.declared.fault.ParseFault.TheVariants.{Lexical, Expected, AssignsFixed, TooDeep, PrimitiveInUser, DuplicateName, Memory}

-- the fault of a text that an answer tells; want of memory tells none
abbrev pub fault_of : ParseFault → Option Fault
fault_of (Lexical fault) = Some (grammar.Lexical fault)
fault_of (Expected what at) = Some (grammar.Expected what at)
fault_of (AssignsFixed at) = Some (grammar.AssignsFixed at)
fault_of (TooDeep at) = Some (grammar.TooDeep at)
fault_of (PrimitiveInUser at) = Some (grammar.PrimitiveInUser at)
fault_of (DuplicateName at) = Some (grammar.DuplicateName at)
fault_of Memory = None

-- the fault, where the answer tells one, is the first of the text
abbrev pub IsRefused : Form → Text → ParseFault → Type 0
IsRefused form text answer = MatchOption (fault_of answer) (Unit {0}) (HasFirstFaultAs form text)

-- the text has no lexical fault, and of its brackets no more than 400 stand open at once
pub record IsClean (form : Form) (text : Text) : Type 0 where
  pub tokens : List Lexeme
  pub lexed : IsLexedAs form Second text tokens
  pub shallow : first_deep 0 tokens ≡ None

-- the fault is the first lexical one, or, in a text without, the first bracket that opens where 400 stand open
abbrev pub IsUnclean : Form → Text → ParseFault → Type 0
IsUnclean form text (Lexical fault) = HasLexFault form text 0 fault
IsUnclean form text (TooDeep at) = (tokens : List Lexeme) × IsLexedAs form Second text tokens × (first_deep 0 tokens ≡ Some at)
IsUnclean form text answer = ⊥

-- the text is clean, and its tokens are a text of the form
pub record IsRead (form : Form) (text : Text) : Type 0 where
  pub tokens : List Lexeme
  pub lexed : IsLexedAs form Second text tokens
  pub shallow : first_deep 0 tokens ≡ None
  pub grammar : IsText form tokens
