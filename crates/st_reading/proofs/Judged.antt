-- What the judgement of a read text says of the text.
use Rattle.std.proofs.Common.{◌≡◌, Bool, [], Option, Some, None}
use Rattle.std.specs.Prelude.{MatchOption}
use Rattle.token_model.specs.declared.kind.Dialect.TheVariants.{Second}
use Rattle.grammar_model.specs.Terminal.{Text}
use Rattle.grammar_model.specs.Whole.{DoIt, Method, PatternText, alone}
use Rattle.grammar_model.specs.Checks.{Fault, sequence_fault}
use Rattle.grammar_model.specs.Spelling.{HasFirstFault, HasFirstPatternFault, InTree, InDoIt, InMethod, InPattern}
use Rattle.st_faults.specs.declared.fault.ParseFault.{ParseFault}
use Rattle.st_faults.specs.Faults.{fault_of, IsRead, IsRefused}

-- a fault of the tree is the first one of a do-it that is read
pub doit_refused : (text : Text) (read : IsRead DoIt text) (answer : ParseFault) → MatchOption (fault_of answer) (Unit {0}) (λ fault. sequence_fault [] read.grammar.0 ≡ Some fault) → IsRefused DoIt text answer
doit_refused text read answer h = go (fault_of answer) h
  where
    go : (o : Option Fault) → MatchOption o (Unit {0}) (λ fault. sequence_fault [] read.grammar.0 ≡ Some fault) → MatchOption o (Unit {0}) (HasFirstFault Second DoIt text)
    go None h = tt
    go (Some fault) h = InTree read.lexed read.shallow (InDoIt read.grammar.1 h)

-- and of a method that is read
pub method_refused : (kernel : Bool) (text : Text) (read : IsRead (Method kernel) text) (answer : ParseFault)
    → MatchOption (fault_of answer) (Unit {0}) (λ fault. sequence_fault read.grammar.0.arguments read.grammar.0.body ≡ Some fault) → IsRefused (Method kernel) text answer
method_refused kernel text read answer h = go (fault_of answer) h
  where
    go : (o : Option Fault) → MatchOption o (Unit {0}) (λ fault. sequence_fault read.grammar.0.arguments read.grammar.0.body ≡ Some fault) → MatchOption o (Unit {0}) (HasFirstFault Second (Method kernel) text)
    go None h = tt
    go (Some fault) h = InTree read.lexed read.shallow (InMethod read.grammar.1 h)

-- and of a pattern that is read
pub pattern_refused : (text : Text) (read : IsRead PatternText text) (answer : ParseFault) → MatchOption (fault_of answer) (Unit {0}) (λ fault. sequence_fault [] (alone read.tokens read.grammar.0) ≡ Some fault) → IsRefused PatternText text answer
pattern_refused text read answer h = go (fault_of answer) h
  where
    go : (o : Option Fault) → MatchOption o (Unit {0}) (λ fault. sequence_fault [] (alone read.tokens read.grammar.0) ≡ Some fault) → MatchOption o (Unit {0}) (HasFirstPatternFault text)
    go None h = tt
    go (Some fault) h = InTree read.lexed read.shallow (InPattern read.grammar.1 h)
