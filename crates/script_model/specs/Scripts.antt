-- What a script asks for: its commands in order, or its first line that is wrong.
use Rattle.std.specs.Prelude.{◌≡◌, ℕ, ◌+◌, ◌≤◌, nat_lt, Bool, true, false, if◌then◌else◌, List, [], ◌∷◌, ◌++◌, length, Option, Some, None, Result, Ok, Err}
use Rattle.rb_base.specs.Names.{text_eq}
use Rattle.history_model.specs.Rules.{Perform}
use Rattle.history_model.specs.History.{by_result}
use Rattle.session_model.specs.Scripts.{Request}
use Rattle.rule_model.specs.RuleCommands.{RuleCommand}
use Rattle.rule_model.specs.RuleLines.{RuleLineSays}
use Rattle.ruled_model.specs.RuledScripts.{Line, Applies, as_line}
use Rattle.script_model.specs.Words.{add_method, add_parameter, apply_rule}
use Rattle.script_model.specs.Lines.{lines_of, words_of, is_skipped, spoken}
use Rattle.script_model.specs.Commands.{Cause, BadArgument, TooMany, said_by}
use Rattle.script_model.specs.Additions.{first_word, behind_word, AddsMethod}
use Rattle.script_model.specs.Parameters.{AddsParameter}

-- the most commands of a script
abbrev pub command_limit : ℕ
command_limit = 10000

-- what the words of a line ask for, or why they ask for nothing
abbrev pub said : List ℕ → Result Request Cause
said line = said_by (words_of line)

-- whether a line is one of `addMethod`
abbrev pub adds_method : List ℕ → Bool
adds_method line = text_eq (first_word line) add_method

-- whether a line is one of `addParameter`
abbrev pub adds_parameter : List ℕ → Bool
adds_parameter line = text_eq (first_word line) add_parameter

-- whether a line is one of `applyRule`
abbrev pub applies_rule : List ℕ → Bool
applies_rule line = text_eq (first_word line) apply_rule

-- what a line of a command asks for, or why it asks for nothing: a line of words, one of `addMethod`, or one of `addParameter`
pub data CommandSays (line : List ℕ) (answer : Result Request Cause) : Type 0 where
  InWords : adds_method line ≡ false → adds_parameter line ≡ false → answer ≡ said line → CommandSays line answer
  InText : adds_method line ≡ true → AddsMethod (behind_word line) answer → CommandSays line answer
  InLiteral : adds_parameter line ≡ true → AddsParameter (behind_word line) answer → CommandSays line answer

-- what a line of a command asks for among lines that may ask for rules; and what one of `applyRule` asks for: a rule with its certificate, or nothing, since an argument is wrong
abbrev pub command_answer : Result Request Cause → Result Line Cause
command_answer said = by_result (λ request. Ok (as_line request)) (λ cause. Err cause) said

abbrev pub rule_answer : Result RuleCommand (Unit {0}) → Result Line Cause
rule_answer said = by_result (λ c. Ok (Perform (Applies c))) (λ none. Err BadArgument) said

-- what a line asks for, or why it asks for nothing
pub data LineSays (line : List ℕ) (answer : Result Line Cause) : Type 0 where
  OfCommand : (said : Result Request Cause) → applies_rule line ≡ false → CommandSays line said → answer ≡ command_answer said → LineSays line answer
  OfRule : (said : Result RuleCommand (Unit {0})) → applies_rule line ≡ true → RuleLineSays (behind_word line) said → answer ≡ rule_answer said → LineSays line answer

-- each of these lines asks for one of these, in order
abbrev pub EachSays : List (List ℕ) → List Line → Type 0
EachSays [] [] = Unit {0}
EachSays [] (r ∷ rs) = ⊥
EachSays (l ∷ ls) [] = ⊥
EachSays (l ∷ ls) (r ∷ rs) = LineSays l (Ok r) × EachSays ls rs

-- The lines ask for this, each for one thing, but for those that say nothing; there are no more commands than there may be.
pub record Say (lines : List (List ℕ)) (requests : List Line) : Type 0 where
  pub each : EachSays (spoken lines) requests
  pub few : length requests ≤ command_limit

-- what a script asks for
abbrev pub Says : List ℕ → List Line → Type 0
Says text requests = Say (lines_of text) requests

-- why a line is wrong, behind so many commands
abbrev pub cause_of : ℕ → Result Line Cause → Option Cause
cause_of count (Ok asked) = if nat_lt count command_limit then None else Some TooMany
cause_of count (Err cause) = Some cause

-- a line is wrong with this cause, behind so many commands
pub record IsWrong (line : List ℕ) (count : ℕ) (cause : Cause) : Type 0 where
  pub answer : Result Line Cause
  pub says : LineSays line answer
  pub wrong : cause_of count answer ≡ Some cause

-- The line of this number, from 1, is the first of a script that is wrong: the lines before it ask for something each, and it asks for nothing, or is one too many.
pub record IsRefused (text : List ℕ) (number : ℕ) (cause : Cause) : Type 0 where
  pub before : List (List ℕ)
  pub line : List ℕ
  pub after : List (List ℕ)
  pub requests : List Line
  pub parts : lines_of text ≡ before ++ line ∷ after
  pub numbered : number ≡ length before + 1
  pub said_before : Say before requests
  pub says_something : is_skipped line ≡ false
  pub wrong : IsWrong line (length requests) cause
