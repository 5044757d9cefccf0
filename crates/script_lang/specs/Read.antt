-- How far a script was read.
use Rattle.std.specs.Prelude.{◌≡◌, ℕ, ◌<◌, true, false, List, [], ◌∷◌, ◌++◌, length, Result, Ok, Err}
use Rattle.rb_base.specs.Names.{text_eq}
use Rattle.session_model.specs.Scripts.{Request}
use Rattle.rule_model.specs.RuleCommands.{RuleCommand}
use Rattle.rule_model.specs.RuleLines.{RuleLineSays}
use Rattle.ruled_model.specs.RuledScripts.{Line}
use Rattle.script_model.specs.Words.{add_method, add_parameter, apply_rule}
use Rattle.script_model.specs.Lines.{words_of}
use Rattle.script_model.specs.Commands.{Cause, UnknownCommand, said_by}
use Rattle.script_model.specs.Additions.{AddsMethod}
use Rattle.script_model.specs.Parameters.{AddsParameter}
use Rattle.script_model.specs.Scripts.{command_limit, command_answer, rule_answer, LineSays, Say}
use Rattle.script_lang.specs.declared.asked.ScriptLine.{ScriptLine}
use Rattle.script_lang.specs.declared.verb.LineVerb.{LineVerb}
use Rattle.script_lang.specs.declared.verb.LineVerb.TheVariants as line_verb
use Rattle.script_lang.specs.Shown.{word_of, asked, line_in, lines_in, IsKnownLine, AreKnown}

-- the word is that of a command that a text follows, or it is none of these
abbrev pub IsPlain : List ℕ → Type 0
IsPlain w = (text_eq w apply_rule ≡ false) × (text_eq w add_method ≡ false) × (text_eq w add_parameter ≡ false)

-- a line with this first word begins with the command
abbrev pub BeginsWith : LineVerb → List ℕ → Type 0
BeginsWith line_verb.ApplyRule w = text_eq w apply_rule ≡ true
BeginsWith line_verb.AddMethod w = (text_eq w apply_rule ≡ false) × (text_eq w add_method ≡ true)
BeginsWith line_verb.AddParameter w = (text_eq w apply_rule ≡ false) × (text_eq w add_parameter ≡ true)
BeginsWith (line_verb.Words v) w = IsPlain w × (w ≡ word_of v)

-- it begins with none
abbrev pub BeginsWithNone : List ℕ → Type 0
BeginsWithNone w = IsPlain w × ((ws : List (List ℕ)) → said_by (w ∷ ws) ≡ Err UnknownCommand)

-- a command that asks for no rule says so much, and a line asks for that
pub record FromCommand (Says : Result Request Cause → Type 0) (answer : Result Line Cause) : Type 0 where
  pub said : Result Request Cause
  pub says : Says said
  pub is : answer ≡ command_answer said

-- what the command asks for with the text behind its word
abbrev pub Asks : LineVerb → List ℕ → Result Line Cause → Type 0
Asks line_verb.ApplyRule text answer = (said : Result RuleCommand (Unit {0})) × RuleLineSays text said × (answer ≡ rule_answer said)
Asks line_verb.AddMethod text answer = FromCommand (AddsMethod text) answer
Asks line_verb.AddParameter text answer = FromCommand (AddsParameter text) answer
Asks (line_verb.Words v) text answer = FromCommand (λ said. said ≡ asked v (words_of text)) answer

-- a line asks for what came behind what the lines before it ask for
pub record HasAsked (names : List (List ℕ)) (text : List ℕ) (before after : List ScriptLine) : Type 0 where
  pub line : ScriptLine
  pub says : LineSays text (Ok (line_in names line))
  pub known : IsKnownLine names line
  pub room : length before < command_limit
  pub added : after ≡ before ++ line ∷ []

-- what was read is what the lines ask for
pub record HasRead (names : List (List ℕ)) (read : List ScriptLine) (lines : List (List ℕ)) : Type 0 where
  pub known : AreKnown names read
  pub say : Say lines (lines_in names read)
