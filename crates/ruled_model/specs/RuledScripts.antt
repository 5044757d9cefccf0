-- What becomes of a script whose lines may also ask for rules with certificates.
use Rattle.std.specs.Prelude.{◌≡◌, List, [], ◌∷◌, map, Option, Some, None, option_map, Result, Ok, Err}
use Rattle.rb_base.specs.Names.{text_eq}
use Rattle.token_model.specs.declared.kind.Dialect.TheVariants.{Second}
use Rattle.grammar_model.specs.Spelling.{SpellsDoIt}
use Rattle.image_model.specs.Image.{DoItOf, ImageOf, plus}
use Rattle.run_model.specs.Values.{Name}
use Rattle.run_model.specs.Renamings.{Renaming, no_renaming, composed}
use Rattle.rename_model.specs.ClassRenamed.{canonical}
use Rattle.command_model.specs.Asked.{text_asked}
use Rattle.command_model.specs.Commands.{CommandOf}
use Rattle.command_model.specs.Conditions.{ConditionOf, UndoLeft, RedoLeft}
use Rattle.command_model.specs.Judged.{judged}
use Rattle.command_model.specs.Renamings.{renaming_of}
use Rattle.history_model.specs.Rules.{RulesOf, RequestOf, Perform, Undo, Redo}
use Rattle.history_model.specs.History.{HistoryOf, VersionOf, by_result}
use Rattle.history_model.specs.Verdicts.{RefusalOf, verdict}
use Rattle.session_model.specs.Actions.{ActionOf}
use Rattle.session_model.specs.Steps.{steps_of}
use Rattle.session_model.specs.OwnConditions.{first_own_false}
use Rattle.session_model.specs.Scripts.{Request}
use Rattle.rule_model.specs.RuleCommands.{RuleCommand, Reason, Unmet, rule_result}

-- a single change: one of the commands, or a rule with a certificate
pub data Change : Type 0 where
  Plainly : CommandOf Name → Change
  ByRule : RuleCommand → Change

-- what a line asks for, beside undo and redo: a command or a composite, or a rule with a certificate
pub data Asked : Type 0 where
  Acts : ActionOf Name → Asked
  Applies : RuleCommand → Asked

-- the image after a change, or the first of its conditions that is false
abbrev pub change_judged : ImageOf Name → Change → Result (ImageOf Name) Reason
change_judged i (Plainly c) = by_result (λ j. Ok j) (λ q. Err (Unmet q)) (judged text_asked canonical i c)
change_judged i (ByRule c) = rule_result c i

-- what a change renames: a rule nothing
abbrev pub change_renaming : ImageOf Name → Change → Renaming
change_renaming i (Plainly c) = renaming_of i c
change_renaming i (ByRule c) = no_renaming

-- the conditions that an action has beside those of its steps, and its steps
abbrev pub own_false : ImageOf Name → Asked → Option Reason
own_false i (Acts x) = option_map (λ q. Unmet q) (first_own_false text_asked i x)
own_false i (Applies c) = None

abbrev pub changes_of : ImageOf Name → Asked → List Change
changes_of i (Acts x) = map (λ c. Plainly c) (steps_of text_eq i canonical x)
changes_of i (Applies c) = ByRule c ∷ []

-- the lines of a script, its history, what refuses it, and its rules
abbrev pub Line : Type 0
Line = RequestOf Asked

-- a line that asks for no rule
abbrev pub as_line : Request → Line
as_line (Perform x) = Perform (Acts x)
as_line Undo = Undo
as_line Redo = Redo

abbrev pub Version : Type 0
Version = VersionOf (ImageOf Name) Renaming

abbrev pub History : Type 0
History = HistoryOf (ImageOf Name) Renaming

abbrev pub Refusal : Type 0
Refusal = RefusalOf Reason

-- the refusal of a line that asks for no rule
abbrev pub as_refusal : RefusalOf (ConditionOf Name) → Refusal
as_refusal r = record { number = r.number; condition = Unmet r.condition }

abbrev pub ruled : RulesOf (ImageOf Name) Change Asked Reason Renaming
ruled = record {
  judged = change_judged;
  renaming_of = change_renaming;
  nothing = no_renaming;
  composed = composed;
  first_false = own_false;
  steps_of = changes_of;
  undo_left = Unmet UndoLeft;
  redo_left = Unmet RedoLeft;
}

-- the history of the image after all lines, or the number of the first one that is refused and why
abbrev pub ruled_verdict : ImageOf Name → List Line → Result History Refusal
ruled_verdict i script = verdict ruled i script

-- the text of a do-it spells it, and the script is accepted in the image with that do-it at its end; this is the history then
pub record AdmitsRuled (i : ImageOf Name) (script : List Line) (e : DoItOf Name) : Type 0 where
  pub spells : SpellsDoIt Second e.source e.body
  pub history : History
  pub accepted : ruled_verdict (plus i e) script ≡ Ok history
