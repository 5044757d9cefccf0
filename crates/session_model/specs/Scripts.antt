-- What becomes of a script in an image whose names are texts.
use Rattle.std.specs.Prelude.{List, Result}
use Rattle.image_model.specs.Image.{ImageOf}
use Rattle.run_model.specs.Values.{Name}
use Rattle.run_model.specs.Renamings.{Renaming, no_renaming, composed}
use Rattle.rb_base.specs.Names.{text_eq}
use Rattle.rename_model.specs.ClassRenamed.{WritingOf, canonical}
use Rattle.command_model.specs.Commands.{CommandOf}
use Rattle.command_model.specs.Asked.{text_asked}
use Rattle.command_model.specs.Conditions.{ConditionOf, UndoLeft, RedoLeft}
use Rattle.command_model.specs.Judged.{judged}
use Rattle.command_model.specs.Renamings.{renaming_of}
use Rattle.history_model.specs.Rules.{RulesOf, RequestOf}
use Rattle.history_model.specs.History.{HistoryOf, VersionOf}
use Rattle.history_model.specs.Verdicts.{RefusalOf, verdict}
use Rattle.session_model.specs.Actions.{ActionOf}
use Rattle.session_model.specs.Steps.{steps_of}
use Rattle.session_model.specs.OwnConditions.{first_own_false}

-- the commands of a script, its history, what refuses it, and its rules
abbrev pub Request : Type 0
Request = RequestOf (ActionOf Name)

abbrev pub Version : Type 0
Version = VersionOf (ImageOf Name) Renaming

abbrev pub History : Type 0
History = HistoryOf (ImageOf Name) Renaming

abbrev pub Refusal : Type 0
Refusal = RefusalOf (ConditionOf Name)

abbrev pub Rules : Type 0
Rules = RulesOf (ImageOf Name) (CommandOf Name) (ActionOf Name) (ConditionOf Name) Renaming

-- what commands do, where changed code is written so
abbrev pub rules_writing : WritingOf Name → Rules
rules_writing writing = record {
  judged = judged text_asked writing;
  renaming_of = renaming_of;
  nothing = no_renaming;
  composed = composed;
  first_false = first_own_false text_asked;
  steps_of = λ i action. steps_of text_eq i writing action;
  undo_left = UndoLeft;
  redo_left = RedoLeft;
}

-- the same, where it is written in canonical text
abbrev pub rules : Rules
rules = rules_writing canonical

-- the history of the image after all commands, or the number of the first one that is refused and why
abbrev pub verdict_in : ImageOf Name → List Request → Result History Refusal
verdict_in i script = verdict rules i script
