-- What is shown of a line of a script that is refused.
use Rattle.std.specs.Prelude.{◌≡◌, ℕ, ◌-◌, List, ◌++◌, slice_get, Some, Err}
use Rattle.query_model.specs.Lines.{Text}
use Rattle.history_model.specs.History.{stepped}
use Rattle.rule_model.specs.RuleCommands.{Reason}
use Rattle.ruled_model.specs.RuledScripts.{Line, History, Refusal, ruled}
use Rattle.why_model.specs.Reasons.{reason_sentence}
use Rattle.why_model.specs.Refusals.{line_refused}
use Rattle.why_model.specs.Explained.{numbered_lines, step_of, explained, AreWitnessLines}
use Rattle.explained_scripts.specs.declared.explain.Hindered.{Hindered}
use Rattle.explained_scripts.specs.declared.explain.Told.{Told}

-- the number and the sentence of a refusal
abbrev pub told_of : Refusal → ℕ × Text
told_of r = (r.number, reason_sentence r.condition)

abbrev pub told_shown : Told → ℕ × Text
told_shown t = (t.number, t.sentence.now)

-- the step and the lines are those of what is in the way of a line in a history, if it is refused
pub record Shows (h : History) (line : Line) (shown : Hindered) : Type 0 where
  pub step : (reason : Reason) → stepped ruled h line ≡ Err reason → shown.step ≡ step_of (line_refused h.now.image line)
  pub lines : (reason : Reason) → stepped ruled h line ≡ Err reason → AreWitnessLines (line_refused h.now.image line) reason shown.lines.items

-- After a text stands why the line of a refusal is refused in a history.
pub record TellsWhy (h : History) (script : Text) (line : Line) (refusal : Refusal) (before after : Text) : Type 0 where
  pub number : ℕ
  pub text : Text
  pub at : slice_get (numbered_lines script) (refusal.number - 1) ≡ Some (number, text)
  pub witness_lines : List Text
  pub are : AreWitnessLines (line_refused h.now.image line) refusal.condition witness_lines
  pub is : after ≡ before ++ explained refusal number text (step_of (line_refused h.now.image line)) witness_lines

-- so, if it is refused at all
pub record IsTold (h : History) (script : Text) (requests : List Line) (refusal : Refusal) (before after : Text) : Type 0 where
  pub line : Line
  pub asked : slice_get requests (refusal.number - 1) ≡ Some line
  pub tells : stepped ruled h line ≡ Err refusal.condition → TellsWhy h script line refusal before after
