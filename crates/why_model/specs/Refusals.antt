-- Where the condition that refuses a line of a script was found false.
use Rattle.std.specs.Prelude.{◌≡◌, ℕ, suc, true, false, List, [], ◌∷◌, Option, Some, None, Err, is_some, if◌then◌else◌}
use Rattle.scope_model.specs.Control.{is_empty}
use Rattle.image_model.specs.Image.{ImageOf}
use Rattle.query_model.specs.Lines.{Text}
use Rattle.history_model.specs.Rules.{Perform, Undo, Redo}
use Rattle.history_model.specs.History.{by_result}
use Rattle.command_model.specs.Asked.{text_asked}
use Rattle.command_model.specs.Commands.{CommandOf, AddClass, PushUpInstVar}
use Rattle.command_model.specs.Conditions.{ConditionOf, UndoLeft, RedoLeft}
use Rattle.session_model.specs.Actions.{ActionOf, Single, CreateAccessors, ExtractSuperclass, PushUpWithMethods}
use Rattle.session_model.specs.OwnConditions.{first_own_false}
use Rattle.rule_model.specs.RuleCommands.{Reason, Unmet}
use Rattle.ruled_model.specs.RuledScripts.{Change, Plainly, ByRule, Asked, Acts, Applies, Line, change_judged, changes_of}
use Rattle.why_model.specs.Reasons.{change_witnesses, ReasonHasWitnesses, is_reason_there}

-- a single change that was judged in an image; of a composite the number of the step, from 1
pub record Judging : Type 0 where
  pub image : ImageOf Text
  pub change : Change
  pub step : Option ℕ

-- the first of the steps that is refused, each judged in the image after those before it; the first one has this number
abbrev pub step_refused : ImageOf Text → ℕ → List Change → Option Judging
step_refused i k [] = None
step_refused i k (c ∷ cs) =
    by_result (λ j. step_refused j (suc k) cs) (λ reason. Some (record { image = i; change = c; step = Some k })) (change_judged i c)

-- a command on what a composite is on, which adds no code; a single command is itself
abbrev pub stands_for : ActionOf Text → CommandOf Text
stands_for (Single command) = command
stands_for (CreateAccessors c x setter given) = PushUpInstVar c x
stands_for (ExtractSuperclass d p under) = AddClass d p under
stands_for (PushUpWithMethods c x) = PushUpInstVar c x

-- a change that is no step
abbrev pub alone : ImageOf Text → Change → Judging
alone i c = record { image = i; change = c; step = None }

-- where a composite is refused: as a whole by a condition of its own, or at a step
abbrev pub composite_refused : ImageOf Text → ActionOf Text → Option Judging
composite_refused i x =
    if is_some (first_own_false text_asked i x) then Some (alone i (Plainly (stands_for x))) else step_refused i 1 (changes_of i (Acts x))

-- where an action is refused
abbrev pub action_refused : ImageOf Text → Asked → Option Judging
action_refused i (Acts (Single command)) = Some (alone i (Plainly command))
action_refused i (Acts x) = composite_refused i x
action_refused i (Applies c) = Some (alone i (ByRule c))

-- where a line is refused; undo and redo judge no change
abbrev pub line_refused : ImageOf Text → Line → Option Judging
line_refused i (Perform x) = action_refused i x
line_refused i Undo = None
line_refused i Redo = None

-- The reason is the first condition that is false where a line is refused in an image: of a single change; of those that a composite has beside its steps; or of the history.
pub data IsFirstFalse (i : ImageOf Text) (line : Line) (reason : Reason) : Type 0 where
  OfChange : (j : Judging) → line_refused i line ≡ Some j → change_judged j.image j.change ≡ Err reason → IsFirstFalse i line reason
  OfComposite : (x : ActionOf Text) (q : ConditionOf Text) → line ≡ Perform (Acts x) → reason ≡ Unmet q → first_own_false text_asked i x ≡ Some q → line_refused i line ≡ Some (alone i (Plainly (stands_for x))) → IsFirstFalse i line reason
  OfUndo : line ≡ Undo → reason ≡ Unmet UndoLeft → IsFirstFalse i line reason
  OfRedo : line ≡ Redo → reason ≡ Unmet RedoLeft → IsFirstFalse i line reason

-- if what the reason speaks of is there, something is in its way
abbrev pub IsShownWhere : Judging → Reason → Type 0
IsShownWhere j reason =
    ReasonHasWitnesses reason → is_reason_there j.image j.change reason ≡ true → is_empty (change_witnesses j.image j.change reason) ≡ false
