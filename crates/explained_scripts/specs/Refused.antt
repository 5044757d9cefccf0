-- The single command that is refused, and the condition that refuses it.
use Rattle.std.specs.Prelude.{◌≡◌, ℕ, ◌<◌, Bool, true, false, is_some, List, length, Option, Some, None, Err}
use Rattle.rb_base.specs.Names.{name_at}
use Rattle.image_model.specs.Image.{ImageOf}
use Rattle.query_model.specs.Lines.{Text}
use Rattle.class_table.specs.Slots.{Slots}
use Rattle.class_table.specs.View.{image_of, number_image}
use Rattle.history_model.specs.History.{after_action}
use Rattle.command_model.specs.CodeEffects.{part_at}
use Rattle.command_model.specs.Commands.{CommandOf}
use Rattle.command_numbers.specs.CommandNames.{CommandNames, ConditionNames}
use Rattle.command_numbers.specs.MappedCommands.{map_command, map_condition}
use Rattle.commands.specs.Views.{asked_by, command_of, condition_of}
use Rattle.commands.specs.declared.command.Action.{Action}
use Rattle.commands.specs.declared.command.Action.TheVariants as action
use Rattle.commands.specs.declared.command.Command.{Command}
use Rattle.commands.specs.declared.command.MethodPart.{MethodPart}
use Rattle.commands.specs.declared.condition.Condition.{Condition}
use Rattle.commands.specs.declared.condition.Condition.TheVariants as condition
use Rattle.session_model.specs.Actions.{ActionOf}
use Rattle.rule_model.specs.RuleCommands.{Reason, Unmet}
use Rattle.ruled_model.specs.RuledScripts.{Change, Plainly, Acts, Version, ruled, change_judged}
use Rattle.why_model.specs.Refusals.{Judging, step_refused, action_refused}
use Rattle.explained_scripts.specs.Families.{IsMoving}
use Rattle.explained_scripts.specs.declared.judging.Refused.{Refused}

module _ (s : Slots) where
  -- a command and a condition over the texts of their names
  abbrev pub command_text : Command → CommandOf Text
  command_text command = map_command (name_at s.names) (command_of command)

  abbrev pub reason_text : Condition → Reason
  reason_text condition = Unmet (map_condition (name_at s.names) (condition_of condition))

  -- a command that is refused in the image of these slots
  abbrev pub judging_of : Refused → Judging
  judging_of r = record { image = image_of s; change = Plainly (command_text r.command); step = r.step }

  -- the names of the command and of the condition have texts
  pub record IsKnownRefused (r : Refused) : Type 0 where
    pub command : CommandNames (λ n. n < length s.names) (command_of r.command)
    pub condition : ConditionNames (λ n. n < length s.names) (condition_of r.condition)

  -- whether a part of a user's method stands at these places
  abbrev pub is_part_there : MethodPart → Bool
  is_part_there p = is_some (part_at (asked_by s.names) (number_image s) p.method.class p.method.meta p.method.selector p.from p.to)

  -- the part that a condition asks for is there, if it asks for a part
  abbrev pub IsPartThere : Condition → Type 0
  IsPartThere (condition.PartIs p) = is_part_there p ≡ true
  IsPartThere other = Unit {0}

  -- the condition asks for this part, and there is none; or the part is there, if it asks for one
  abbrev pub IsMissing : Condition → Option MethodPart → Type 0
  IsMissing q (Some p) = (q ≡ condition.PartIs p) × (is_part_there p ≡ false)
  IsMissing q None = IsPartThere q

-- The first of the steps that is refused, from this image and this number on; the slots are those in which it was judged.
pub record IsRefusedStep (i : ImageOf Text) (k : ℕ) (steps : List Change) (s : Slots) (r : Refused) : Type 0 where
  pub found : step_refused i k steps ≡ Some (judging_of s r)
  pub refused : change_judged (image_of s) (Plainly (command_text s r.command)) ≡ Err (reason_text s r.condition)
  pub known : IsKnownRefused s r
  pub moving : IsMoving s (command_of r.command) (condition_of r.condition)

-- What is refused of an action in an image. It has no other reason.
pub record IsRefusedAction (i : ImageOf Text) (x : ActionOf Text) (s : Slots) (r : Refused) : Type 0 where
  pub found : action_refused i (Acts x) ≡ Some (judging_of s r)
  pub only : (v : Version) (reason : Reason) → v.image ≡ i → after_action ruled v (Acts x) ≡ Err reason → reason ≡ reason_text s r.condition
  pub known : IsKnownRefused s r
  pub moving : IsMoving s (command_of r.command) (condition_of r.condition)

-- the action is no single command
abbrev pub IsComposite : Action → Type 0
IsComposite (action.Single c) = ⊥
IsComposite other = Unit {0}
