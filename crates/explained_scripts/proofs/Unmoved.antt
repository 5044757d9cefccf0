-- A command that replaces no message has no method in the way of one, one that adds no method brings none, and most conditions have nothing in what a command brings.
use Rattle.std.proofs.Common.{◌≡◌, ℕ, List, [], refl}
use Rattle.image_model.specs.Image.{ImageOf}
use Rattle.image_model.specs.Means.{VariableKind, of_instance, of_class_side, of_class}
use Rattle.class_table.specs.Slots.{Slots}
use Rattle.command_model.specs.Asked.{AskedOf}
use Rattle.command_model.specs.Commands.{CommandOf}
use Rattle.commands.specs.Views.{adds_variable, code_command, command_of, condition_of, removes_variable, renames_variable}
use Rattle.commands.specs.declared.command.CodeMove.{CodeMove}
use Rattle.commands.specs.declared.command.CodeMove.TheVariants as code
use Rattle.commands.specs.declared.command.Command.{Command}
use Rattle.commands.specs.declared.command.Command.TheVariants as command
use Rattle.commands.specs.declared.command.MethodPart.{MethodPart}
use Rattle.commands.specs.declared.command.NewMethod.{NewMethod}
use Rattle.commands.specs.declared.command.Renaming.TheVariants as renaming
use Rattle.commands.specs.declared.command.VariableMove.TheVariants as move
use Rattle.commands.specs.declared.condition.Condition.{Condition}
use Rattle.commands.specs.declared.condition.Condition.TheVariants as condition
use Rattle.refusal_witnesses.specs.NameWitnesses.{added_by}
use Rattle.refusal_witnesses.specs.Refused.{of_inlined}
use Rattle.explained_scripts.specs.Brought.{brought_after, brought_before}

-- a list that is empty for each kind of variables
by_kind : {X : Type 0} (f : CommandOf ℕ → List X) (g : VariableKind → CommandOf ℕ) → [] ≡ f (g of_instance) → [] ≡ f (g of_class_side) → [] ≡ f (g of_class) → (k : VariableKind) → [] ≡ f (g k)
by_kind f g a b c of_instance = a
by_kind f g a b c of_class_side = b
by_kind f g a b c of_class = c

pub none-changed : (a : AskedOf ℕ) (i : ImageOf ℕ) (x : CodeMove) → ((p : MethodPart) → x ≡ code.InlineMethod p → ⊥) → [] ≡ of_inlined a i (code_command x)
none-changed a i (code.InlineMethod p) never = absurd (never p refl)
none-changed a i other never = refl

pub none-inlined : (a : AskedOf ℕ) (i : ImageOf ℕ) (x : Command) → ((m : CodeMove) → x ≡ command.MoveCode m → ⊥) → [] ≡ of_inlined a i (command_of x)
none-inlined a i (command.MoveCode m) never = absurd (never m refl)
none-inlined a i (command.Rename (renaming.Variable kind c x y)) never = by_kind (of_inlined a i) (λ k. renames_variable k c x y) refl refl refl _
none-inlined a i (command.Variable (move.Add kind c x)) never = by_kind (of_inlined a i) (λ k. adds_variable k c x) refl refl refl _
none-inlined a i (command.Variable (move.Remove kind c x)) never = by_kind (of_inlined a i) (λ k. removes_variable k c x) refl refl refl _
none-inlined a i other never = refl

pub none-added : (x : Command) → ((n : NewMethod) → x ≡ command.AddMethod n → ⊥) → [] ≡ added_by (command_of x)
none-added (command.AddMethod n) never = absurd (never n refl)
none-added (command.Rename (renaming.Variable kind c x y)) never = by_kind added_by (λ k. renames_variable k c x y) refl refl refl _
none-added (command.Variable (move.Add kind c x)) never = by_kind added_by (λ k. adds_variable k c x) refl refl refl _
none-added (command.Variable (move.Remove kind c x)) never = by_kind added_by (λ k. removes_variable k c x) refl refl refl _
none-added (command.MoveCode (code.InlineMethod p)) never = refl
none-added other never = refl

module _ (s : Slots) (command : CommandOf ℕ) where
  pub none-before : (q : Condition) → (q ≡ condition.Shallow → ⊥) → [] ≡ brought_before s command (condition_of q)
  none-before condition.Shallow never = absurd (never refl)
  none-before other never = refl

  pub none-after : (q : Condition) → (q ≡ condition.NoReflection → ⊥) → [] ≡ brought_after s command (condition_of q)
  none-after condition.NoReflection never = absurd (never refl)
  none-after other never = refl
