-- The witnesses of a condition by its family: each list is that of the conditions of one family, and empty for all others.
use Rattle.std.specs.Prelude.{◌≡◌, ℕ, true, List, [], ◌++◌}
use Rattle.class_table.specs.Slots.{Slots}
use Rattle.class_table.specs.View.{number_image}
use Rattle.command_model.specs.Commands.{CommandOf}
use Rattle.command_model.specs.Conditions.{ConditionOf, NoReflection, IsUserClass, NameUnused, SelectorFresh, NotKernelSelector, Implements, NotImplements, Removable, NoSubclasses, NotReferenced, VariableFree, VariableUnused, ParentIsUser, NoSuper, MeansSame, Unreached, ParameterUnused, PlainArguments, PartIs, NoReturn, AssignsNoOuter, TempsSteady, ValueUnused, SelfSend, OneTarget, Inlinable, PlainActuals, NoCapture, NoNewControl, Declared, NotIn, LetForm, FirstEvaluated, Shallow, ChildOf, LacksVariable}
use Rattle.commands.specs.Views.{asked_by}
use Rattle.commands.specs.declared.command.MethodName.{MethodName}
use Rattle.commands.specs.declared.condition.Condition.{Condition}
use Rattle.commands.specs.declared.condition.Spot.{Spot}
use Rattle.commands.specs.declared.condition.Spot.TheVariants as spot
use Rattle.refusal_witnesses.specs.Witnesses.{WitnessOf}
use Rattle.refusal_witnesses.specs.NameWitnesses.{reflections_there}
use Rattle.refusal_witnesses.specs.Refused.{witnesses, is_moved_there, of_method, of_target}
use Rattle.part_witnesses.specs.Standing.{target_standing, temporary_standing}
use Rattle.use_witnesses.specs.Brought.{heights_there}
use Rattle.use_witnesses.specs.Reached.{MovesSelector}

-- What the conditions before `Unreached` say of a command that brings or moves a method: the selector is that of the method, and what the command moves is there.
abbrev pub IsMoving : Slots → CommandOf ℕ → ConditionOf ℕ → Type 0
IsMoving s command (Unreached t) = MovesSelector command t × (is_moved_there (asked_by s.names) (number_image s) command ≡ true)
IsMoving s command condition = Unit {0}

module _ (s : Slots) (command : CommandOf ℕ) where
  -- what a condition has in its way
  abbrev all : ConditionOf ℕ → List (WitnessOf ℕ)
  all condition = witnesses (asked_by s.names) (number_image s) command condition

  -- of names and classes; of what looks at the program itself that which stands in the image
  abbrev pub of_names : ConditionOf ℕ → List (WitnessOf ℕ)
  of_names NoReflection = reflections_there (asked_by s.names).command_words (number_image s)
  of_names (IsUserClass c) = all (IsUserClass c)
  of_names (NameUnused n) = all (NameUnused n)
  of_names (SelectorFresh t) = all (SelectorFresh t)
  of_names (NotKernelSelector t) = all (NotKernelSelector t)
  of_names (NoSubclasses c) = all (NoSubclasses c)
  of_names (VariableFree c x) = all (VariableFree c x)
  of_names (ParentIsUser c) = all (ParentIsUser c)
  of_names (ChildOf d c) = all (ChildOf d c)
  of_names (LacksVariable c x) = all (LacksVariable c x)
  of_names condition = []

  -- of methods
  abbrev pub of_methods : ConditionOf ℕ → List (WitnessOf ℕ)
  of_methods (Implements c meta t) = all (Implements c meta t)
  of_methods (NotImplements c meta t) = all (NotImplements c meta t)
  of_methods (NoSuper c meta t) = all (NoSuper c meta t)
  of_methods (MeansSame c meta t d) = all (MeansSame c meta t d)
  of_methods (NotIn c meta t x) = all (NotIn c meta t x)
  of_methods (OneTarget c meta t) = all (OneTarget c meta t)
  of_methods condition = []

  -- of uses, arguments and heights; of what is too high that which stands in the image
  abbrev pub of_uses : ConditionOf ℕ → List (WitnessOf ℕ)
  of_uses (Removable c meta t) = all (Removable c meta t)
  of_uses (NotReferenced c) = all (NotReferenced c)
  of_uses (VariableUnused c x) = all (VariableUnused c x)
  of_uses (Unreached t) = all (Unreached t)
  of_uses (ParameterUnused t k) = all (ParameterUnused t k)
  of_uses (PlainArguments t k) = all (PlainArguments t k)
  of_uses Shallow = heights_there (asked_by s.names) (number_image s) command
  of_uses condition = []

  -- of parts
  abbrev pub of_parts : ConditionOf ℕ → List (WitnessOf ℕ)
  of_parts (PartIs c meta t from to) = all (PartIs c meta t from to)
  of_parts (NoReturn c meta t from to) = all (NoReturn c meta t from to)
  of_parts (AssignsNoOuter c meta t from to) = all (AssignsNoOuter c meta t from to)
  of_parts (TempsSteady c meta t from to) = all (TempsSteady c meta t from to)
  of_parts (ValueUnused c meta t from to) = all (ValueUnused c meta t from to)
  of_parts (FirstEvaluated c meta t from to) = all (FirstEvaluated c meta t from to)
  of_parts (SelfSend c meta t from to) = all (SelfSend c meta t from to)
  of_parts condition = []

  -- of temporaries and messages that become code
  abbrev pub of_code : ConditionOf ℕ → List (WitnessOf ℕ)
  of_code (Inlinable c meta t) = all (Inlinable c meta t)
  of_code (PlainActuals c meta t from to) = all (PlainActuals c meta t from to)
  of_code (NoCapture c meta t spot) = all (NoCapture c meta t spot)
  of_code (NoNewControl c meta t spot) = all (NoNewControl c meta t spot)
  of_code (Declared c meta t x) = all (Declared c meta t x)
  of_code (LetForm c meta t x) = all (LetForm c meta t x)
  of_code condition = []

  -- all that stands in the image
  abbrev pub standing : ConditionOf ℕ → List (WitnessOf ℕ)
  standing condition = (((of_names condition ++ of_methods condition) ++ of_uses condition) ++ of_parts condition) ++ of_code condition

-- of a message that becomes code, or of a temporary that does, at a place
abbrev pub at_spot : Slots → MethodName → Spot → Condition → List (WitnessOf ℕ)
at_spot s m (spot.Part from to) q = of_target (asked_by s.names) (number_image s) m.class m.meta m.selector from to (target_standing s m.class q)
at_spot s m (spot.Name x) q = of_method (asked_by s.names) (number_image s) m.class m.meta m.selector (temporary_standing s q x)
