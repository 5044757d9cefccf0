-- What stands in the image, and what a command brings, are all witnesses of a condition.
use Rattle.std.proofs.Common.{◌≡◌, ℕ, List, [], ◌++◌, Option, None, Some, refl, sym, ap, ◌∙◌}
use Rattle.std.specs.Prelude.{not}
use Rattle.std.specs.Option.{option_map_or}
use Rattle.std.proofs.lemmas.List.{append-nil}
use Rattle.tree_model.specs.Normal.{normal}
use Rattle.image_model.specs.Image.{EntryOf}
use Rattle.class_table.specs.Slots.{Slots}
use Rattle.class_table.specs.View.{number_image}
use Rattle.command_model.specs.CodeEffects.{part_at}
use Rattle.command_model.specs.Commands.{CommandOf, ExtractMethod}
use Rattle.command_model.specs.Conditions.{AssignsNoOuter, ChildOf, ConditionOf, Declared, FirstEvaluated, Implements, Inlinable, IsUserClass, LacksVariable, LetForm, MeansSame, NameUnused, NoCapture, NoNewControl, NoReflection, NoReturn, NoSubclasses, NoSuper, NotImplements, NotIn, NotKernelSelector, NotReferenced, OneTarget, ParameterUnused, ParentIsUser, PartIs, PlainActuals, PlainArguments, Removable, SelectorFresh, SelfSend, Shallow, TempsSteady, Unreached, ValueUnused, VariableFree, VariableUnused}
use Rattle.command_model.specs.Extracted.{call_of, method_of, part_replaced}
use Rattle.command_model.specs.MethodEffects.{new_method}
use Rattle.command_model.specs.ParameterConditions.{is_low}
use Rattle.command_model.specs.Parts.{Part}
use Rattle.commands.specs.Views.{asked_by}
use Rattle.refusal_witnesses.specs.NameWitnesses.{reflections_there}
use Rattle.refusal_witnesses.specs.ParameterWitnesses.{heights_after}
use Rattle.refusal_witnesses.specs.Refused.{witnesses}
use Rattle.refusal_witnesses.specs.Witnesses.{WitnessOf, a_method, where_true}
use Rattle.use_witnesses.specs.Brought.{brought_heights, heights_there}
use Rattle.explained_scripts.specs.Brought.{brought_before, brought_after}
use Rattle.explained_scripts.specs.Families.{standing}

-- a list with nothing after it
once : (xs : List (WitnessOf ℕ)) → xs ≡ xs ++ []
once xs = sym (append-nil xs)

twice : (xs : List (WitnessOf ℕ)) → xs ≡ (xs ++ []) ++ []
twice xs = once xs ∙ once (xs ++ [])

thrice : (xs : List (WitnessOf ℕ)) → xs ≡ ((xs ++ []) ++ []) ++ []
thrice xs = twice xs ∙ once ((xs ++ []) ++ [])

fourfold : (xs : List (WitnessOf ℕ)) → xs ≡ (((xs ++ []) ++ []) ++ []) ++ []
fourfold xs = thrice xs ∙ once (((xs ++ []) ++ []) ++ [])

fivefold : (xs : List (WitnessOf ℕ)) → xs ≡ ((((xs ++ []) ++ []) ++ []) ++ []) ++ []
fivefold xs = fourfold xs ∙ once ((((xs ++ []) ++ []) ++ []) ++ [])

-- two things of each item that there may be
joined : {X : Type 0} (f g : X → List (WitnessOf ℕ)) (o : Option X) → option_map_or (λ e. f e ++ g e) o [] ≡ (option_map_or f o [] ++ ((option_map_or g o [] ++ []) ++ [])) ++ []
joined f g None = refl
joined f g (Some e) = ap (λ xs. f e ++ xs) (twice (g e)) ∙ once (f e ++ ((g e ++ []) ++ []))

module _ (s : Slots) where
  -- of what is too high
  all-high : (command : CommandOf ℕ) → heights_after (asked_by s.names) (number_image s) command ≡ (brought_heights (asked_by s.names) (number_image s) command ++ ((heights_there (asked_by s.names) (number_image s) command ++ []) ++ [])) ++ []
  all-high (ExtractMethod c meta t from to u) =
      joined {X = EntryOf ℕ × Part}
      (λ e. where_true (not (is_low (method_of (asked_by s.names) u e.0.tree e.1).body)) (a_method (new_method c meta e.0.protocol [] (method_of (asked_by s.names) u e.0.tree e.1))))
      (λ e. where_true (not (is_low (normal (part_replaced e.0.tree e.1 (call_of (asked_by s.names) u e.0.tree e.1))).body)) (a_method e.0))
      (part_at (asked_by s.names) (number_image s) c meta t from to)
  all-high command = thrice (heights_after (asked_by s.names) (number_image s) command)

  module _ (command : CommandOf ℕ) where
    abbrev all : ConditionOf ℕ → List (WitnessOf ℕ)
    all condition = witnesses (asked_by s.names) (number_image s) command condition

    pub all-standing : (condition : ConditionOf ℕ) → all condition ≡ (brought_before s command condition ++ standing s command condition) ++ brought_after s command condition
    all-standing NoReflection = ap (λ xs. xs ++ brought_after s command NoReflection) (fourfold (reflections_there (asked_by s.names).command_words (number_image s)))
    all-standing Shallow = all-high command
    all-standing (IsUserClass c) = fivefold (all (IsUserClass c))
    all-standing (NameUnused n) = fivefold (all (NameUnused n))
    all-standing (SelectorFresh t) = fivefold (all (SelectorFresh t))
    all-standing (NotKernelSelector t) = fivefold (all (NotKernelSelector t))
    all-standing (NoSubclasses c) = fivefold (all (NoSubclasses c))
    all-standing (VariableFree c x) = fivefold (all (VariableFree c x))
    all-standing (ParentIsUser c) = fivefold (all (ParentIsUser c))
    all-standing (ChildOf d c) = fivefold (all (ChildOf d c))
    all-standing (LacksVariable c x) = fivefold (all (LacksVariable c x))
    all-standing (Implements c meta t) = fourfold (all (Implements c meta t))
    all-standing (NotImplements c meta t) = fourfold (all (NotImplements c meta t))
    all-standing (NoSuper c meta t) = fourfold (all (NoSuper c meta t))
    all-standing (MeansSame c meta t d) = fourfold (all (MeansSame c meta t d))
    all-standing (NotIn c meta t x) = fourfold (all (NotIn c meta t x))
    all-standing (OneTarget c meta t) = fourfold (all (OneTarget c meta t))
    all-standing (Removable c meta t) = thrice (all (Removable c meta t))
    all-standing (NotReferenced c) = thrice (all (NotReferenced c))
    all-standing (VariableUnused c x) = thrice (all (VariableUnused c x))
    all-standing (Unreached t) = thrice (all (Unreached t))
    all-standing (ParameterUnused t k) = thrice (all (ParameterUnused t k))
    all-standing (PlainArguments t k) = thrice (all (PlainArguments t k))
    all-standing (PartIs c meta t from to) = twice (all (PartIs c meta t from to))
    all-standing (NoReturn c meta t from to) = twice (all (NoReturn c meta t from to))
    all-standing (AssignsNoOuter c meta t from to) = twice (all (AssignsNoOuter c meta t from to))
    all-standing (TempsSteady c meta t from to) = twice (all (TempsSteady c meta t from to))
    all-standing (ValueUnused c meta t from to) = twice (all (ValueUnused c meta t from to))
    all-standing (SelfSend c meta t from to) = twice (all (SelfSend c meta t from to))
    all-standing (Inlinable c meta t) = once (all (Inlinable c meta t))
    all-standing (PlainActuals c meta t from to) = once (all (PlainActuals c meta t from to))
    all-standing (NoCapture c meta t spot) = once (all (NoCapture c meta t spot))
    all-standing (NoNewControl c meta t spot) = once (all (NoNewControl c meta t spot))
    all-standing (Declared c meta t x) = once (all (Declared c meta t x))
    all-standing (LetForm c meta t x) = once (all (LetForm c meta t x))
    all-standing (FirstEvaluated c meta t from to) = twice (all (FirstEvaluated c meta t from to))
    all-standing condition = refl
