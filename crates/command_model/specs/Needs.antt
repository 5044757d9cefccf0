-- Which conditions a command has, in their order.
use Rattle.std.specs.Prelude.{List, [], ◌∷◌, ◌++◌, map}
use Rattle.std.specs.Option.{option_map_or}
use Rattle.image_model.specs.Image.{ImageOf}
use Rattle.command_model.specs.Commands.{CommandOf, RenameClass, AddClass, RemoveClass, AddInstVar, RenameInstVar, RemoveInstVar, PushUpInstVar, PushDownInstVar, AddClassVar, RenameClassVar, RemoveClassVar, PushUpClassVar, PushDownClassVar, AddClassSideVar, RenameClassSideVar, RemoveClassSideVar, RenameSelector, AddMethod, RemoveMethod, PushUpMethod, PushDownMethod}
use Rattle.command_model.specs.Conditions.{of_a_class, of_a_class_variable, of_another_variable, of_methods, ConditionOf, NoReflection, IsUserClass, GoodName, NameUnused, SelectorFresh, NotKernelSelector, Arity, Implements, NotImplements, Removable, NoSubclasses, NotReferenced, HasVariable, VariableFree, VariableUnused, ParentIsUser, NoSuper, MeansSame, Unreached, IsClass, ChildOf, LacksVariable, KnownSelector}
use Rattle.command_model.specs.Asked.{AskedOf}
use Rattle.command_model.specs.Hierarchy.{superclass_name, receivers}
use Rattle.command_model.specs.CodeNeeds.{code_needs}

module _ {N : Type 0} (a : AskedOf N) (i : ImageOf N) where
  -- conditions that are given the superclass of a class; the list ends before them where there is none
  abbrev given_superclass : N → (N → List (ConditionOf N)) → List (ConditionOf N)
  given_superclass c conditions = option_map_or conditions (superclass_name a.words.tests.same i c) []

  -- the conditions behind the first one, which every command has; the last line is of the commands that change code
  abbrev pub further_needs : CommandOf N → List (ConditionOf N)
  further_needs (RenameClass c d) = IsUserClass c ∷ GoodName d of_a_class ∷ NameUnused d ∷ []
  further_needs (AddClass d p under) = IsClass p ∷ GoodName d of_a_class ∷ NameUnused d ∷ map (λ s. ChildOf s p) under
  further_needs (RemoveClass c) = IsUserClass c ∷ NoSubclasses c ∷ NotReferenced c ∷ []
  further_needs (AddInstVar c x) = IsUserClass c ∷ GoodName x of_another_variable ∷ VariableFree c x ∷ []
  further_needs (RenameInstVar c x y) = IsUserClass c ∷ HasVariable c x ∷ GoodName y of_another_variable ∷ VariableFree c y ∷ []
  further_needs (RemoveInstVar c x) = IsUserClass c ∷ HasVariable c x ∷ VariableUnused c x ∷ []
  further_needs (PushUpInstVar c x) = IsUserClass c ∷ HasVariable c x ∷ ParentIsUser c ∷ given_superclass c (λ p. VariableFree p x ∷ [])
  further_needs (PushDownInstVar c x) = IsUserClass c ∷ HasVariable c x ∷ VariableUnused c x ∷ []
  further_needs (AddClassVar c x) = IsUserClass c ∷ GoodName x of_a_class_variable ∷ NameUnused x ∷ []
  further_needs (RenameClassVar c x y) = IsUserClass c ∷ HasVariable c x ∷ GoodName y of_a_class_variable ∷ NameUnused y ∷ []
  further_needs (RemoveClassVar c x) = IsUserClass c ∷ HasVariable c x ∷ VariableUnused c x ∷ []
  further_needs (PushUpClassVar c x) = IsUserClass c ∷ HasVariable c x ∷ ParentIsUser c ∷ given_superclass c (λ p. VariableFree p x ∷ [])
  further_needs (PushDownClassVar c x d) = IsUserClass c ∷ ChildOf d c ∷ HasVariable c x ∷ LacksVariable d x ∷ VariableUnused c x ∷ []
  further_needs (AddClassSideVar c x) = IsUserClass c ∷ GoodName x of_another_variable ∷ VariableFree c x ∷ []
  further_needs (RenameClassSideVar c x y) = IsUserClass c ∷ HasVariable c x ∷ GoodName y of_another_variable ∷ VariableFree c y ∷ []
  further_needs (RemoveClassSideVar c x) = IsUserClass c ∷ HasVariable c x ∷ VariableUnused c x ∷ []
  further_needs (RenameSelector s t) =
      GoodName t of_methods ∷ NotKernelSelector s ∷ KnownSelector s ∷ Arity t (a.command_words.arity s) ∷ NotKernelSelector t ∷ SelectorFresh t ∷ []
  further_needs (AddMethod c meta protocol text tree) = IsUserClass c ∷ NotImplements c meta tree.selector ∷ Unreached tree.selector ∷ []
  further_needs (RemoveMethod c meta s) = IsClass c ∷ Implements c meta s ∷ Removable c meta s ∷ []
  further_needs (PushUpMethod c meta s) =
      IsUserClass c ∷ Implements c meta s ∷ ParentIsUser c
      ∷ given_superclass c (λ p. NotImplements p meta s ∷ NoSuper c meta s ∷ MeansSame c meta s p ∷ Unreached s ∷ [])
  further_needs (PushDownMethod c meta s) =
      IsUserClass c ∷ Implements c meta s ∷ NoSuper c meta s ∷ map (MeansSame c meta s) (receivers a.words.tests.same i c meta s) ++ Unreached s ∷ []
  further_needs command = code_needs a i command

  -- all conditions
  abbrev pub needs : CommandOf N → List (ConditionOf N)
  needs command = NoReflection ∷ further_needs command
