-- All conditions of each kind of command, by name and in their order. Commands with the same conditions share a record.
use Rattle.std.specs.Prelude.{◌≡◌, List, Bool, true, Some}
use Rattle.std.specs.List.{AllByRecursion}
use Rattle.image_model.specs.Image.{ImageOf}
use Rattle.command_model.specs.Commands.{CommandOf}
use Rattle.command_model.specs.Conditions.{of_a_class, of_a_class_variable, of_another_variable, of_methods, ConditionOf, NoReflection, IsUserClass, GoodName, NameUnused, SelectorFresh, NotKernelSelector, Arity, Implements, NotImplements, Removable, NoSubclasses, NotReferenced, HasVariable, VariableFree, VariableUnused, ParentIsUser, NoSuper, MeansSame, Unreached, IsClass, ChildOf, LacksVariable, KnownSelector}
use Rattle.command_model.specs.Asked.{AskedOf}
use Rattle.command_model.specs.Hierarchy.{superclass_name, receivers}
use Rattle.command_model.specs.Holds.{holds}

module _ {N : Type 0} (a : AskedOf N) (i : ImageOf N) (command : CommandOf N) where
  -- whether two names are the same
  abbrev same : N → N → Bool
  same = a.words.tests.same

  -- a condition of the command holds
  abbrev pub Meets : ConditionOf N → Type 0
  Meets condition = holds a i command condition ≡ true

  -- a class c is called d
  pub record MayRenameClass (c d : N) : Type 0 where
    pub no_reflection : Meets NoReflection
    pub user_class : Meets (IsUserClass c)
    pub good_name : Meets (GoodName d of_a_class)
    pub unused_name : Meets (NameUnused d)

  -- a class d comes under p, and classes under d
  pub record MayAddClass (d p : N) (under : List N) : Type 0 where
    pub no_reflection : Meets NoReflection
    pub parent_there : Meets (IsClass p)
    pub good_name : Meets (GoodName d of_a_class)
    pub unused_name : Meets (NameUnused d)
    pub children : AllByRecursion (λ (s : N). Meets (ChildOf s p)) under

  -- a class goes
  pub record MayRemoveClass (c : N) : Type 0 where
    pub no_reflection : Meets NoReflection
    pub user_class : Meets (IsUserClass c)
    pub no_subclasses : Meets (NoSubclasses c)
    pub not_referenced : Meets (NotReferenced c)

  -- an instance or class-instance variable comes to a class
  pub record MayAddVariable (c x : N) : Type 0 where
    pub no_reflection : Meets NoReflection
    pub user_class : Meets (IsUserClass c)
    pub good_name : Meets (GoodName x of_another_variable)
    pub free_variable : Meets (VariableFree c x)

  -- such a variable is called y
  pub record MayRenameVariable (c x y : N) : Type 0 where
    pub no_reflection : Meets NoReflection
    pub user_class : Meets (IsUserClass c)
    pub has_variable : Meets (HasVariable c x)
    pub good_name : Meets (GoodName y of_another_variable)
    pub free_variable : Meets (VariableFree c y)

  -- a variable goes from a class, or down to all its direct subclasses
  pub record MayRemoveVariable (c x : N) : Type 0 where
    pub no_reflection : Meets NoReflection
    pub user_class : Meets (IsUserClass c)
    pub has_variable : Meets (HasVariable c x)
    pub unused_variable : Meets (VariableUnused c x)

  -- a variable goes up to the superclass
  pub record MayPushUpVariable (c x : N) : Type 0 where
    pub no_reflection : Meets NoReflection
    pub user_class : Meets (IsUserClass c)
    pub has_variable : Meets (HasVariable c x)
    pub user_parent : Meets (ParentIsUser c)
    pub free_variable : (p : N) → superclass_name same i c ≡ Some p → Meets (VariableFree p x)

  -- a class variable comes to a class
  pub record MayAddClassVariable (c x : N) : Type 0 where
    pub no_reflection : Meets NoReflection
    pub user_class : Meets (IsUserClass c)
    pub good_name : Meets (GoodName x of_a_class_variable)
    pub unused_name : Meets (NameUnused x)

  -- a class variable is called y
  pub record MayRenameClassVariable (c x y : N) : Type 0 where
    pub no_reflection : Meets NoReflection
    pub user_class : Meets (IsUserClass c)
    pub has_variable : Meets (HasVariable c x)
    pub good_name : Meets (GoodName y of_a_class_variable)
    pub unused_name : Meets (NameUnused y)

  -- a class variable goes down to the class d
  pub record MayPushDownClassVariable (c x d : N) : Type 0 where
    pub no_reflection : Meets NoReflection
    pub user_class : Meets (IsUserClass c)
    pub child : Meets (ChildOf d c)
    pub has_variable : Meets (HasVariable c x)
    pub lacks_variable : Meets (LacksVariable d x)
    pub unused_variable : Meets (VariableUnused c x)

  -- a selector s becomes t
  pub record MayRenameSelector (s t : N) : Type 0 where
    pub no_reflection : Meets NoReflection
    pub good_name : Meets (GoodName t of_methods)
    pub old_not_kernel : Meets (NotKernelSelector s)
    pub known_selector : Meets (KnownSelector s)
    pub same_arity : Meets (Arity t (a.command_words.arity s))
    pub new_not_kernel : Meets (NotKernelSelector t)
    pub fresh_selector : Meets (SelectorFresh t)

  -- a method of a selector comes to a class
  pub record MayAddMethod (c : N) (meta : Bool) (s : N) : Type 0 where
    pub no_reflection : Meets NoReflection
    pub user_class : Meets (IsUserClass c)
    pub lacks_method : Meets (NotImplements c meta s)
    pub unreached : Meets (Unreached s)

  -- a method goes
  pub record MayRemoveMethod (c : N) (meta : Bool) (s : N) : Type 0 where
    pub no_reflection : Meets NoReflection
    pub class_there : Meets (IsClass c)
    pub has_method : Meets (Implements c meta s)
    pub removable : Meets (Removable c meta s)

  -- a method goes up to the superclass
  pub record MayPushUpMethod (c : N) (meta : Bool) (s : N) : Type 0 where
    pub no_reflection : Meets NoReflection
    pub user_class : Meets (IsUserClass c)
    pub has_method : Meets (Implements c meta s)
    pub user_parent : Meets (ParentIsUser c)
    pub lacks_method : (p : N) → superclass_name same i c ≡ Some p → Meets (NotImplements p meta s)
    pub no_super : (p : N) → superclass_name same i c ≡ Some p → Meets (NoSuper c meta s)
    pub means_same : (p : N) → superclass_name same i c ≡ Some p → Meets (MeansSame c meta s p)
    pub unreached : (p : N) → superclass_name same i c ≡ Some p → Meets (Unreached s)

  -- a method goes down to the direct subclasses
  pub record MayPushDownMethod (c : N) (meta : Bool) (s : N) : Type 0 where
    pub no_reflection : Meets NoReflection
    pub user_class : Meets (IsUserClass c)
    pub has_method : Meets (Implements c meta s)
    pub no_super : Meets (NoSuper c meta s)
    pub means_same : AllByRecursion (λ (d : N). Meets (MeansSame c meta s d)) (receivers same i c meta s)
    pub unreached : Meets (Unreached s)
