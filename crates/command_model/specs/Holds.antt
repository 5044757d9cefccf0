-- Which conditions of a command hold.
use Rattle.std.specs.Prelude.{Bool, false, nat_eq, ◌&&◌, is_some}
use Rattle.image_model.specs.Image.{ImageOf}
use Rattle.rename_model.specs.Conditions.{is_user_class, is_name_unused, is_selector_fresh, is_no_kernel_selector, is_known_selector, has_variable}
use Rattle.command_model.specs.Commands.{CommandOf, AddMethod, PushUpMethod, PushDownMethod, kind_of}
use Rattle.command_model.specs.Conditions.{ConditionOf, NoReflection, IsUserClass, GoodName, NameUnused, SelectorFresh, NotKernelSelector, Arity, Implements, NotImplements, Removable, NoSubclasses, NotReferenced, HasVariable, VariableFree, VariableUnused, ParentIsUser, NoSuper, MeansSame, Unreached, IsClass, ChildOf, LacksVariable, KnownSelector, UndoLeft, RedoLeft}
use Rattle.command_model.specs.Asked.{AskedOf}
use Rattle.command_model.specs.Hierarchy.{is_class, superclass_name}
use Rattle.command_model.specs.MethodEffects.{method_added, method_pushed_up, method_pushed_down}
use Rattle.command_model.specs.NameConditions.{is_without_reflection, is_good_name}
use Rattle.command_model.specs.ClassConditions.{has_no_subclasses, is_not_referenced, has_user_parent, is_user_child}
use Rattle.command_model.specs.VariableConditions.{lacks_variable, may_come_for, is_unused_for}
use Rattle.command_model.specs.MethodConditions.{implements, lacks_method, is_removable, is_without_super, means_same_in_class, is_unreached}
use Rattle.command_model.specs.CodeHolds.{code_holds}

module _ {N : Type 0} (a : AskedOf N) (i : ImageOf N) (command : CommandOf N) where
  -- whether two names are the same
  abbrev same : N → N → Bool
  same = a.words.tests.same

  -- no class that finds another method for a selector once a method is added, or goes up or down, is reached; where what the command moves, or the place to which it goes, is not there, this is false
  abbrev unreached_after : CommandOf N → N → Bool
  unreached_after (AddMethod c meta protocol text tree) s =
      is_class same i c && is_unreached a.words a.is_super i (method_added c meta protocol text tree i) meta s
  unreached_after (PushUpMethod c meta t) s =
      (implements same i c meta t && is_some (superclass_name same i c))
      && is_unreached a.words a.is_super i (method_pushed_up same c meta t i) meta s
  unreached_after (PushDownMethod c meta t) s =
      implements same i c meta t && is_unreached a.words a.is_super i (method_pushed_down same c meta t i) meta s
  unreached_after other s = false

  -- whether a condition of the command holds in the image; an image alone has no history, and the last line is for the conditions that only commands have which change code
  abbrev pub holds : ConditionOf N → Bool
  holds NoReflection = is_without_reflection a.command_words i command
  holds (IsUserClass c) = is_user_class same i c
  holds (GoodName n kind) = is_good_name a.command_words n kind
  holds (NameUnused n) = is_name_unused same i n
  holds (SelectorFresh s) = is_selector_fresh same i s
  holds (NotKernelSelector s) = is_no_kernel_selector same a.command_words i s
  holds (Arity t count) = nat_eq (a.command_words.arity t) count
  holds (Implements c meta s) = implements same i c meta s
  holds (NotImplements c meta s) = lacks_method same i c meta s
  holds (Removable c meta s) = is_removable a.words a.is_super i c meta s
  holds (NoSubclasses c) = has_no_subclasses same i c
  holds (NotReferenced c) = is_not_referenced a.words i c
  holds (HasVariable c x) = has_variable same i (kind_of command) c x
  holds (VariableFree c x) = may_come_for same i command c x
  holds (VariableUnused c x) = is_unused_for a.words i command c x
  holds (ParentIsUser c) = has_user_parent same i c
  holds (NoSuper c meta s) = is_without_super a.words a.is_super i c meta s
  holds (MeansSame c meta s d) = means_same_in_class a.words a.is_super i c meta s d
  holds (Unreached s) = unreached_after command s
  holds (IsClass c) = is_class same i c
  holds (ChildOf d c) = is_user_child same i d c
  holds (LacksVariable c x) = lacks_variable same i c x
  holds (KnownSelector s) = is_known_selector same i s
  holds UndoLeft = false
  holds RedoLeft = false
  holds condition = code_holds a i command condition
