-- The conditions of a command in their list, and by name.
use Rattle.std.proofs.Common.{◌≡◌, List, [], ◌∷◌, None}
use Rattle.std.specs.Prelude.{Bool, map}
use Rattle.std.specs.List.{AllByRecursion}
use Rattle.std.specs.Option.{option_map_or}
use Rattle.scope_model.proofs.ListsOfNames.{AllByRecursion-append}
use Rattle.image_model.specs.Image.{ImageOf}
use Rattle.image_model.proofs.Lists.{all-map}
use Rattle.command_model.specs.Commands.{CommandOf, RenameClass, AddClass, RemoveClass, AddInstVar, RenameInstVar, RemoveInstVar, PushUpInstVar, PushDownInstVar, AddClassVar, RenameClassVar, RemoveClassVar, PushUpClassVar, PushDownClassVar, AddClassSideVar, RenameClassSideVar, RemoveClassSideVar, RenameSelector, AddMethod, RemoveMethod, PushUpMethod, PushDownMethod, AddParameter, RemoveParameter, AbstractInstVar, ExtractMethod, InlineMethod, ExtractTemp, InlineTemp, RenameTemp}
use Rattle.command_model.specs.Conditions.{of_another_variable, ConditionOf, NoReflection, IsUserClass, GoodName, NotImplements, HasVariable, VariableFree, VariableUnused, ParentIsUser, NoSuper, MeansSame, Unreached, ChildOf}
use Rattle.command_model.specs.Asked.{AskedOf}
use Rattle.command_model.specs.Hierarchy.{superclass_name, receivers}
use Rattle.command_model.specs.Needs.{needs}
use Rattle.command_model.specs.Holds.{holds}
use Rattle.command_model.specs.Judged.{first_false}
use Rattle.command_model.specs.Allowed.{Meets, MayAddVariable, MayRenameVariable, MayRemoveVariable, MayPushUpVariable}
use Rattle.command_model.specs.AllHold.{AllHold}
use Rattle.command_model.proofs.Lists.{all-pass, none-fails, in-both, of-mapped, when-given, if-given}
use Rattle.command_model.proofs.CodeHeld.{may-add, each-added, may-remove, each-removed, may-abstract, each-abstracted, may-extract, each-extracted, may-inline, each-inlined, may-take, each-taken, may-replace, each-replaced, may-rename, each-renamed}

module _ {N : Type 0} (a : AskedOf N) (i : ImageOf N) where
  -- whether two names are the same
  abbrev same : N → N → Bool
  same = a.words.tests.same

  -- each condition of a list holds
  abbrev Each : CommandOf N → List (ConditionOf N) → Type 0
  Each command conditions = AllByRecursion (Meets a i command) conditions

  adding : (command : CommandOf N) (c x : N) → Each command (NoReflection ∷ IsUserClass c ∷ GoodName x of_another_variable ∷ VariableFree c x ∷ []) → MayAddVariable a i command c x
  adding command c x h = record { no_reflection = h.0; user_class = h.1.0; good_name = h.1.1.0; free_variable = h.1.1.1.0 }

  renaming : (command : CommandOf N) (c x y : N) → Each command (NoReflection ∷ IsUserClass c ∷ HasVariable c x ∷ GoodName y of_another_variable ∷ VariableFree c y ∷ []) → MayRenameVariable a i command c x y
  renaming command c x y h = record { no_reflection = h.0; user_class = h.1.0; has_variable = h.1.1.0; good_name = h.1.1.1.0; free_variable = h.1.1.1.1.0 }

  removing : (command : CommandOf N) (c x : N) → Each command (NoReflection ∷ IsUserClass c ∷ HasVariable c x ∷ VariableUnused c x ∷ []) → MayRemoveVariable a i command c x
  removing command c x h = record { no_reflection = h.0; user_class = h.1.0; has_variable = h.1.1.0; unused_variable = h.1.1.1.0 }

  pushing-up : (command : CommandOf N) (c x : N) → Each command (NoReflection ∷ IsUserClass c ∷ HasVariable c x ∷ ParentIsUser c ∷ option_map_or (λ (p : N). VariableFree p x ∷ []) (superclass_name same i c) []) → MayPushUpVariable a i command c x
  pushing-up command c x h = record {
    no_reflection = h.0;
    user_class = h.1.0;
    has_variable = h.1.1.0;
    user_parent = h.1.1.1.0;
    free_variable = λ p e. (when-given (Meets a i command) (λ (q : N). VariableFree q x ∷ []) (superclass_name same i c) h.1.1.1.1 p e).0;
  }

  -- by name
  by-name : (command : CommandOf N) → Each command (needs a i command) → AllHold a i command
  by-name (RenameClass c d) h = record { no_reflection = h.0; user_class = h.1.0; good_name = h.1.1.0; unused_name = h.1.1.1.0 }
  by-name (AddClass d p under) h = record {
    no_reflection = h.0;
    parent_there = h.1.0;
    good_name = h.1.1.0;
    unused_name = h.1.1.1.0;
    children = of-mapped (Meets a i (AddClass d p under)) (λ (s : N). ChildOf s p) under h.1.1.1.1;
  }
  by-name (RemoveClass c) h = record { no_reflection = h.0; user_class = h.1.0; no_subclasses = h.1.1.0; not_referenced = h.1.1.1.0 }
  by-name (AddInstVar c x) h = adding (AddInstVar c x) c x h
  by-name (RenameInstVar c x y) h = renaming (RenameInstVar c x y) c x y h
  by-name (RemoveInstVar c x) h = removing (RemoveInstVar c x) c x h
  by-name (PushUpInstVar c x) h = pushing-up (PushUpInstVar c x) c x h
  by-name (PushDownInstVar c x) h = removing (PushDownInstVar c x) c x h
  by-name (AddClassVar c x) h = record { no_reflection = h.0; user_class = h.1.0; good_name = h.1.1.0; unused_name = h.1.1.1.0 }
  by-name (RenameClassVar c x y) h = record { no_reflection = h.0; user_class = h.1.0; has_variable = h.1.1.0; good_name = h.1.1.1.0; unused_name = h.1.1.1.1.0 }
  by-name (RemoveClassVar c x) h = removing (RemoveClassVar c x) c x h
  by-name (PushUpClassVar c x) h = pushing-up (PushUpClassVar c x) c x h
  by-name (PushDownClassVar c x d) h = record {
    no_reflection = h.0;
    user_class = h.1.0;
    child = h.1.1.0;
    has_variable = h.1.1.1.0;
    lacks_variable = h.1.1.1.1.0;
    unused_variable = h.1.1.1.1.1.0;
  }
  by-name (AddClassSideVar c x) h = adding (AddClassSideVar c x) c x h
  by-name (RenameClassSideVar c x y) h = renaming (RenameClassSideVar c x y) c x y h
  by-name (RemoveClassSideVar c x) h = removing (RemoveClassSideVar c x) c x h
  by-name (RenameSelector s t) h = record {
    no_reflection = h.0;
    good_name = h.1.0;
    old_not_kernel = h.1.1.0;
    known_selector = h.1.1.1.0;
    same_arity = h.1.1.1.1.0;
    new_not_kernel = h.1.1.1.1.1.0;
    fresh_selector = h.1.1.1.1.1.1.0;
  }
  by-name (AddMethod c meta protocol text tree) h = record { no_reflection = h.0; user_class = h.1.0; lacks_method = h.1.1.0; unreached = h.1.1.1.0 }
  by-name (RemoveMethod c meta s) h = record { no_reflection = h.0; class_there = h.1.0; has_method = h.1.1.0; removable = h.1.1.1.0 }
  by-name (PushUpMethod c meta s) h =
      let given = when-given (Meets a i (PushUpMethod c meta s)) (λ (p : N). NotImplements p meta s ∷ NoSuper c meta s ∷ MeansSame c meta s p ∷ Unreached s ∷ []) (superclass_name same i c) h.1.1.1.1 in
      record {
        no_reflection = h.0;
        user_class = h.1.0;
        has_method = h.1.1.0;
        user_parent = h.1.1.1.0;
        lacks_method = λ p e. (given p e).0;
        no_super = λ p e. (given p e).1.0;
        means_same = λ p e. (given p e).1.1.0;
        unreached = λ p e. (given p e).1.1.1.0;
      }
  by-name (PushDownMethod c meta s) h =
      let both = in-both (Meets a i (PushDownMethod c meta s)) (map (MeansSame c meta s) (receivers same i c meta s)) (Unreached s ∷ []) h.1.1.1.1 in
      record {
        no_reflection = h.0;
        user_class = h.1.0;
        has_method = h.1.1.0;
        no_super = h.1.1.1.0;
        means_same = of-mapped (Meets a i (PushDownMethod c meta s)) (MeansSame c meta s) (receivers same i c meta s) both.0;
        unreached = both.1.0;
      }
  by-name (AddParameter s t x passed) h = may-add a i s t x passed h
  by-name (RemoveParameter s k t) h = may-remove a i s k t h
  by-name (AbstractInstVar c x setter given) h = may-abstract a i c x setter given h
  by-name (ExtractMethod c meta s from to t) h = may-extract a i c meta s from to t h
  by-name (InlineMethod c meta s from to) h = may-inline a i c meta s from to h
  by-name (ExtractTemp c meta s from to x) h = may-take a i c meta s from to x h
  by-name (InlineTemp c meta s x) h = may-replace a i c meta s x h
  by-name (RenameTemp c meta s x y) h = may-rename a i c meta s x y h

  -- in the list
  in-list : (command : CommandOf N) → AllHold a i command → Each command (needs a i command)
  in-list (RenameClass c d) h = (h.no_reflection, (h.user_class, (h.good_name, (h.unused_name, tt))))
  in-list (AddClass d p under) h =
      (h.no_reflection, (h.parent_there, (h.good_name, (h.unused_name, all-map (Meets a i (AddClass d p under)) (λ (s : N). ChildOf s p) under h.children))))
  in-list (RemoveClass c) h = (h.no_reflection, (h.user_class, (h.no_subclasses, (h.not_referenced, tt))))
  in-list (AddInstVar c x) h = (h.no_reflection, (h.user_class, (h.good_name, (h.free_variable, tt))))
  in-list (RenameInstVar c x y) h = (h.no_reflection, (h.user_class, (h.has_variable, (h.good_name, (h.free_variable, tt)))))
  in-list (RemoveInstVar c x) h = (h.no_reflection, (h.user_class, (h.has_variable, (h.unused_variable, tt))))
  in-list (PushUpInstVar c x) h =
      (h.no_reflection, (h.user_class, (h.has_variable, (h.user_parent, if-given (Meets a i (PushUpInstVar c x)) (λ (p : N). VariableFree p x ∷ []) (superclass_name same i c) (λ p e. (h.free_variable p e, tt))))))
  in-list (PushDownInstVar c x) h = (h.no_reflection, (h.user_class, (h.has_variable, (h.unused_variable, tt))))
  in-list (AddClassVar c x) h = (h.no_reflection, (h.user_class, (h.good_name, (h.unused_name, tt))))
  in-list (RenameClassVar c x y) h = (h.no_reflection, (h.user_class, (h.has_variable, (h.good_name, (h.unused_name, tt)))))
  in-list (RemoveClassVar c x) h = (h.no_reflection, (h.user_class, (h.has_variable, (h.unused_variable, tt))))
  in-list (PushUpClassVar c x) h =
      (h.no_reflection, (h.user_class, (h.has_variable, (h.user_parent, if-given (Meets a i (PushUpClassVar c x)) (λ (p : N). VariableFree p x ∷ []) (superclass_name same i c) (λ p e. (h.free_variable p e, tt))))))
  in-list (PushDownClassVar c x d) h = (h.no_reflection, (h.user_class, (h.child, (h.has_variable, (h.lacks_variable, (h.unused_variable, tt))))))
  in-list (AddClassSideVar c x) h = (h.no_reflection, (h.user_class, (h.good_name, (h.free_variable, tt))))
  in-list (RenameClassSideVar c x y) h = (h.no_reflection, (h.user_class, (h.has_variable, (h.good_name, (h.free_variable, tt)))))
  in-list (RemoveClassSideVar c x) h = (h.no_reflection, (h.user_class, (h.has_variable, (h.unused_variable, tt))))
  in-list (RenameSelector s t) h = (h.no_reflection, (h.good_name, (h.old_not_kernel, (h.known_selector, (h.same_arity, (h.new_not_kernel, (h.fresh_selector, tt)))))))
  in-list (AddMethod c meta protocol text tree) h = (h.no_reflection, (h.user_class, (h.lacks_method, (h.unreached, tt))))
  in-list (RemoveMethod c meta s) h = (h.no_reflection, (h.class_there, (h.has_method, (h.removable, tt))))
  in-list (PushUpMethod c meta s) h = (
    h.no_reflection,
    (
      h.user_class,
      (
        h.has_method,
        (
          h.user_parent,
          if-given (Meets a i (PushUpMethod c meta s)) (λ (p : N). NotImplements p meta s ∷ NoSuper c meta s ∷ MeansSame c meta s p ∷ Unreached s ∷ []) (superclass_name same i c)
              (λ p e. (h.lacks_method p e, (h.no_super p e, (h.means_same p e, (h.unreached p e, tt))))),
        ),
      ),
    ),
  )
  in-list (PushDownMethod c meta s) h = (
    h.no_reflection,
    (
      h.user_class,
      (
        h.has_method,
        (
          h.no_super,
          AllByRecursion-append (Meets a i (PushDownMethod c meta s)) (map (MeansSame c meta s) (receivers same i c meta s)) (Unreached s ∷ [])
              (all-map (Meets a i (PushDownMethod c meta s)) (MeansSame c meta s) (receivers same i c meta s) h.means_same) (h.unreached, tt),
        ),
      ),
    ),
  )
  in-list (AddParameter s t x passed) h = each-added a i s t x passed h
  in-list (RemoveParameter s k t) h = each-removed a i s k t h
  in-list (AbstractInstVar c x setter given) h = each-abstracted a i c x setter given h
  in-list (ExtractMethod c meta s from to t) h = each-extracted a i c meta s from to t h
  in-list (InlineMethod c meta s from to) h = each-inlined a i c meta s from to h
  in-list (ExtractTemp c meta s from to x) h = each-taken a i c meta s from to x h
  in-list (InlineTemp c meta s x) h = each-replaced a i c meta s x h
  in-list (RenameTemp c meta s x y) h = each-renamed a i c meta s x y h

  -- all conditions hold of a command of which none is false
  pub all-hold : (command : CommandOf N) → first_false a i command ≡ None → AllHold a i command
  all-hold command none = by-name command (all-pass (holds a i command) (needs a i command) none)

  pub none-false : (command : CommandOf N) → AllHold a i command → first_false a i command ≡ None
  none-false command hold = none-fails (holds a i command) (needs a i command) (in-list command hold)
