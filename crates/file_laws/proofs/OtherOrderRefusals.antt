-- The conditions under which a change is refused are the same for the same classes in another order.
use Rattle.std.proofs.Common.{◌≡◌, Bool, true, not, List, [], ◌∷◌, length}
use Rattle.std.specs.Prelude.{◌||◌, ◌&&◌, ◌==◌}
use Rattle.image_model.specs.Image.{ClassOf, ImageOf}
use Rattle.image_model.specs.Means.{of_instance, of_class_side}
use Rattle.file_model.specs.Causes.{Condition, when, UnknownSuperclass, Cycle, VariableTwice, KernelReplaced, UnknownClass, TooMany}
use Rattle.file_model.specs.Changes.{ChangeOf, Define, DefineAt, Comment, SetClassSide, RemoveMethod, RemoveClass, DefinitionOf, RunOf}
use Rattle.file_model.specs.Hierarchy.{has_repeat}
use Rattle.file_model.specs.Refusals.{is_kernel_method, definition_refusals, comment_refusals, class_side_refusals, removal_refusals, class_removal_refusals, run_refusals}
use Rattle.file_model.specs.Applied.{with_definition, with_class_side}
use Rattle.file_laws.specs.Orders.{AreSameClasses, unplaced, with_classes}
use Rattle.file_laws.proofs.OtherOrder.{same_with_definition, same_with_class_side}
use Rattle.file_laws.proofs.OtherOrderLooks.{has_same, is_kernel_same, has_subclass_same, lacks_same, makes_cycle_same, too_many_same, stands_twice_same}

-- the conditions under which a change of an image is refused
abbrev pub change_refusals : {N : Type 0} → (N → N → Bool) → Bool → ChangeOf N → ImageOf N → List Condition
change_refusals same kernel (Define d) i = definition_refusals same i.classes d (with_definition same kernel d i.classes)
change_refusals same kernel (DefineAt d k) i = definition_refusals same i.classes d (with_definition same kernel d i.classes)
change_refusals same kernel (Comment n text) i = comment_refusals same i.classes n
change_refusals same kernel (SetClassSide n names) i = class_side_refusals same i.classes n names (with_class_side same n names i.classes)
change_refusals same kernel (RemoveMethod c meta s) i = removal_refusals same i c meta s
change_refusals same kernel (RemoveClass n) i = class_removal_refusals same i.classes n

-- over names that a test tells apart
module _ {N : Type 0} (is_same : N → N → Bool) (reflexive : (n : N) → is_same n n ≡ true) (equal : (s t : N) → is_same s t ≡ true → s ≡ t)
    (cs ds : List (ClassOf N)) (m : AreSameClasses cs ds) where
  -- of a definition
  pub definition_refusals_same : (d : DefinitionOf N) (new others : List (ClassOf N)) → AreSameClasses new others → definition_refusals is_same cs d new ≡ definition_refusals is_same ds d others
  definition_refusals_same d new others k =
      λ i. when (is_kernel_same is_same reflexive equal cs ds m d.name i) KernelReplaced
      ∷ when (lacks_same is_same reflexive equal cs ds m d i) UnknownSuperclass
      ∷ when (makes_cycle_same is_same reflexive equal cs ds m d i) Cycle
      ∷ when (stands_twice_same is_same reflexive equal new others k of_instance d.name i || (stands_twice_same is_same reflexive equal new others k of_class_side d.name i || has_repeat is_same d.shared)) VariableTwice
      ∷ when (too_many_same is_same reflexive equal cs ds m d.name i) TooMany ∷ []

  -- of a comment
  pub comment_refusals_same : (n : N) → comment_refusals is_same cs n ≡ comment_refusals is_same ds n
  comment_refusals_same n =
      λ i. when (not (has_same is_same reflexive equal cs ds m n i)) UnknownClass
      ∷ when (is_kernel_same is_same reflexive equal cs ds m n i) KernelReplaced ∷ []

  -- of class-instance variables
  pub class_side_refusals_same : (n : N) (names : List N) (new others : List (ClassOf N)) → AreSameClasses new others → class_side_refusals is_same cs n names new ≡ class_side_refusals is_same ds n names others
  class_side_refusals_same n names new others k =
      λ i. when (not (has_same is_same reflexive equal cs ds m n i)) UnknownClass
      ∷ when (is_kernel_same is_same reflexive equal cs ds m n i && not (length names == 0)) KernelReplaced
      ∷ when (stands_twice_same is_same reflexive equal new others k of_class_side n i) VariableTwice ∷ []

  -- of the removal of a class
  pub class_removal_refusals_same : (n : N) → class_removal_refusals is_same cs n ≡ class_removal_refusals is_same ds n
  class_removal_refusals_same n =
      λ i. when (not (has_same is_same reflexive equal cs ds m n i)) UnknownClass
      ∷ when (is_kernel_same is_same reflexive equal cs ds m n i) KernelReplaced
      ∷ when (has_subclass_same is_same reflexive equal cs ds m n i) UnknownSuperclass ∷ []

  -- of a run of methods
  pub run_refusals_same : (r : RunOf N) → run_refusals is_same cs r ≡ run_refusals is_same ds r
  run_refusals_same r = λ i. when (not (has_same is_same reflexive equal cs ds m r.class i)) UnknownClass ∷ []

-- over names that a test tells apart
module _ {N : Type 0} (is_same : N → N → Bool) (reflexive : (n : N) → is_same n n ≡ true) (equal : (s t : N) → is_same s t ≡ true → s ≡ t)
    (image : ImageOf N) (ds : List (ClassOf N)) (m : AreSameClasses image.classes ds) where
  -- of the removal of a method
  pub removal_refusals_same : (c : N) (meta : Bool) (s : N) → removal_refusals is_same image c meta s ≡ removal_refusals is_same (with_classes ds image) c meta s
  removal_refusals_same c meta s =
      λ i. when (not (has_same is_same reflexive equal image.classes ds m c i)) UnknownClass
      ∷ when (is_kernel_method is_same image.methods c meta s) KernelReplaced ∷ []

  -- of any change, with or without the place that it states
  pub change_refusals_same : (kernel : Bool) (c : ChangeOf N) → change_refusals is_same kernel c image ≡ change_refusals is_same kernel (unplaced c) (with_classes ds image)
  change_refusals_same kernel (Define d) =
      definition_refusals_same is_same reflexive equal image.classes ds m d (with_definition is_same kernel d image.classes) (with_definition is_same kernel d ds) (same_with_definition is_same reflexive equal kernel d image.classes ds m)
  change_refusals_same kernel (DefineAt d k) =
      definition_refusals_same is_same reflexive equal image.classes ds m d (with_definition is_same kernel d image.classes) (with_definition is_same kernel d ds) (same_with_definition is_same reflexive equal kernel d image.classes ds m)
  change_refusals_same kernel (Comment n text) = comment_refusals_same is_same reflexive equal image.classes ds m n
  change_refusals_same kernel (SetClassSide n names) =
      class_side_refusals_same is_same reflexive equal image.classes ds m n names (with_class_side is_same n names image.classes) (with_class_side is_same n names ds) (same_with_class_side is_same reflexive equal n names image.classes ds m)
  change_refusals_same kernel (RemoveMethod c meta s) = removal_refusals_same c meta s
  change_refusals_same kernel (RemoveClass n) = class_removal_refusals_same is_same reflexive equal image.classes ds m n
