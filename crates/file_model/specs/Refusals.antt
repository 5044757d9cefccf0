-- When a chunk that is in a form is refused: the conditions in the order in which they are judged.
use Rattle.std.specs.Prelude.{ℕ, List, [], ◌∷◌, length, Bool, false, not, ◌&&◌, ◌||◌, ◌==◌, nat_le, is_some}
use Rattle.std.specs.Option.{option_map_or}
use Rattle.image_model.specs.Image.{ClassOf, EntryOf, ImageOf}
use Rattle.image_model.specs.Chain.{chain}
use Rattle.image_model.specs.Lookup.{own_method}
use Rattle.image_model.specs.Means.{of_instance, of_class_side}
use Rattle.file_model.specs.Causes.{Condition, when, UnknownSuperclass, Cycle, VariableTwice, KernelReplaced, UnknownClass, TooMany}
use Rattle.file_model.specs.Changes.{DefinitionOf, RunOf}
use Rattle.file_model.specs.Hierarchy.{has_class, is_kernel_class, stands_in, has_subclass, has_repeat, stands_twice}

-- how many classes there may be, those of the kernel among them
abbrev pub class_limit : ℕ
class_limit = 10000

-- how many methods there may be, those of the kernel among them
abbrev pub method_limit : ℕ
method_limit = 200000

-- whether there is a method of a class, a side and a selector
abbrev pub has_method : {N : Type 0} → (N → N → Bool) → List (EntryOf N) → N → Bool → N → Bool
has_method same methods c meta s = is_some (own_method same methods c meta s)

-- whether the method of a class, a side and a selector is one of the kernel
abbrev pub is_kernel_method : {N : Type 0} → (N → N → Bool) → List (EntryOf N) → N → Bool → N → Bool
is_kernel_method same methods c meta s = option_map_or (λ (m : EntryOf _). m.kernel) (own_method same methods c meta s) false

-- the superclass that is named is no class
abbrev pub lacks_superclass : {N : Type 0} → (N → N → Bool) → List (ClassOf N) → DefinitionOf N → Bool
lacks_superclass same classes d = option_map_or (λ p. not (has_class same classes p)) d.superclass false

-- the class would stand above itself
abbrev pub makes_cycle : {N : Type 0} → (N → N → Bool) → List (ClassOf N) → DefinitionOf N → Bool
makes_cycle same classes d = stands_in same d.name (chain same classes d.superclass)

-- a class is new, and there are as many as there may be
abbrev pub is_one_class_too_many : {N : Type 0} → (N → N → Bool) → List (ClassOf N) → N → Bool
is_one_class_too_many same classes n = not (has_class same classes n) && nat_le class_limit (length classes)

-- a method is new, and there are as many as there may be
abbrev pub is_one_method_too_many : {N : Type 0} → (N → N → Bool) → List (EntryOf N) → N → Bool → N → Bool
is_one_method_too_many same methods c meta s = not (has_method same methods c meta s) && nat_le method_limit (length methods)

-- of a definition that would make of the classes those given last
abbrev pub definition_refusals : {N : Type 0} → (N → N → Bool) → List (ClassOf N) → DefinitionOf N → List (ClassOf N) → List Condition
definition_refusals same classes d new =
    when (is_kernel_class same classes d.name) KernelReplaced
    ∷ when (lacks_superclass same classes d) UnknownSuperclass
    ∷ when (makes_cycle same classes d) Cycle
    ∷ when (stands_twice same new of_instance d.name || (stands_twice same new of_class_side d.name || has_repeat same d.shared)) VariableTwice
    ∷ when (is_one_class_too_many same classes d.name) TooMany ∷ []

-- of the comment of a class
abbrev pub comment_refusals : {N : Type 0} → (N → N → Bool) → List (ClassOf N) → N → List Condition
comment_refusals same classes n =
    when (not (has_class same classes n)) UnknownClass
    ∷ when (is_kernel_class same classes n) KernelReplaced ∷ []

-- of class-instance variables that would make of the classes those given last
abbrev pub class_side_refusals : {N : Type 0} → (N → N → Bool) → List (ClassOf N) → N → List N → List (ClassOf N) → List Condition
class_side_refusals same classes n names new =
    when (not (has_class same classes n)) UnknownClass
    ∷ when (is_kernel_class same classes n && not (length names == 0)) KernelReplaced
    ∷ when (stands_twice same new of_class_side n) VariableTwice ∷ []

-- of the removal of a method
abbrev pub removal_refusals : {N : Type 0} → (N → N → Bool) → ImageOf N → N → Bool → N → List Condition
removal_refusals same i c meta s =
    when (not (has_class same i.classes c)) UnknownClass
    ∷ when (is_kernel_method same i.methods c meta s) KernelReplaced ∷ []

-- of the removal of a class
abbrev pub class_removal_refusals : {N : Type 0} → (N → N → Bool) → List (ClassOf N) → N → List Condition
class_removal_refusals same classes n =
    when (not (has_class same classes n)) UnknownClass
    ∷ when (is_kernel_class same classes n) KernelReplaced
    ∷ when (has_subclass same classes n) UnknownSuperclass ∷ []

-- of a run of methods
abbrev pub run_refusals : {N : Type 0} → (N → N → Bool) → List (ClassOf N) → RunOf N → List Condition
run_refusals same classes r = when (not (has_class same classes r.class)) UnknownClass ∷ []

-- of a method of a run, by its selector
abbrev pub method_refusals : {N : Type 0} → (N → N → Bool) → List (EntryOf N) → RunOf N → N → List Condition
method_refusals same methods r s =
    when (is_kernel_method same methods r.class r.meta s) KernelReplaced
    ∷ when (is_one_method_too_many same methods r.class r.meta s) TooMany ∷ []
