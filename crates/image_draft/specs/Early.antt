-- The refusals of a definition in two parts: those that the classes before it decide, and those that are left to the classes with it.
use Rattle.std.specs.Prelude.{ℕ, List, [], ◌∷◌, Bool, not, nat_eq, length, ◌&&◌, ◌||◌, ◌==◌, Option}
use Rattle.std.specs.Option.{option_and_then}
use Rattle.image_model.specs.Image.{ClassOf}
use Rattle.image_model.specs.Means.{of_instance, of_class_side}
use Rattle.file_model.specs.Causes.{Cause, Condition, when, UnknownSuperclass, Cycle, VariableTwice, KernelReplaced, UnknownClass, TooMany}
use Rattle.file_model.specs.Changes.{DefinitionOf}
use Rattle.file_model.specs.Hierarchy.{has_class, is_kernel_class, stands_twice}
use Rattle.file_model.specs.Refusals.{lacks_superclass, makes_cycle}
use Rattle.file_faults.specs.declared.fault.ImageCause.{ImageCause}
use Rattle.file_faults.specs.Faults.{cause_of}

-- the cause that is told, if one is told
abbrev pub told : Option ImageCause → Option Cause
told o = option_and_then cause_of o

-- those that the classes before the definition decide first
abbrev pub early_refusals : List (ClassOf ℕ) → DefinitionOf ℕ → List Condition
early_refusals classes d =
    when (is_kernel_class nat_eq classes d.name) KernelReplaced
    ∷ when (lacks_superclass nat_eq classes d) UnknownSuperclass
    ∷ when (makes_cycle nat_eq classes d) Cycle ∷ []

-- those that come after them, for the classes with the definition, where it is known whether a class variable stands twice and whether there is a class too many
abbrev pub late_refusals : List (ClassOf ℕ) → ℕ → Bool → Bool → List Condition
late_refusals new n repeats too_many =
    when (stands_twice nat_eq new of_instance n || (stands_twice nat_eq new of_class_side n || repeats)) VariableTwice
    ∷ when too_many TooMany ∷ []

-- those of class-instance variables, in the same two parts
abbrev pub early_side_refusals : List (ClassOf ℕ) → ℕ → List ℕ → List Condition
early_side_refusals classes n names =
    when (not (has_class nat_eq classes n)) UnknownClass
    ∷ when (is_kernel_class nat_eq classes n && not (length names == 0)) KernelReplaced ∷ []

abbrev pub late_side_refusals : List (ClassOf ℕ) → ℕ → List Condition
late_side_refusals new n = when (stands_twice nat_eq new of_class_side n) VariableTwice ∷ []
