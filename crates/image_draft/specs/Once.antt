-- Classes of which none has a variable twice on its chain.
use Rattle.std.specs.Prelude.{◌≡◌, ℕ, List, false, nat_eq, Some, IfSome}
use Rattle.image_model.specs.Image.{ClassOf}
use Rattle.image_model.specs.Chain.{class_named}
use Rattle.image_model.specs.Means.{VariableKind, of_instance, of_class_side, variables}
use Rattle.file_model.specs.Changes.{DefinitionOf}
use Rattle.file_model.specs.Hierarchy.{stands_twice}
use Rattle.file_model.specs.Applied.{class_again}
use Rattle.image_draft.specs.Names.{AreOrdered}

-- no variable of a kind stands twice on the chain of a class
abbrev pub NoneTwice : List (ClassOf ℕ) → VariableKind → Type 0
NoneTwice classes kind = (n : ℕ) → stands_twice nat_eq classes kind n ≡ false

-- the classes are in order, and no variable stands twice on the chain of a class
pub record AreSound (classes : List (ClassOf ℕ)) : Type 0 where
  pub order : AreOrdered classes
  pub instance : NoneTwice classes of_instance
  pub class_side : NoneTwice classes of_class_side

-- a class that is there is defined again under the same superclass and with the same variables of a kind
pub record KeepsChains (classes : List (ClassOf ℕ)) (d : DefinitionOf ℕ) (kind : VariableKind) : Type 0 where
  pub class : ClassOf ℕ
  pub found : class_named nat_eq classes d.name ≡ Some class
  pub superclass : class.superclass ≡ d.superclass
  pub variables : variables kind (class_again d class) ≡ variables kind class

-- a class is new, or is defined again under the same superclass
abbrev pub StaysUnder : List (ClassOf ℕ) → DefinitionOf ℕ → Type 0
StaysUnder classes d = IfSome (class_named nat_eq classes d.name) (λ (c : ClassOf ℕ). c.superclass ≡ d.superclass)

-- the class of a name has these class-instance variables
pub record KeepsSide (classes : List (ClassOf ℕ)) (n : ℕ) (names : List ℕ) : Type 0 where
  pub class : ClassOf ℕ
  pub found : class_named nat_eq classes n ≡ Some class
  pub side : class.class_side ≡ names
