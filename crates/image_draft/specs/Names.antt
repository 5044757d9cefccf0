-- How the classes of a draft stand.
use Rattle.std.specs.Prelude.{◌≡◌, ℕ, List, [], ◌∷◌, false, nat_eq}
use Rattle.image_model.specs.Image.{ClassOf}
use Rattle.image_model.specs.Valid.{SuperclassesStandBefore}
use Rattle.file_model.specs.Hierarchy.{has_class}

-- no class has the name of one before it
abbrev pub NamesDiffer : List (ClassOf ℕ) → Type 0
NamesDiffer [] = Unit {0}
NamesDiffer (c ∷ cs) = (has_class nat_eq cs c.name ≡ false) × NamesDiffer cs

-- no two classes have one name, and each superclass stands before its subclasses
pub record AreOrdered (classes : List (ClassOf ℕ)) : Type 0 where
  pub differ : NamesDiffer classes
  pub before : SuperclassesStandBefore classes
