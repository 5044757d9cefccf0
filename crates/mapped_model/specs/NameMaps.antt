-- How names are mapped.
use Rattle.std.specs.Prelude.{◌≡◌, []}
use Rattle.std.specs.List.{AllByRecursion}
use Rattle.run_model.specs.Values.{Name}
use Rattle.run_model.specs.ObjectPrimitives.{value_classes}
use Rattle.run_model.specs.Renamings.{OfClass}
use Rattle.scope_model.specs.SpecialNames.{one_block_selectors, two_block_selectors, loop_selectors}

-- What each class, each selector, each class variable of a definer, and each instance variable and class-instance variable of a class is called after; a variable that is inherited has a name in each class that has it.
pub record NameMaps : Type 0 where
  pub class : Name → Name
  pub selector : Name → Name
  pub shared : OfClass → OfClass
  pub instance : OfClass → Name
  pub class_side : OfClass → Name

-- no two things are called the same after that were not before
pub record IsOneToOne (f : NameMaps) : Type 0 where
  pub class : (c d : Name) → f.class c ≡ f.class d → c ≡ d
  pub selector : (s t : Name) → f.selector s ≡ f.selector t → s ≡ t
  pub shared : (k l : OfClass) → f.shared k ≡ f.shared l → k ≡ l
  pub instance : (c n m : Name) → f.instance (c, n) ≡ f.instance (c, m) → n ≡ m
  pub class_side : (c n m : Name) → f.class_side (c, n) ≡ f.class_side (c, m) → n ≡ m

-- an instance variable is called the same after in all classes, and so is a class-instance variable
pub record IsSameInAllClasses (f : NameMaps) : Type 0 where
  pub instance : (c d n : Name) → f.instance (c, n) ≡ f.instance (d, n)
  pub class_side : (c d n : Name) → f.class_side (c, n) ≡ f.class_side (d, n)

-- the classes of values and the selectors of control sends keep their names, and only the empty name is empty
pub record KeepsWords (f : NameMaps) : Type 0 where
  pub nothing : f.class [] ≡ []
  pub classes : AllByRecursion (λ c. f.class c ≡ c) value_classes
  pub one_block : AllByRecursion (λ s. f.selector s ≡ s) one_block_selectors
  pub two_blocks : AllByRecursion (λ s. f.selector s ≡ s) two_block_selectors
  pub loops : AllByRecursion (λ s. f.selector s ≡ s) loop_selectors
