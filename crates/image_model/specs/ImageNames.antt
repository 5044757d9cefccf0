-- A fact of each name in an image.
use Rattle.std.specs.Prelude.{Option, Some, None}
use Rattle.std.specs.List.{AllByRecursion}
use Rattle.tree_model.specs.AllNames.{SequenceNames, MethodNames}
use Rattle.image_model.specs.Image.{ClassOf, EntryOf, DoItOf, ImageOf}

-- of the name, if there is one
abbrev pub OptionNames : {N : Type 0} → (N → Type 0) → Option N → Type 0
OptionNames P None = Unit {0}
OptionNames P (Some n) = P n

-- of each name in a class
pub record ClassNames {N : Type 0} (P : N → Type 0) (c : ClassOf N) : Type 0 where
  pub name : P c.name
  pub superclass : OptionNames P c.superclass
  pub instance : AllByRecursion P c.instance
  pub shared : AllByRecursion P c.shared
  pub class_side : AllByRecursion P c.class_side

-- of each name in a method and its class's name
pub record EntryNames {N : Type 0} (P : N → Type 0) (m : EntryOf N) : Type 0 where
  pub class : OptionNames P m.class
  pub tree : MethodNames P m.tree

-- of each name in a do-it
abbrev pub DoItNames : {N : Type 0} → (N → Type 0) → DoItOf N → Type 0
DoItNames P d = SequenceNames P d.body

-- of each name in an image
pub record ImageNames {N : Type 0} (P : N → Type 0) (i : ImageOf N) : Type 0 where
  pub classes : AllByRecursion (ClassNames P) i.classes
  pub methods : AllByRecursion (EntryNames P) i.methods
  pub doits : AllByRecursion (DoItNames P) i.doits
