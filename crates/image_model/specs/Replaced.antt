-- Images in which classes and methods are replaced at their places, or a method is put in.
use Rattle.std.specs.Prelude.{◌≡◌, List, map}
use Rattle.image_model.specs.Image.{ClassOf, EntryOf, ImageOf}
use Rattle.image_model.specs.Means.{VariableKind, variables}
use Rattle.image_model.specs.Valid.{signature}

-- the image with each class and each method replaced by what stands for it
abbrev pub replaced_by : {N : Type 0} → (ClassOf N → ClassOf N) → (EntryOf N → EntryOf N) → ImageOf N → ImageOf N
replaced_by h g i = record i { classes = map h i.classes; methods = map g i.methods }

-- what stands for a class has its name and its superclass
pub record KeepsHierarchy {N : Type 0} (h : ClassOf N → ClassOf N) (c : ClassOf N) : Type 0 where
  pub name : (h c).name ≡ c.name
  pub superclass : (h c).superclass ≡ c.superclass

-- what stands for a class has its variables
abbrev pub KeepsVariables : {N : Type 0} → (ClassOf N → ClassOf N) → ClassOf N → Type 0
KeepsVariables h c = (kind : VariableKind) → variables kind (h c) ≡ variables kind c

-- what stands for a method has its class, its side and its selector
abbrev pub KeepsSignature : {N : Type 0} → (EntryOf N → EntryOf N) → EntryOf N → Type 0
KeepsSignature g m = signature (g m) ≡ signature m

-- the image with these methods
abbrev pub with_methods : {N : Type 0} → ImageOf N → List (EntryOf N) → ImageOf N
with_methods i methods = record i { methods = methods }
