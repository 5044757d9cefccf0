-- Images with one more class or method at the end, and what may be put in there.
use Rattle.std.specs.Prelude.{◌≡◌, ◌↔◌, List, [], ◌∷◌, ◌++◌, map, Bool, false, IsTrue, Option, Some, None, Contains}
use Rattle.std.specs.List.{flat_map}
use Rattle.image_model.specs.Image.{ClassOf, EntryOf, ImageOf}
use Rattle.image_model.specs.Words.{WordsOf}
use Rattle.image_model.specs.Chain.{chain}
use Rattle.image_model.specs.Means.{VariableKind, of_instance, of_class_side, variables}
use Rattle.image_model.specs.Valid.{ReadingOf, HasNoRepeat, class_names, GivesNames, signature, HasClass, IsUserMethod}

-- the image with one more class at the end
abbrev pub with_class : {N : Type 0} → ImageOf N → ClassOf N → ImageOf N
with_class i c = record i { classes = i.classes ++ c ∷ [] }

-- the image with one more method at the end
abbrev pub with_method : {N : Type 0} → ImageOf N → EntryOf N → ImageOf N
with_method i m = record i { methods = i.methods ++ m ∷ [] }

-- the variables of a kind that a class defines, and those of the classes that stand above it
abbrev pub variables_up : {N : Type 0} → (N → N → Bool) → VariableKind → List (ClassOf N) → ClassOf N → List N
variables_up same kind classes c = variables kind c ++ flat_map (variables kind) (chain same classes c.superclass)

-- a class that no class of the image has the name of, whose superclass is there, whose variables are defined once, and which is none of the kernel
pub record IsNewClass {N : Type 0} (w : WordsOf N) (r : ReadingOf N) (i : ImageOf N) (c : ClassOf N) : Type 0 where
  pub name_is_new : Contains (class_names i.classes) c.name → ⊥
  pub superclass_there : (n : N) → c.superclass ≡ Some n → Contains (class_names i.classes) n
  pub only_object_is_root : IsTrue (w.is_object c.name) ↔ (c.superclass ≡ None)
  pub names_may_be_given : GivesNames r.IsName c
  pub instance_variables_once : HasNoRepeat (variables_up w.tests.same of_instance i.classes c)
  pub class_side_variables_once : HasNoRepeat (variables_up w.tests.same of_class_side i.classes c)
  pub class_variables_once : HasNoRepeat c.shared
  pub user : c.kernel ≡ false

-- a method of a class of the image that has none yet for its side and its selector, whose source spells it, and which is none of the kernel
pub record IsNewMethod {N : Type 0} (r : ReadingOf N) (i : ImageOf N) (m : EntryOf N) : Type 0 where
  pub class_there : HasClass i.classes m
  pub signature_is_new : Contains (map signature i.methods) (signature m) → ⊥
  pub spells : IsUserMethod r m
  pub user : m.kernel ≡ false

-- what the chain of a class depends on
abbrev pub hierarchy : {N : Type 0} → ClassOf N → N × Option N
hierarchy c = (c.name, c.superclass)
