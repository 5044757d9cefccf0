-- Behind a kernel without `Object` an image can be made of another, and its edits are refused.
use Rattle.std.proofs.Common.{◌≡◌, zero, suc, false, List, [], ◌∷◌, None, Ok, refl, arith}
use Rattle.std.specs.Prelude.{codes}
use Rattle.token_model.specs.declared.kind.Dialect.TheVariants.{Second}
use Rattle.scope_model.specs.SpecialNames.{is_pseudo_variable}
use Rattle.image_model.specs.Image.{ClassOf, ImageOf}
use Rattle.image_model.specs.Valid.{HasNoRepeat, SuperclassesStandBefore, IsValid, IsFileable}
use Rattle.image_model.specs.Words.{text_words}
use Rattle.file_model.specs.Fileable.{reading_of}
use Rattle.file_model.specs.Filing.{Text}
use Rattle.change_model.specs.Edits.{Edit}
use Rattle.change_model.specs.Edited.{Stage, edited, AreMade, Made}
use Rattle.change_laws.specs.Images.{CanBeMade, IsMade}

-- nothing, and `Object` alone with a category
abbrev nothing : ImageOf Text
nothing = record { classes = []; methods = []; doits = []; heads = 0 }

abbrev object : Text → ClassOf Text
object category = record { name = codes "Object"; superclass = None; instance = []; shared = []; class_side = []; category = category; comment = []; kernel = false }

abbrev alone : Text → ImageOf Text
alone category = record { classes = object category ∷ []; methods = []; doits = []; heads = 0 }

none_twice : {X : Type 0} → HasNoRepeat {X = X} []
none_twice j k x e f = absurd (cc)

one_once : {X : Type 0} (y : X) → HasNoRepeat (y ∷ [])
one_once y zero zero x e f = refl
one_once y zero (suc k) x e f = absurd (cc)
one_once y (suc j) k x e f = absurd (cc)

before : (category : Text) → SuperclassesStandBefore (object category ∷ [])
before category zero c n e f = absurd (cc)
before category (suc k) c n e f = absurd (cc)

valid : (category : Text) → IsValid text_words (reading_of Second nothing) (alone category)
unfolding is_pseudo_variable
valid category = record {
  class_names_distinct = one_once (codes "Object");
  superclasses_before = before category;
  only_object_is_root = ((λ h. refl, λ h. refl), tt);
  names_may_be_given = (record { name = refl; instance = tt; class_side = tt; shared = tt }, tt);
  instance_variables_once = (none_twice, tt);
  class_side_variables_once = (none_twice, tt);
  class_variables_once = (none_twice, tt);
  methods_once = none_twice;
  method_classes_there = tt;
  user_methods = tt;
  doits = tt;
  kernel_classes = refl;
  kernel_methods = refl;
}

fileable : (category : Text) → IsFileable (reading_of Second nothing) (alone category)
fileable category = record { method_sources = tt; doit_sources = tt; doit_chunks = tt; heads_within = omega arith }

can_be_made : CanBeMade nothing (alone (codes "a")) (alone (codes "b"))
can_be_made = record {
  old = valid (codes "a");
  new = valid (codes "b");
  new_fileable = fileable (codes "b");
  old_first = record { classes = refl; methods = refl };
  new_first = record { classes = refl; methods = refl };
  few = record { classes = omega arith; methods = omega arith };
  doits = refl;
  heads = refl;
}

-- the first of several edits is made
first_made : {e : Edit} {es : List Edit} {s t : Stage} → AreMade (e ∷ es) s t → (u : Stage) × (edited e s ≡ Ok u)
first_made (Made {t} f m) = (t, f)

refused : IsMade (alone (codes "a")) (alone (codes "b")) → ⊥
refused m = let f = first_made m.made in let refusal = f.1 in absurd (cc)

pub not_made : (kernel : ImageOf Text) × (i : ImageOf Text) × (j : ImageOf Text) × CanBeMade kernel i j × (IsMade i j → ⊥)
not_made = (nothing, alone (codes "a"), alone (codes "b"), can_be_made, refused)
