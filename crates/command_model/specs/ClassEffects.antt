-- What `addClass` and `removeClass` make of an image.
use Rattle.std.specs.Prelude.{List, [], ◌∷◌, map, filter, Bool, false, not, if◌then◌else◌, Some}
use Rattle.scope_model.specs.Scope.{is_among}
use Rattle.image_model.specs.Image.{ClassOf, ImageOf}
use Rattle.command_model.specs.Hierarchy.{is_method_of}

-- a class of the user without variables, category and comment
abbrev pub new_class : {N : Type 0} → N → N → ClassOf N
new_class d p = record {
  name = d;
  superclass = Some p;
  instance = [];
  shared = [];
  class_side = [];
  category = [];
  comment = [];
  kernel = false;
}

-- the list with a further item before the first one that passes, or last
abbrev pub put_before : {X : Type 0} → (X → Bool) → X → List X → List X
put_before passes x [] = x ∷ []
put_before passes x (y ∷ ys) = if passes y then x ∷ y ∷ ys else y ∷ put_before passes x ys

-- a class, which stands under d where it is one of these
abbrev pub put_under : {N : Type 0} → (N → N → Bool) → N → List N → ClassOf N → ClassOf N
put_under same d under e = if is_among same under e.name then record e { superclass = Some d } else e

-- the image with a class d under p, and these classes under d, which stands before the first of them, or last
abbrev pub class_added : {N : Type 0} → (N → N → Bool) → N → N → List N → ImageOf N → ImageOf N
class_added same d p under i = record i {
  classes = put_before (λ (e : ClassOf _). is_among same under e.name) (new_class d p) (map (put_under same d under) i.classes);
}

-- the image without a class and its methods
abbrev pub class_removed : {N : Type 0} → (N → N → Bool) → N → ImageOf N → ImageOf N
class_removed same c i = record i {
  classes = filter (λ (e : ClassOf _). not (same c e.name)) i.classes;
  methods = filter (λ m. not (is_method_of same c m)) i.methods;
}
