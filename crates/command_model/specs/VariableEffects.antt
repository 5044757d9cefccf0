-- What additions, removals and moves of variables make of an image.
use Rattle.std.specs.Prelude.{[], ◌∷◌, ◌++◌, map, filter, Bool, not, if◌then◌else◌}
use Rattle.std.specs.Option.{option_map_or}
use Rattle.image_model.specs.Image.{ClassOf, ImageOf}
use Rattle.image_model.specs.Means.{VariableKind, of_instance, of_class, variables}
use Rattle.rename_model.specs.VariableRenamed.{with_variables}
use Rattle.command_model.specs.Hierarchy.{superclass_name, is_child}

-- the class with one more variable, which is its last
abbrev pub with_last : {N : Type 0} → VariableKind → N → ClassOf N → ClassOf N
with_last kind x e = with_variables kind (variables kind e ++ x ∷ []) e

-- the class without a variable
abbrev pub without : {N : Type 0} → (N → N → Bool) → VariableKind → N → ClassOf N → ClassOf N
without same kind x e = with_variables kind (filter (λ y. not (same x y)) (variables kind e)) e

-- the image with another class in place of that of a name
abbrev pub with_changed : {N : Type 0} → (N → N → Bool) → N → (ClassOf N → ClassOf N) → ImageOf N → ImageOf N
with_changed same c change i = record i { classes = map (λ (e : ClassOf _). if same c e.name then change e else e) i.classes }

-- the image in which a class has one more variable
abbrev pub variable_added : {N : Type 0} → (N → N → Bool) → VariableKind → N → N → ImageOf N → ImageOf N
variable_added same kind c x i = with_changed same c (with_last kind x) i

-- the image in which a class has a variable no more
abbrev pub variable_removed : {N : Type 0} → (N → N → Bool) → VariableKind → N → N → ImageOf N → ImageOf N
variable_removed same kind c x i = with_changed same c (without same kind x) i

-- a class, once an instance variable goes up to the class p: it is the last of that one, and no direct subclass of it has it
abbrev pub class_pushed_up : {N : Type 0} → (N → N → Bool) → N → N → ClassOf N → ClassOf N
class_pushed_up same p x e =
    if same p e.name then with_last of_instance x e
    else if is_child same p e then without same of_instance x e
    else e

-- a class, once an instance variable of the class c goes down: that one has it no more, and it is the last of each direct subclass
abbrev pub class_pushed_down : {N : Type 0} → (N → N → Bool) → N → N → ClassOf N → ClassOf N
class_pushed_down same c x e =
    if same c e.name then without same of_instance x e
    else if is_child same c e then with_last of_instance x e
    else e

-- the image with an instance variable of a class in its superclass; where there is none it stays
abbrev pub instance_pushed_up : {N : Type 0} → (N → N → Bool) → N → N → ImageOf N → ImageOf N
instance_pushed_up same c x i =
    option_map_or (λ p. record i { classes = map (class_pushed_up same p x) i.classes }) (superclass_name same i c) i

-- the image with an instance variable of a class in the direct subclasses
abbrev pub instance_pushed_down : {N : Type 0} → (N → N → Bool) → N → N → ImageOf N → ImageOf N
instance_pushed_down same c x i = record i { classes = map (class_pushed_down same c x) i.classes }

-- the image with a class variable of the class c in the class d, whose last it is
abbrev pub shared_moved : {N : Type 0} → (N → N → Bool) → N → N → N → ImageOf N → ImageOf N
shared_moved same c x d i = variable_added same of_class d x (variable_removed same of_class c x i)

-- the image with a class variable of a class in its superclass; where there is none it stays
abbrev pub shared_pushed_up : {N : Type 0} → (N → N → Bool) → N → N → ImageOf N → ImageOf N
shared_pushed_up same c x i = option_map_or (λ p. shared_moved same c x p i) (superclass_name same i c) i
