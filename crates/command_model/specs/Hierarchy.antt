-- The classes next to a class, and its methods.
use Rattle.std.specs.Prelude.{List, map, filter, Bool, false, ◌&&◌, Option, is_some, is_none, option_and_then}
use Rattle.std.specs.Option.{option_map_or}
use Rattle.image_model.specs.Image.{ClassOf, EntryOf, ImageOf}
use Rattle.image_model.specs.Chain.{class_named}
use Rattle.image_model.specs.Lookup.{own_method}

-- whether there is a class of the name
abbrev pub is_class : {N : Type 0} → (N → N → Bool) → ImageOf N → N → Bool
is_class same i c = is_some (class_named same i.classes c)

-- the name of the superclass; none where there is no class of the name, or it has none
abbrev pub superclass_name : {N : Type 0} → (N → N → Bool) → ImageOf N → N → Option N
superclass_name same i c = option_and_then (λ (e : ClassOf _). e.superclass) (class_named same i.classes c)

-- whether a class is a direct subclass of that of a name
abbrev pub is_child : {N : Type 0} → (N → N → Bool) → N → ClassOf N → Bool
is_child same c e = option_map_or (same c) e.superclass false

-- whether a method is one of the class of a name, on either side
abbrev pub is_method_of : {N : Type 0} → (N → N → Bool) → N → EntryOf N → Bool
is_method_of same c m = option_map_or (same c) m.class false

-- the names of the direct subclasses that have no method of their own for a selector on a side, in the order of classes
abbrev pub receivers : {N : Type 0} → (N → N → Bool) → ImageOf N → N → Bool → N → List N
receivers same i c meta s =
    map (λ (e : ClassOf _). e.name) (filter (λ (e : ClassOf _). is_child same c e && is_none (own_method same i.methods e.name meta s)) i.classes)
