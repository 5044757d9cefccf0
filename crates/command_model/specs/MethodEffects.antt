-- What additions, removals and moves of methods make of an image. No tree and no source changes.
use Rattle.std.specs.Prelude.{ℕ, List, [], ◌∷◌, map, filter, flat_map, Bool, false, not, if◌then◌else◌, Some}
use Rattle.std.specs.Option.{option_map_or}
use Rattle.tree_model.specs.Tree.{MethodOf}
use Rattle.image_model.specs.Image.{EntryOf, ImageOf}
use Rattle.image_model.specs.Lookup.{is_method}
use Rattle.image_model.specs.Grown.{with_method}
use Rattle.command_model.specs.Hierarchy.{superclass_name, receivers}

-- a method of the user
abbrev pub new_method : {N : Type 0} → N → Bool → List ℕ → List ℕ → MethodOf N → EntryOf N
new_method c meta protocol text tree =
    record { class = Some c; meta = meta; protocol = protocol; source = text; tree = tree; kernel = false }

-- the image with one more method, which is the last
abbrev pub method_added : {N : Type 0} → N → Bool → List ℕ → List ℕ → MethodOf N → ImageOf N → ImageOf N
method_added c meta protocol text tree i = with_method i (new_method c meta protocol text tree)

-- the image without a method
abbrev pub method_removed : {N : Type 0} → (N → N → Bool) → N → Bool → N → ImageOf N → ImageOf N
method_removed same c meta s i = record i { methods = filter (λ m. not (is_method same c meta s m)) i.methods }

-- the same method, of another class
abbrev pub of_class_named : {N : Type 0} → EntryOf N → N → EntryOf N
of_class_named m d = record m { class = Some d }

-- the image in which a method is the superclass's, at its place; where there is no superclass it stays
abbrev pub method_pushed_up : {N : Type 0} → (N → N → Bool) → N → Bool → N → ImageOf N → ImageOf N
method_pushed_up same c meta s i =
    option_map_or (λ p. record i { methods = map (λ m. if is_method same c meta s m then of_class_named m p else m) i.methods })
    (superclass_name same i c) i

-- the image in which a copy of a method for each direct subclass without one of its own stands at the place of the method, in the order of classes
abbrev pub method_pushed_down : {N : Type 0} → (N → N → Bool) → N → Bool → N → ImageOf N → ImageOf N
method_pushed_down same c meta s i = record i {
  methods = flat_map (λ m. if is_method same c meta s m then map (of_class_named m) (receivers same i c meta s) else m ∷ []) i.methods;
}
