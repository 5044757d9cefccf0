-- Which method a message runs.
use Rattle.std.specs.Prelude.{List, find, Bool, false, ◌&&◌, if◌then◌else◌, Option, None}
use Rattle.std.proofs.Math.Bool.{beq}
use Rattle.std.specs.Option.{option_map_or, option_and_then, option_or}
use Rattle.image_model.specs.Image.{ClassOf, EntryOf, ImageOf}
use Rattle.image_model.specs.Words.{WordsOf}
use Rattle.image_model.specs.Upwards.{first_given}
use Rattle.image_model.specs.Chain.{class_of_name, chain_from}

-- whether it is the method of a class, a side and a selector
abbrev pub is_method : {N : Type 0} → (N → N → Bool) → N → Bool → N → EntryOf N → Bool
is_method same c meta s m = option_map_or (same c) m.class false && beq meta m.meta && same s m.tree.selector

-- the method of a class, a side and a selector
abbrev pub own_method : {N : Type 0} → (N → N → Bool) → List (EntryOf N) → N → Bool → N → Option (EntryOf N)
own_method same methods c meta s = find (is_method same c meta s) methods

-- the first method for a selector on a side of the chain of a class
abbrev pub on_chain : {N : Type 0} → (N → N → Bool) → ImageOf N → Option (ClassOf N) → Bool → N → Option (EntryOf N)
on_chain same i o meta s = first_given (λ c. own_method same i.methods c.name meta s) (chain_from same i.classes o)

-- what a class understands as an object: the instance side of the class `Class` and of those above it
abbrev pub as_object : {N : Type 0} → WordsOf N → ImageOf N → N → Option (EntryOf N)
as_object w i s = on_chain w.tests.same i (find (λ c. w.is_class c.name) i.classes) false s

-- the method for a selector from a class: the first one on that side of its chain, and then, on the class side, what a class understands as an object
abbrev pub lookup : {N : Type 0} → WordsOf N → ImageOf N → Option N → Bool → N → Option (EntryOf N)
lookup w i c meta s =
    option_or (on_chain w.tests.same i (class_of_name w.tests.same i.classes c) meta s) (if meta then as_object w i s else None)

-- the method for a message to `super` in a method of a class: the look-up begins at the superclass, and above the class side of `Object` at `Class`
abbrev pub super_lookup : {N : Type 0} → WordsOf N → ImageOf N → Option N → Bool → N → Option (EntryOf N)
super_lookup w i c meta s =
    lookup w i (option_and_then (λ (d : ClassOf _). d.superclass) (class_of_name w.tests.same i.classes c)) meta s
