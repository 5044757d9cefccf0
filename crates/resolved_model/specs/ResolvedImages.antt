-- Images in which names are resolved, and which method a message runs there.
use Rattle.std.specs.Prelude.{ℕ, List, [], map, find, Bool, false, ◌&&◌, if◌then◌else◌, Option, Some, None}
use Rattle.std.proofs.Math.Bool.{beq}
use Rattle.std.specs.Option.{option_map, option_map_or, option_and_then, option_or}
use Rattle.rb_base.specs.Names.{text_eq}
use Rattle.image_model.specs.Image.{ClassOf, EntryOf, ImageOf}
use Rattle.image_model.specs.Words.{text_words}
use Rattle.image_model.specs.Upwards.{first_given}
use Rattle.image_model.specs.Chain.{class_of_name, chain_from}
use Rattle.run_model.specs.Values.{Name}
use Rattle.resolved_model.specs.ResolvedTrees.{ResolvedCode}
use Rattle.resolved_model.specs.Resolving.{resolved_method, resolved_doit}

-- what a method does: the primitive of a number, or its statements
pub data Doing : Type 0 where
  by_primitive : ℕ → Doing
  by_code : ResolvedCode → Doing

-- a method: the name of its class, whether it is one of the class side, its selector, and what it does
pub record ResolvedMethod : Type 0 where
  pub class : Option Name
  pub meta : Bool
  pub selector : Name
  pub doing : Doing

-- What a run depends on: the classes by their names and superclasses alone, the methods and the do-its, in order.
pub record ResolvedImage : Type 0 where
  pub classes : List (ClassOf Name)
  pub methods : List ResolvedMethod
  pub doits : List ResolvedCode

-- the class with its name and superclass alone
abbrev pub plain_class : ClassOf Name → ClassOf Name
plain_class c =
    record { name = c.name; superclass = c.superclass; instance = []; shared = []; class_side = []; category = []; comment = []; kernel = false }

-- what a method does that has this primitive, or none
abbrev pub doing_of : ImageOf Name → EntryOf Name → Option ℕ → Doing
doing_of i m (Some n) = by_primitive n
doing_of i m None = by_code (resolved_method i m)

-- a method of an image with its names resolved
abbrev pub resolved_entry : ImageOf Name → EntryOf Name → ResolvedMethod
resolved_entry i m = record { class = m.class; meta = m.meta; selector = m.tree.selector; doing = doing_of i m m.tree.primitive }

-- the image with its names resolved
abbrev pub resolved_image : ImageOf Name → ResolvedImage
resolved_image i = record {
  classes = map plain_class i.classes;
  methods = map (resolved_entry i) i.methods;
  doits = map (resolved_doit i) i.doits;
}

-- whether it is the method of a class, a side and a selector
abbrev pub is_resolved_method : Name → Bool → Name → ResolvedMethod → Bool
is_resolved_method c meta s m = option_map_or (text_eq c) m.class false && beq meta m.meta && text_eq s m.selector

-- the first method for a selector on a side of the chain of a class
abbrev pub found_on_chain : ResolvedImage → Option (ClassOf Name) → Bool → Name → Option ResolvedMethod
found_on_chain i o meta s = first_given (λ c. find (is_resolved_method c.name meta s) i.methods) (chain_from text_eq i.classes o)

-- the method for a selector from a class, and on the class side then what a class understands as an object
abbrev pub finds : ResolvedImage → Option Name → Bool → Name → Option ResolvedMethod
finds i c meta s =
    option_or (found_on_chain i (class_of_name text_eq i.classes c) meta s)
    (if meta then found_on_chain i (find (λ d. text_words.is_class d.name) i.classes) false s else None)

-- the method for a message to `super` in a method of a class
abbrev pub finds_above : ResolvedImage → Option Name → Bool → Name → Option ResolvedMethod
finds_above i c meta s = finds i (option_and_then (λ (d : ClassOf Name). d.superclass) (class_of_name text_eq i.classes c)) meta s

-- the class of which a do-it is read as a method: `UndefinedObject`
abbrev pub class_of_doits : ResolvedImage → Option Name
class_of_doits i = option_map (λ (c : ClassOf Name). c.name) (find (λ c. text_words.is_undefined_object c.name) i.classes)
