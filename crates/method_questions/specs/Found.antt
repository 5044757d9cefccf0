-- Methods that are found, without what is not code of theirs.
use Rattle.std.specs.Prelude.{ℕ, [], false, Bool, ◌&&◌, if◌then◌else◌, nat_eq, Option, Some, None, List}
use Rattle.std.specs.Bool.{beq}
use Rattle.std.specs.Option.{option_map, option_and_then, option_map_or}
use Rattle.st_tree.specs.View.{method_of}
use Rattle.image_model.specs.Image.{EntryOf}
use Rattle.image_model.specs.Words.{number_words}
use Rattle.class_table.specs.declared.record.ClassRec.{ClassRec}
use Rattle.class_table.specs.declared.record.MethodRec.{MethodRec}
use Rattle.class_table.specs.Slots.{Slots}
use Rattle.class_table.specs.View.{class_name, entry_of, live_at, number_image}
use Rattle.class_table.specs.Finding.{named_in, class_class, found_by_lookup}
use Rattle.command_model.specs.SameMethods.{is_same_method}
use Rattle.commands.specs.Views.{asked_by}
use Rattle.method_questions.specs.declared.found.Found.{Found}

-- a method without its protocol and its source, and as one of the user
abbrev pub bare_entry : {N : Type 0} → EntryOf N → EntryOf N
bare_entry m = record { class = m.class; meta = m.meta; protocol = []; source = []; tree = m.tree; kernel = false }

-- a method as one of a class
abbrev pub as_entry : List ClassRec → Found → EntryOf ℕ
as_entry classes f = record { class = class_name classes f.class; meta = f.meta; protocol = []; source = []; tree = method_of f.tree.now; kernel = false }

-- the method in a slot, if the slot is live
abbrev pub opened_at : Slots → ℕ → Option (EntryOf ℕ)
opened_at s k = option_map (λ m. bare_entry (entry_of s.classes m)) (live_at s.methods s.method_order k)

-- whether the method in a slot is one of a class and a side
abbrev pub is_of : Slots → ℕ → Bool → ℕ → Bool
is_of s class meta k = option_map_or (λ (m : MethodRec). nat_eq m.class class && beq m.meta meta) (live_at s.methods s.method_order k) false

-- the slot of the method that a class itself has
abbrev pub own_slot : Slots → ℕ → Bool → ℕ → Option ℕ
own_slot s class meta selector = option_and_then (λ k. if is_of s class meta k then Some k else None) (found_by_lookup s class meta selector)

-- the same, where the class is told by its name
abbrev pub named_slot : Slots → ℕ → Bool → ℕ → Option ℕ
named_slot s name meta selector = option_and_then (λ class. own_slot s class meta selector) (named_in s.classes s.class_order name)

-- the slot of the superclass of the class of a name
abbrev pub superclass_slot : Slots → ℕ → Option ℕ
superclass_slot s name = option_and_then (λ class. option_and_then (λ (c : ClassRec). c.superclass) (live_at s.classes s.class_order class)) (named_in s.classes s.class_order name)

-- the slot of the method that each class understands as an object
abbrev pub object_slot : Slots → ℕ → Option ℕ
object_slot s selector = option_and_then (λ class. found_by_lookup s class false selector) (class_class s)

-- the slot of the method that a message to `super` runs in a method of the class of a name
abbrev pub inherited_slot : Slots → ℕ → Bool → ℕ → Option ℕ
inherited_slot s name meta selector =
    option_map_or (λ above. found_by_lookup s above meta selector) (superclass_slot s name) (if meta then object_slot s selector else None)

-- whether two methods are there and are the same
abbrev pub are_same : Slots → Option (EntryOf ℕ) → Option (EntryOf ℕ) → Bool
are_same s o r =
    option_map_or (λ m. option_map_or (λ n. is_same_method (number_words s.names) (asked_by s.names).is_super (number_image s) (number_image s) m n) r false) o false
