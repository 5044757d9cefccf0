-- The live methods of a class, a side and a selector, and what their copies are.
use Rattle.std.specs.Prelude.{ℕ, List, filter, Bool, false, not, nat_eq, ◌&&◌, Option, option_map}
use Rattle.std.specs.List.{list_any}
use Rattle.std.specs.Option.{option_map_or, option_and_then}
use Rattle.class_table.specs.declared.record.ClassRec.{ClassRec}
use Rattle.class_table.specs.declared.record.MethodRec.{MethodRec}
use Rattle.class_table.specs.Finding.{named_in}
use Rattle.class_table.specs.Slots.{Slots}
use Rattle.class_table.specs.View.{live_at}
use Rattle.wider_slots.specs.Wider.{one_method, widened}
use Rattle.commands.specs.declared.command.MethodName.{MethodName}
use Rattle.users_methods.specs.Users.{is_named}

module _ (s : Slots) (method : MethodName) where
  -- whether there is such a method
  abbrev pub has_method : Bool
  has_method = list_any (is_named s method) s.method_order

-- the name of the superclass of a class, if the superclass is live
abbrev pub name_above : Slots → ClassRec → Option ℕ
name_above s c = option_map (λ (d : ClassRec). d.name) (option_and_then (live_at s.classes s.class_order) c.superclass)

module _ (s : Slots) (method : MethodName) where
  -- whether a slot is live and holds a direct subclass of the class that has no such method of its own
  abbrev pub receives : ℕ → Bool
  receives k =
      option_map_or (λ (c : ClassRec). option_map_or (nat_eq method.class) (name_above s c) false && not (has_method s (record method { class = c.name }))) (live_at s.classes s.class_order k) false

  -- the slots of these subclasses, in the order of classes
  abbrev pub receivers : List ℕ
  receivers = filter receives s.class_order

-- the slot of the superclass of the class of a name
abbrev pub superclass_slot : Slots → ℕ → Option ℕ
superclass_slot s n = option_and_then (λ (c : ClassRec). c.superclass) (option_and_then (live_at s.classes s.class_order) (named_in s.classes s.class_order n))

-- the method in a live slot, as one of another class
abbrev pub moved_to : Slots → ℕ → ℕ → Option MethodRec
moved_to s class k = option_map (λ (m : MethodRec). record m { class = class }) (live_at s.methods s.method_order k)

-- the slots with room for that method
abbrev pub with_copy : Slots → ℕ → ℕ → Slots
with_copy s class k = option_map_or (λ (m : MethodRec). widened (one_method m) s) (moved_to s class k) s
