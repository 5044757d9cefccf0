-- Classes and methods found among slots.
use Rattle.std.specs.Prelude.{ℕ, List, length, filter, Bool, false, nat_eq, find, codes, slice_get, ◌&&◌, if◌then◌else◌, Option, None, Some}
use Rattle.std.specs.Bool.{beq}
use Rattle.std.specs.List.{list_any}
use Rattle.std.specs.Option.{option_map, option_and_then, option_map_or, option_or}
use Rattle.rb_base.specs.Names.{number_in}
use Rattle.image_model.specs.Upwards.{upwards, first_given, nth_above}
use Rattle.class_table.specs.declared.record.ClassRec.{ClassRec}
use Rattle.class_table.specs.declared.record.MethodRec.{MethodRec}
use Rattle.class_table.specs.declared.tables.MethodKey.{MethodKey}
use Rattle.class_table.specs.Slots.{Slots}
use Rattle.class_table.specs.View.{class_name}

-- whether a slot holds a class of a name
abbrev pub is_named : List ClassRec → ℕ → ℕ → Bool
is_named classes name k = option_map_or (nat_eq name) (class_name classes k) false

-- the first live class of a name
abbrev pub named_in : List ClassRec → List ℕ → ℕ → Option ℕ
named_in classes order name = find (is_named classes name) order

-- the slot, if it is live
abbrev pub only_live : List ℕ → ℕ → Option ℕ
only_live order k = if list_any (nat_eq k) order then Some k else None

-- the live class above a class
abbrev pub above : List ClassRec → List ℕ → ℕ → Option ℕ
above classes order id = option_and_then (λ (c : ClassRec). option_and_then (only_live order) c.superclass) (slice_get classes id)

-- the slots of the chain of a class; none where the class is not live
abbrev pub chain_of : List ClassRec → List ℕ → ℕ → List ℕ
chain_of classes order id = upwards (above classes order) (length order) (only_live order id)

-- the slot of the n-th class on the chain of a class, from 0
abbrev pub on_chain_at : List ClassRec → List ℕ → ℕ → ℕ → Option ℕ
on_chain_at classes order id n = nth_above (above classes order) n (only_live order id)

-- whether a class is on the chain of another: it is that one, or above it
abbrev pub is_on_chain : List ClassRec → List ℕ → ℕ → ℕ → Bool
is_on_chain classes order id other = list_any (nat_eq id) (chain_of classes order other)

-- the superclass of the class in a slot, live or not
abbrev pub superclass_in : List ClassRec → ℕ → Option ℕ
superclass_in classes id = option_and_then (λ (c : ClassRec). c.superclass) (slice_get classes id)

-- the classes of an order that are a class or below it
abbrev pub tree_in : List ClassRec → List ℕ → ℕ → List ℕ
tree_in classes order id = filter (is_on_chain classes order id) order

-- whether two keys of methods are one
abbrev pub same_key : MethodKey → MethodKey → Bool
same_key a b = nat_eq a.class b.class && (beq a.meta b.meta && nat_eq a.selector b.selector)

-- the class, the side and the selector of the method in a slot
abbrev pub key_in : List MethodRec → ℕ → Option MethodKey
key_in methods slot =
    option_map (λ (m : MethodRec). record { class = m.class; meta = m.meta; selector = m.tree.selector }) (slice_get methods slot)

-- whether a slot holds a method of a class, a side and a selector
abbrev pub is_method_in : List MethodRec → MethodKey → ℕ → Bool
is_method_in methods key k = option_map_or (same_key key) (key_in methods k) false

-- the slot of the first live method of a class, a side and a selector
abbrev pub method_in : List MethodRec → List ℕ → MethodKey → Option ℕ
method_in methods order key = find (is_method_in methods key) order

-- the slot of the first method for a selector on a side of the chain of a class
abbrev pub found_on_chain : Slots → ℕ → Bool → ℕ → Option ℕ
found_on_chain s class meta selector =
    first_given (λ c. method_in s.methods s.method_order (record { class = c; meta = meta; selector = selector })) (chain_of s.classes s.class_order class)

-- the slot of the class `Class`
abbrev pub class_class : Slots → Option ℕ
class_class s = option_and_then (named_in s.classes s.class_order) (number_in s.names (codes "Class"))

-- the slot of the method that a class understands as an object
abbrev pub found_as_object : Slots → ℕ → Option ℕ
found_as_object s selector = option_and_then (λ c. found_on_chain s c false selector) (class_class s)

-- the slot of the method for a selector from a live class: the first one on that side of its chain, and then, on the class side, what a class understands as an object
abbrev pub found_by_lookup : Slots → ℕ → Bool → ℕ → Option ℕ
found_by_lookup s class meta selector =
    option_and_then (λ c. option_or (found_on_chain s c meta selector) (if meta then found_as_object s selector else None)) (only_live s.class_order class)
