-- Slots that are taken out of an order or put in, and sources that are swapped.
use Rattle.std.specs.Prelude.{ℕ, ◌<◌, ◌≤◌, List, length, position, nat_eq, slice_get, slice_set, Option, option_map}
use Rattle.std.specs.Option.{option_map_or, ForSome}
use Rattle.class_table.specs.declared.record.MethodRec.{MethodRec}
use Rattle.class_table.specs.declared.record.DoIt.{DoIt}
use Rattle.class_table.specs.declared.record.Slot.{Slot}
use Rattle.class_table.specs.declared.record.Slot.TheVariants as slot
use Rattle.class_table.specs.declared.record.Place.{Place}
use Rattle.class_table.specs.declared.record.Place.TheVariants as place
use Rattle.class_table.specs.Order.{without, put_at}
use Rattle.class_table.specs.Slots.{Slots}

-- the slot is there, live or not
abbrev pub HasSlot : Slots → Slot → Type 0
HasSlot s (slot.Class id) = id < length s.classes
HasSlot s (slot.Method k) = k < length s.methods

-- the order of the live slots among which a slot is, or would be
abbrev pub order_of : Slots → Slot → List ℕ
order_of s (slot.Class id) = s.class_order
order_of s (slot.Method k) = s.method_order

-- the number of a slot
abbrev pub number_of : Slot → ℕ
number_of (slot.Class id) = id
number_of (slot.Method k) = k

-- the place of a slot in its order, if it is live
abbrev pub former_place : Slots → Slot → Option ℕ
former_place s what = position (nat_eq (number_of what)) (order_of s what)

-- the slots with one slot at a place of its order, or in no place of it
abbrev pub with_live : Slots → Slot → Option ℕ → Slots
with_live s (slot.Class id) at = record s { class_order = put_at id at (without id s.class_order) }
with_live s (slot.Method k) at = record s { method_order = put_at k at (without k s.method_order) }

-- a place is at most the length of the order without the slot
abbrev pub HasRoomAt : Slots → Slot → Option ℕ → Type 0
HasRoomAt s what at = ForSome at (λ n. n ≤ length (without (number_of what) (order_of s what)))

-- there is code at a place
abbrev pub HasPlace : Slots → Place → Type 0
HasPlace s (place.Method k) = k < length s.methods
HasPlace s (place.DoIt n) = n < length s.doits

-- the list with the item at a place changed
abbrev pub changed_at : {X : Type 0} → (X → X) → List X → ℕ → List X
changed_at f xs k = option_map_or (λ x. slice_set xs k (f x)) (slice_get xs k) xs

-- the slots with another source at a place
abbrev pub with_source : Slots → Place → List ℕ → Slots
with_source s (place.Method k) text = record s { methods = changed_at (λ (m : MethodRec). record m { source = text }) s.methods k }
with_source s (place.DoIt n) text = record s { doits = changed_at (λ (d : DoIt). record d { source = text }) s.doits n }

-- the source at a place
abbrev pub source_in : Slots → Place → Option (List ℕ)
source_in s (place.Method k) = option_map (λ (m : MethodRec). m.source) (slice_get s.methods k)
source_in s (place.DoIt n) = option_map (λ (d : DoIt). d.source) (slice_get s.doits n)
