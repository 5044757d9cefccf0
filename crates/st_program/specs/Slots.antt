-- Where methods stand among the slots of an image, by texts.
use Rattle.std.specs.Prelude.{ℕ, List, Bool, false, if◌then◌else◌, codes, Option, Some, None, slice_get}
use Rattle.std.specs.Option.{option_and_then, option_map_or}
use Rattle.rb_base.specs.Names.{number_in}
use Rattle.class_table.specs.declared.record.ClassRec.{ClassRec}
use Rattle.class_table.specs.Slots.{Slots}
use Rattle.class_table.specs.View.{live_at}
use Rattle.class_table.specs.Finding.{named_in, found_by_lookup}

-- the slot of the first live class of a name
abbrev pub class_slot : Slots → List ℕ → Option ℕ
class_slot s c = option_and_then (named_in s.classes s.class_order) (number_in s.names c)

-- the slot of the method for a selector from a live class
abbrev pub slot_in : Slots → ℕ → Bool → List ℕ → Option ℕ
slot_in s k meta t = option_and_then (λ m. found_by_lookup s k meta m) (number_in s.names t)

-- the slot of the method for a selector where there is no class
abbrev pub slot_without : Slots → Bool → List ℕ → Option ℕ
slot_without s meta t = if meta then option_and_then (λ k. slot_in s k false t) (class_slot s (codes "Class")) else None

-- the slot of the method for a selector from a class, if there is one
abbrev pub slot_from : Slots → Option ℕ → Bool → List ℕ → Option ℕ
slot_from s o meta t = option_map_or (λ k. slot_in s k meta t) o (slot_without s meta t)

-- the slot of the superclass of a live class
abbrev pub slot_above : Slots → ℕ → Option ℕ
slot_above s k = option_and_then (λ (c : ClassRec). c.superclass) (live_at s.classes s.class_order k)
