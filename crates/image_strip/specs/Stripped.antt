-- Slots without what is not reached.
use Rattle.std.specs.Prelude.{ℕ, List, filter, Bool, false, slice_get}
use Rattle.std.specs.Option.{option_map_or}
use Rattle.class_table.specs.declared.record.ClassRec.{ClassRec}
use Rattle.class_table.specs.Slots.{Slots}
use Rattle.image_strip.specs.Reached.{Marks, is_marked}

-- whether the name of the class in a slot is marked
abbrev pub is_class_marked : List ClassRec → List Bool → ℕ → Bool
is_class_marked classes marks k = option_map_or (λ (c : ClassRec). is_marked marks c.name) (slice_get classes k) false

-- the slots where no others than those that are marked are live
abbrev pub stripped : Slots → Marks → Slots
stripped s r = record s {
  class_order = filter (is_class_marked s.classes r.classes) s.class_order;
  method_order = filter (is_marked r.methods) s.method_order;
}
