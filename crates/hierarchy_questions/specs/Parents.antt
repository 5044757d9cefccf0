-- The superclass of the class in a slot.
use Rattle.std.specs.Prelude.{ℕ, Option}
use Rattle.std.specs.Option.{option_and_then}
use Rattle.class_table.specs.declared.record.ClassRec.{ClassRec}
use Rattle.class_table.specs.Slots.{Slots}
use Rattle.class_table.specs.View.{class_name, live_at}

-- the name of the superclass of the class in a slot, if the slot is live
abbrev pub parent_in : Slots → ℕ → Option ℕ
parent_in s k = option_and_then (λ (c : ClassRec). option_and_then (class_name s.classes) c.superclass) (live_at s.classes s.class_order k)
