-- Classes by the texts of their names.
use Rattle.std.specs.Prelude.{ℕ, List, Bool, false, Option}
use Rattle.std.specs.Option.{option_map_or, option_and_then}
use Rattle.rb_base.specs.Names.{text_eq, number_in, name_at}
use Rattle.class_table.specs.declared.record.ClassRec.{ClassRec}
use Rattle.class_table.specs.Slots.{Slots}
use Rattle.class_table.specs.View.{live_at}
use Rattle.class_table.specs.Finding.{named_in, on_chain_at}

-- the slot of the first live class of a name, by its text
abbrev pub slot_of_text : Slots → List ℕ → Option ℕ
slot_of_text s t = option_and_then (named_in s.classes s.class_order) (number_in s.names t)

-- whether the class in a slot is live and has a name, by its text
abbrev pub has_text : Slots → List ℕ → ℕ → Bool
has_text s t k = option_map_or (λ (c : ClassRec). text_eq t (name_at s.names c.name)) (live_at s.classes s.class_order k) false

-- the slot of the class above a live class
abbrev pub next_above : Slots → ℕ → Option ℕ
next_above s k = on_chain_at s.classes s.class_order k 1
