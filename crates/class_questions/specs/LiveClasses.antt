-- Tests of the classes in slots.
use Rattle.std.specs.Prelude.{ℕ, Bool, false, nat_eq, ◌&&◌}
use Rattle.std.specs.Option.{option_map_or}
use Rattle.image_model.specs.Image.{ClassOf}
use Rattle.rename_model.specs.Conditions.{defines, stands_below}
use Rattle.class_table.specs.declared.record.ClassRec.{ClassRec}
use Rattle.class_table.specs.Slots.{Slots}
use Rattle.class_table.specs.View.{class_of, live_at, number_image}

-- whether a slot is live and its class passes a test
abbrev pub is_live_that : (ClassOf ℕ → Bool) → Slots → ℕ → Bool
is_live_that test s k = option_map_or (λ (c : ClassRec). test (class_of s.classes c)) (live_at s.classes s.class_order k) false

-- whether a class is that of a name or stands below it, and defines a variable of any kind by a name
abbrev pub defines_below : Slots → (c x : ℕ) → ClassOf ℕ → Bool
defines_below s c x e = stands_below nat_eq (number_image s).classes c e && defines nat_eq x e
