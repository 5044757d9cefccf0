-- The methods that a class itself has.
use Rattle.std.specs.Prelude.{ℕ, Bool, false, ◌&&◌, nat_eq, Option}
use Rattle.std.specs.Bool.{beq}
use Rattle.std.specs.Option.{option_and_then, option_map_or}
use Rattle.class_table.specs.declared.record.MethodRec.{MethodRec}
use Rattle.class_table.specs.declared.record.Place.{Place}
use Rattle.class_table.specs.declared.record.Place.TheVariants as place
use Rattle.class_table.specs.Slots.{Slots}
use Rattle.class_table.specs.View.{live_at}
use Rattle.class_table.specs.Finding.{named_in, method_in}

-- the slot of the first live method for a selector on a side of the class of a name
abbrev pub own_slot : Slots → ℕ → Bool → ℕ → Option ℕ
own_slot s c meta selector =
    option_and_then (λ k. method_in s.methods s.method_order (record { class = k; meta = meta; selector = selector })) (named_in s.classes s.class_order c)

-- whether the method at a place is one for a selector on a side of the class in a slot
abbrev pub is_own_at : Slots → ℕ → Bool → ℕ → Place → Bool
is_own_at s k meta selector (place.Method j) =
    option_map_or (λ (m : MethodRec). nat_eq k m.class && beq meta m.meta && nat_eq selector m.tree.selector) (live_at s.methods s.method_order j) false
is_own_at s k meta selector (place.DoIt n) = false
