-- That methods of a selector do not name a name, slot by slot.
use Rattle.std.specs.Prelude.{ℕ, not, nat_eq, ◌||◌, Option, None, if◌then◌else◌, option_map}
use Rattle.std.specs.Option.{option_and_then}
use Rattle.class_table.specs.declared.record.ClassRec.{ClassRec}
use Rattle.class_table.specs.declared.record.MethodRec.{MethodRec}
use Rattle.class_table.specs.Slots.{Slots}
use Rattle.class_table.specs.View.{live_at}
use Rattle.command_model.specs.Conditions.{ConditionOf, NotIn}

-- the condition that a method, if it is one of the user and has the selector, does not name the name
abbrev pub unnamed : Slots → ℕ → ℕ → MethodRec → Option (ConditionOf ℕ)
unnamed s selector name m =
    if m.kernel || not (nat_eq selector m.tree.selector) then None
    else option_map (λ (c : ClassRec). NotIn c.name m.meta selector name) (live_at s.classes s.class_order m.class)

-- the same of the method in a slot, if it is live
abbrev pub unnamed_at : Slots → ℕ → ℕ → ℕ → Option (ConditionOf ℕ)
unnamed_at s selector name k = option_and_then (unnamed s selector name) (live_at s.methods s.method_order k)
