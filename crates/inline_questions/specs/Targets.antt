-- Classes that find a method, and classes below them that have one of their own.
use Rattle.std.specs.Prelude.{ℕ, Bool, false, not, ◌&&◌, is_some, nat_eq}
use Rattle.std.specs.Option.{option_map_or}
use Rattle.image_model.specs.Image.{ClassOf}
use Rattle.image_model.specs.Lookup.{own_method}
use Rattle.rename_model.specs.Conditions.{stands_below}
use Rattle.class_table.specs.declared.record.MethodRec.{MethodRec}
use Rattle.class_table.specs.Slots.{Slots}
use Rattle.class_table.specs.View.{live_at, number_image}
use Rattle.class_table.specs.Finding.{found_by_lookup}
use Rattle.commands.specs.declared.command.MethodName.{MethodName}

-- whether the class in a slot finds a method of the user
abbrev pub finds_users : Slots → ℕ → Bool → ℕ → Bool
finds_users s class meta selector =
    option_map_or (λ k. option_map_or (λ (m : MethodRec). not m.kernel) (live_at s.methods s.method_order k) false) (found_by_lookup s class meta selector) false

-- whether a class stands below that of a method, and has a method of its own in place of it
abbrev pub is_rival : Slots → MethodName → ClassOf ℕ → Bool
is_rival s m e =
    stands_below nat_eq (number_image s).classes m.class e
    && (not (nat_eq m.class e.name) && is_some (own_method nat_eq (number_image s).methods e.name m.meta m.selector))
