-- The direct subclasses of a class of which something holds.
use Rattle.std.specs.Prelude.{ℕ, Bool, ◌&&◌, nat_eq, if◌then◌else◌, Option, None, Some, is_none}
use Rattle.std.specs.List.{list_any}
use Rattle.std.specs.Option.{option_and_then}
use Rattle.image_model.specs.Image.{ClassOf, ImageOf}
use Rattle.image_model.specs.Lookup.{own_method}
use Rattle.class_table.specs.declared.record.ClassRec.{ClassRec}
use Rattle.class_table.specs.Slots.{Slots}
use Rattle.class_table.specs.View.{class_of, live_at}
use Rattle.commands.specs.declared.command.MethodName.{MethodName}
use Rattle.command_model.specs.Hierarchy.{is_child}

-- the name of the class in a slot, if the slot is live and the class passes a test
abbrev pub name_that : (ClassOf ℕ → Bool) → Slots → ℕ → Option ℕ
name_that test s k =
    option_and_then (λ (c : ClassRec). if test (class_of s.classes c) then Some c.name else None) (live_at s.classes s.class_order k)

-- whether a class is a direct subclass that has no method of its own for the selector of a method on its side
abbrev pub is_receiver : ImageOf ℕ → MethodName → ClassOf ℕ → Bool
is_receiver i m e = is_child nat_eq m.class e && is_none (own_method nat_eq i.methods e.name m.meta m.selector)

-- whether a class is a direct subclass that itself defines an instance variable
abbrev pub is_loser : ℕ → ℕ → ClassOf ℕ → Bool
is_loser c x e = is_child nat_eq c e && list_any (nat_eq x) e.instance
