-- Messages to `super` that begin their look-up in a class, at places.
use Rattle.std.specs.Prelude.{ℕ, Bool, false, ◌&&◌, nat_eq}
use Rattle.std.specs.List.{list_any}
use Rattle.std.specs.Option.{option_map_or}
use Rattle.tree_model.specs.Nodes.{nodes}
use Rattle.st_tree.specs.View.{method_of}
use Rattle.class_table.specs.declared.record.ClassRec.{ClassRec}
use Rattle.class_table.specs.declared.record.MethodRec.{MethodRec}
use Rattle.class_table.specs.declared.record.Place.{Place}
use Rattle.class_table.specs.declared.record.Place.TheVariants as place
use Rattle.class_table.specs.Slots.{Slots}
use Rattle.class_table.specs.View.{live_at}
use Rattle.command_model.specs.SameMethods.{is_super_sender}
use Rattle.commands.specs.Views.{asked_by}

-- whether the superclass of a class is that of a name
abbrev pub is_child : Slots → ℕ → ℕ → Bool
is_child s class name =
    option_map_or (λ (c : ClassRec). option_map_or (λ above. option_map_or (λ (d : ClassRec). nat_eq name d.name) (live_at s.classes s.class_order above) false) c.superclass false) (live_at s.classes s.class_order class) false

-- whether a message to `super` of a selector begins its look-up in the class of a name, in the method at a place
abbrev pub begins_at : Slots → ℕ → ℕ → Place → Bool
begins_at s name selector (place.Method k) =
    option_map_or (λ (m : MethodRec). is_child s m.class name && list_any (λ e. is_super_sender (asked_by s.names).is_super nat_eq selector e.1) (nodes (method_of m.tree).body)) (live_at s.methods s.method_order k) false
begins_at s name selector (place.DoIt n) = false
