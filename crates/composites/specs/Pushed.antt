-- The commands by which variables and methods go up.
use Rattle.std.specs.Prelude.{ℕ, List, Bool, false, nat_eq, if◌then◌else◌, Option, None, Some}
use Rattle.std.specs.List.{list_any, list_all}
use Rattle.std.specs.Option.{option_and_then, option_map_or}
use Rattle.tree_model.specs.Tree.{TreeOf}
use Rattle.tree_model.specs.Nodes.{nodes}
use Rattle.st_tree.specs.View.{sequence_of}
use Rattle.image_model.specs.Means.{of_instance}
use Rattle.image_model.specs.Uses.{name_used}
use Rattle.rename_model.specs.Conditions.{has_variable}
use Rattle.mentions.specs.Mentions.{trees_of_nodes}
use Rattle.commands.specs.declared.command.Command.{Command}
use Rattle.commands.specs.declared.command.Command.TheVariants as command
use Rattle.commands.specs.declared.command.VariableMove.TheVariants as move
use Rattle.class_table.specs.declared.record.ClassRec.{ClassRec}
use Rattle.class_table.specs.declared.record.MethodRec.{MethodRec}
use Rattle.class_table.specs.declared.record.Place.{Place}
use Rattle.class_table.specs.declared.record.Place.TheVariants as place
use Rattle.class_table.specs.Slots.{Slots}
use Rattle.class_table.specs.View.{live_at, number_image}

-- the instance variable x goes up from the class c
abbrev pub variable_push : (c x : ℕ) → Command
variable_push c x = command.Variable (move.InstanceUp c x)

-- whether each of some classes has the instance variable
abbrev pub have_all : Slots → List ℕ → ℕ → Bool
have_all s cs x = list_all (λ c. has_variable nat_eq (number_image s) of_instance c x) cs

-- whether a slot holds a live class of a name
abbrev pub has_name : Slots → (n k : ℕ) → Bool
has_name s n k = option_map_or (λ (c : ClassRec). nat_eq n c.name) (live_at s.classes s.class_order k) false

-- the slot at a place, if it holds a live instance method of the class c
abbrev pub own_at : Slots → (c : ℕ) → Place → Option ℕ
own_at s c (place.Method k) = option_and_then (λ (m : MethodRec). if m.meta then None else if has_name s c m.class then Some k else None) (live_at s.methods s.method_order k)
own_at s c (place.DoIt n) = None

-- whether one of some nodes reads or assigns a name
abbrev pub is_used : ℕ → List (TreeOf ℕ) → Bool
is_used x ts = list_any (λ t. option_map_or (nat_eq x) (name_used t) false) ts

-- the method goes up from the class c, if it is an instance method of that class and names x
abbrev pub method_push : Slots → (c x : ℕ) → MethodRec → Option Command
method_push s c x m =
    if m.meta then None
    else if has_name s c m.class
    then if is_used x (trees_of_nodes (nodes (sequence_of m.tree.body))) then Some (command.PushUpMethod (record { class = c; meta = false; selector = m.tree.selector })) else None
    else None

-- the method in a slot, if the slot is live
abbrev pub slot_push : Slots → (c x k : ℕ) → Option Command
slot_push s c x k = option_and_then (method_push s c x) (live_at s.methods s.method_order k)
