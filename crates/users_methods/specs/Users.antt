-- The user's methods of a class, a side and a selector.
use Rattle.std.specs.Prelude.{ℕ, Bool, false, not, ◌&&◌, nat_eq, if◌then◌else◌, List, Option, Some, None}
use Rattle.std.specs.Option.{option_map_or}
use Rattle.st_tree.specs.View.{method_of}
use Rattle.image_model.specs.Image.{EntryOf}
use Rattle.image_model.specs.Lookup.{is_method}
use Rattle.class_table.specs.declared.record.ClassRec.{ClassRec}
use Rattle.class_table.specs.declared.record.MethodRec.{MethodRec}
use Rattle.class_table.specs.declared.record.Place.{Place}
use Rattle.class_table.specs.declared.record.Place.TheVariants as place
use Rattle.class_table.specs.Slots.{Slots}
use Rattle.class_table.specs.View.{class_name, entry_of, live_at}
use Rattle.commands.specs.declared.command.MethodName.{MethodName}
use Rattle.users_methods.specs.declared.methods.UsersMethod.{UsersMethod}

-- a method that is found, as the image has it
abbrev pub entry_in : List ClassRec → UsersMethod → EntryOf ℕ
entry_in classes m = record { class = class_name classes m.class; meta = m.meta; protocol = m.protocol.now; source = m.source.now; tree = method_of m.tree.now; kernel = false }

module _ (s : Slots) (method : MethodName) where
  -- whether a slot is live and holds such a method
  abbrev pub is_named : ℕ → Bool
  is_named k = option_map_or (λ (m : MethodRec). is_method nat_eq method.class method.meta method.selector (entry_of s.classes m)) (live_at s.methods s.method_order k) false

  -- and whether it is one of the user
  abbrev pub is_users : ℕ → Bool
  is_users k =
      option_map_or (λ (m : MethodRec). is_method nat_eq method.class method.meta method.selector (entry_of s.classes m) && not m.kernel)
      (live_at s.methods s.method_order k) false

  -- the slot at a place, if it holds such a method
  abbrev pub named_at : Place → Option ℕ
  named_at (place.Method k) = if is_named k then Some k else None
  named_at (place.DoIt n) = None
