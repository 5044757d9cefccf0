-- The changes by which a class goes with its methods.
use Rattle.std.specs.Prelude.{ℕ, List, [], ◌∷◌, ◌++◌, map, filter, Bool, false, nat_eq, None}
use Rattle.std.specs.Option.{option_map_or}
use Rattle.class_table.specs.declared.record.MethodRec.{MethodRec}
use Rattle.class_table.specs.declared.record.Place.{Place}
use Rattle.class_table.specs.declared.record.Place.TheVariants as place
use Rattle.class_table.specs.declared.record.Slot.TheVariants as slot
use Rattle.class_table.specs.Slots.{Slots}
use Rattle.class_table.specs.View.{live_at}
use Rattle.change_set.specs.declared.change.Change.{Change}
use Rattle.change_set.specs.declared.change.Change.TheVariants as change

-- whether a slot holds a live method of the class in a slot
abbrev pub is_of_class : Slots → ℕ → ℕ → Bool
is_of_class s id k = option_map_or (λ (m : MethodRec). nat_eq id m.class) (live_at s.methods s.method_order k) false

-- the live methods of the class in a slot
abbrev pub methods_of : Slots → ℕ → List ℕ
methods_of s id = filter (is_of_class s id) s.method_order

-- the method in a slot goes, and its place
abbrev pub method_gone : ℕ → Change
method_gone k = change.Live (slot.Method k) None

abbrev pub place_of : ℕ → Place
place_of k = place.Method k

-- all changes
abbrev pub class_gone : Slots → ℕ → List Change
class_gone s id = map method_gone (methods_of s id) ++ change.Live (slot.Class id) None ∷ []
