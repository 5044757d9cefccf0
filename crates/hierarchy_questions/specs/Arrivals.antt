-- The classes and methods that are looked at where a variable comes into a class.
use Rattle.std.specs.Prelude.{ℕ, Bool, false, not, ◌&&◌, ◌||◌, nat_eq}
use Rattle.std.specs.List.{list_any}
use Rattle.tree_model.specs.Tree.{MethodOf}
use Rattle.image_model.specs.Image.{ClassOf, EntryOf, DoItOf, ImageOf}
use Rattle.class_chains.specs.Chains.{is_on_chain}
use Rattle.rename_model.specs.Conditions.{defines, stands_below, is_method_below}
use Rattle.rename_model.specs.NamesThere.{is_named_in, is_named_in_method}
use Rattle.class_table.specs.declared.record.Place.{Place}
use Rattle.class_table.specs.Slots.{Slots}
use Rattle.class_table.specs.View.{class_name, number_image}
use Rattle.code_questions.specs.Places.{passes_at}
use Rattle.hierarchy_questions.specs.declared.arrival.Arrival.{Arrival}

-- whether the class in a slot is that into which a variable comes or stands below it, and neither is an excepted class nor stands below one
abbrev pub is_beside : Slots → Arrival → ℕ → Bool
is_beside s a k =
    is_on_chain nat_eq (number_image s).classes a.class (class_name s.classes k)
    && not (list_any (λ d. is_on_chain nat_eq (number_image s).classes d (class_name s.classes k)) a.excepted.now)

-- whether a class is such a one, and defines a variable of any kind by the name
abbrev pub is_defined_beside : Slots → Arrival → ClassOf ℕ → Bool
is_defined_beside s a e =
    stands_below nat_eq (number_image s).classes a.class e
    && (not (list_any (λ d. stands_below nat_eq (number_image s).classes d e) a.excepted.now) && defines nat_eq a.variable e)

-- whether a method reads, assigns or declares a name
abbrev pub is_in_tree : ℕ → MethodOf ℕ → Bool
is_in_tree n t = list_any (nat_eq n) t.arguments || is_named_in nat_eq n t.body

-- whether a method is one of such a class, and reads, assigns or declares the name
abbrev pub is_named_beside : ImageOf ℕ → Arrival → EntryOf ℕ → Bool
is_named_beside i a m =
    is_method_below nat_eq i.classes a.class m
    && (not (list_any (λ d. is_method_below nat_eq i.classes d m) a.excepted.now) && is_named_in_method nat_eq a.variable m)

-- whether the code at a place is that of such a method
abbrev pub is_place_named : Slots → Arrival → Place → Bool
is_place_named s a p = passes_at (is_named_beside (number_image s) a) (λ (d : DoItOf ℕ). false) s p
