-- The method that a class finds, and those of the classes below it, from the slots.
use Rattle.std.specs.Prelude.{ℕ, List, [], ◌∷◌, Bool, not, ◌&&◌, nat_eq, if◌then◌else◌, Option, None}
use Rattle.std.specs.Option.{option_map_or}
use Rattle.image_model.specs.Image.{ClassOf, EntryOf}
use Rattle.image_model.specs.Lookup.{own_method}
use Rattle.class_table.specs.declared.record.ClassRec.{ClassRec}
use Rattle.class_table.specs.Finding.{found_by_lookup, named_in}
use Rattle.class_table.specs.Slots.{Slots}
use Rattle.class_table.specs.View.{class_of, live_at, number_image}
use Rattle.commands.specs.declared.command.MethodName.{MethodName}
use Rattle.method_questions.specs.Found.{object_slot}
use Rattle.refusal_witnesses.specs.Witnesses.{WitnessOf, a_method}
use Rattle.rename_model.specs.Conditions.{stands_below}

-- the slot of the method that the class of a name finds; without the class, of what classes understand as objects
abbrev pub found_slot : Slots → ℕ → Bool → ℕ → Option ℕ
found_slot s class meta selector =
    option_map_or (λ k. found_by_lookup s k meta selector) (named_in s.classes s.class_order class) (if meta then object_slot s selector else None)

-- the method that a class itself has, if it stands below the class of the method
abbrev pub rival : Slots → MethodName → ClassOf ℕ → List (WitnessOf ℕ)
rival s n e =
    if stands_below nat_eq (number_image s).classes n.class e && not (nat_eq n.class e.name)
    then option_map_or (λ (m : EntryOf ℕ). a_method m ∷ []) (own_method nat_eq (number_image s).methods e.name n.meta n.selector) []
    else []

-- the same of the class of a slot, if the slot is live
abbrev pub rival_at : Slots → MethodName → ℕ → List (WitnessOf ℕ)
rival_at s n k = option_map_or (λ (c : ClassRec). rival s n (class_of s.classes c)) (live_at s.classes s.class_order k) []
