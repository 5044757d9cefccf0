-- What names a variable that comes into a class, in the methods that are looked at.
use Rattle.std.specs.Prelude.{ℕ, List, [], ◌&&◌, not, nat_eq, if◌then◌else◌}
use Rattle.std.specs.List.{list_any}
use Rattle.std.specs.Option.{option_map_or}
use Rattle.image_model.specs.Image.{EntryOf, ImageOf}
use Rattle.rename_model.specs.Conditions.{is_method_below}
use Rattle.class_table.specs.declared.record.MethodRec.{MethodRec}
use Rattle.class_table.specs.Slots.{Slots}
use Rattle.class_table.specs.View.{entry_of, live_at, number_image}
use Rattle.hierarchy_questions.specs.declared.arrival.Arrival.{Arrival}
use Rattle.refusal_witnesses.specs.Witnesses.{WitnessOf}
use Rattle.refusal_witnesses.specs.NameWitnesses.{namings_in_method}

-- in a method, if its class is looked at
abbrev pub beside_found : ImageOf ℕ → Arrival → EntryOf ℕ → List (WitnessOf ℕ)
beside_found i a m =
    if is_method_below nat_eq i.classes a.class m && not (list_any (λ d. is_method_below nat_eq i.classes d m) a.excepted.now)
    then namings_in_method nat_eq a.variable m
    else []

-- the same in the method of a slot, if the slot is live
abbrev pub slot_beside : Slots → Arrival → ℕ → List (WitnessOf ℕ)
slot_beside s a k = option_map_or (λ (m : MethodRec). beside_found (number_image s) a (entry_of s.classes m)) (live_at s.methods s.method_order k) []
