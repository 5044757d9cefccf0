-- Changes are told apart by their kind and fields.
use Rattle.std.specs.Prelude.{◌≡◌, ℕ, List, Option, ◌⊎◌, refl}
use Rattle.std.proofs.Common.{inl, inr}
use Rattle.std.specs.Coded.{Coded, code_by, coded×, coded⊎, coded_ℕ, coded_option}
use Rattle.tree_model.specs.Tree.{TreeOf}
use Rattle.tree_model.specs.TreeCode.{coded_tree}
use Rattle.class_table.specs.SlotsCode.{coded_numbers, coded_class_rec, coded_method_rec, coded_doit}
use Rattle.class_table.specs.declared.record.ClassRec.{ClassRec}
use Rattle.class_table.specs.declared.record.MethodRec.{MethodRec}
use Rattle.class_table.specs.declared.record.DoIt.{DoIt}
use Rattle.class_table.specs.declared.record.Place.{Place}
use Rattle.class_table.specs.declared.record.Place.TheVariants as place
use Rattle.class_table.specs.declared.record.Slot.{Slot}
use Rattle.class_table.specs.declared.record.Slot.TheVariants as slot
use Rattle.change_set.specs.declared.change.Change.{Change}
use Rattle.change_set.specs.declared.change.Change.TheVariants as change

-- the kind and the number of a place
abbrev pub place_parts : Place → ℕ ⊎ ℕ
place_parts (place.Method k) = inl k
place_parts (place.DoIt n) = inr n

abbrev pub place_from : ℕ ⊎ ℕ → Place
place_from (inl k) = place.Method k
place_from (inr n) = place.DoIt n

pub place_back : (at : Place) → place_from (place_parts at) ≡ at
place_back (place.Method k) = refl
place_back (place.DoIt n) = refl

-- the kind and the number of a slot
abbrev pub slot_parts : Slot → ℕ ⊎ ℕ
slot_parts (slot.Class id) = inl id
slot_parts (slot.Method k) = inr k

abbrev pub slot_from : ℕ ⊎ ℕ → Slot
slot_from (inl id) = slot.Class id
slot_from (inr k) = slot.Method k

pub slot_back : (what : Slot) → slot_from (slot_parts what) ≡ what
slot_back (slot.Class id) = refl
slot_back (slot.Method k) = refl

-- the codes of a place and a slot
abbrev pub coded_place : Coded Place
coded_place = code_by (ℕ ⊎ ℕ) (coded⊎ coded_ℕ coded_ℕ) place_parts place_from place_back

abbrev pub coded_slot : Coded Slot
coded_slot = code_by (ℕ ⊎ ℕ) (coded⊎ coded_ℕ coded_ℕ) slot_parts slot_from slot_back

-- the kind and the fields of a change
abbrev pub Fields : Type 0
Fields = (ℕ × ClassRec) ⊎ ((ℕ × MethodRec) ⊎ ((ℕ × DoIt) ⊎ ((Place × (List ℕ × (TreeOf ℕ × List ℕ))) ⊎ (Slot × Option ℕ))))

abbrev pub fields_of : Change → Fields
fields_of (change.Class id rec) = inl (id, rec)
fields_of (change.Method k rec) = inr (inl (k, rec))
fields_of (change.DoIt n doit) = inr (inr (inl (n, doit)))
fields_of (change.Part at path part source) = inr (inr (inr (inl (at, (path, (part, source))))))
fields_of (change.Live what at) = inr (inr (inr (inr (what, at))))

abbrev pub change_from : Fields → Change
change_from (inl p) = change.Class p.0 p.1
change_from (inr (inl p)) = change.Method p.0 p.1
change_from (inr (inr (inl p))) = change.DoIt p.0 p.1
change_from (inr (inr (inr (inl p)))) = change.Part p.0 p.1.0 p.1.1.0 p.1.1.1
change_from (inr (inr (inr (inr p)))) = change.Live p.0 p.1

pub change_back : (c : Change) → change_from (fields_of c) ≡ c
change_back (change.Class id rec) = refl
change_back (change.Method k rec) = refl
change_back (change.DoIt n doit) = refl
change_back (change.Part at path part source) = refl
change_back (change.Live what at) = refl

-- the code of a change
abbrev pub coded_change : Coded Change
coded_change =
    code_by Fields
    (coded⊎ (coded× coded_ℕ coded_class_rec) (coded⊎ (coded× coded_ℕ coded_method_rec) (coded⊎ (coded× coded_ℕ coded_doit) (coded⊎ (coded× coded_place (coded× coded_numbers (coded× coded_tree coded_numbers))) (coded× coded_slot (coded_option coded_ℕ))))))
    fields_of change_from change_back
