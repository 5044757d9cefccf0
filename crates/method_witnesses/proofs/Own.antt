-- What is in the way of a method that a class itself has.
use Rattle.std.proofs.Common.{◌≡◌, ℕ, Bool, true, false, List, [], ◌∷◌, Option, Some, None, option_map, option_and_then, refl, sym, ap, subst, ◌∙◌}
use Rattle.std.specs.Prelude.{nat_eq, if◌then◌else◌}
use Rattle.std.specs.Option.{option_map_or}
use Rattle.image_model.specs.Image.{EntryOf}
use Rattle.image_model.specs.Lookup.{own_method}
use Rattle.image_model.specs.Nodes.{in_method}
use Rattle.class_table.specs.declared.record.MethodInfo.{MethodInfo}
use Rattle.class_table.specs.declared.record.MethodRec.{MethodRec}
use Rattle.class_table.specs.Info.{TellsOf, IsInfoOf}
use Rattle.class_table.specs.Slots.{Slots}
use Rattle.class_table.specs.View.{entry_at, entry_of, live_at, number_image}
use Rattle.class_table.specs.Valid.{IsOrderly}
use Rattle.command_model.specs.Places.{users_method}
use Rattle.hierarchy_questions.specs.OwnMethods.{own_slot}
use Rattle.hierarchy_questions.proofs.OwnMethods.{own-slot, own-live}
use Rattle.refusal_witnesses.specs.Witnesses.{OwnerOf, AtPlace, InMethod, WitnessOf, AWhole, a_method, where_true}
use Rattle.refusal_witnesses.specs.MethodWitnesses.{kernel_method, method_there}
use Rattle.witness_lists.specs.declared.witness.Owner.TheVariants as owner
use Rattle.witness_lists.specs.Views.{owner_of}

module _ (s : Slots) (orderly : IsOrderly s) (c : ℕ) (meta : Bool) (n : ℕ) where
  -- the method, from its slot
  pub own-there : (k : ℕ) (m : MethodRec) → own_slot s c meta n ≡ Some k → live_at s.methods s.method_order k ≡ Some m → own_method nat_eq (number_image s).methods c meta n ≡ Some (entry_of s.classes m)
  own-there k m e h =
      let held = own-live s orderly c meta n k e in
      let same : held.0 ≡ m = cc in
      own-slot s orderly c meta n ∙ ap (option_and_then (entry_at s)) e ∙ ap (option_map (entry_of s.classes)) held.2 ∙ ap (λ (x : MethodRec). Some (entry_of s.classes x)) same

  -- there is none
  pub own-absent : own_slot s c meta n ≡ None → own_method nat_eq (number_image s).methods c meta n ≡ None
  own-absent e = own-slot s orderly c meta n ∙ ap (option_and_then (entry_at s)) e

  -- the method in the slot is live
  pub slot-live : (k : ℕ) → own_slot s c meta n ≡ Some k → (m : MethodRec) × (live_at s.methods s.method_order k ≡ Some m)
  slot-live k e = let held = own-live s orderly c meta n k e in (held.0, held.1)

  module _ (f : EntryOf ℕ → List (WitnessOf ℕ)) where
    -- what is gathered of it
    pub own-gathered : (k : ℕ) → own_slot s c meta n ≡ Some k
        → option_map_or (λ (m : MethodRec). f (entry_of s.classes m)) (live_at s.methods s.method_order k) [] ≡ option_map_or f (own_method nat_eq (number_image s).methods c meta n) []
    own-gathered k e =
        let held = slot-live k e in
        ap (λ (o : Option MethodRec). option_map_or (λ (m : MethodRec). f (entry_of s.classes m)) o []) held.1
        ∙ sym (ap (λ (o : Option (EntryOf ℕ)). option_map_or f o []) (own-there k held.0 e held.1))

    pub none-gathered : own_slot s c meta n ≡ None → [] ≡ option_map_or f (own_method nat_eq (number_image s).methods c meta n) []
    none-gathered e = sym (ap (λ (o : Option (EntryOf ℕ)). option_map_or f o []) (own-absent e))

    -- the same of a method of the user alone
    users-gathered : (o : Option (EntryOf ℕ))
        → option_map_or (λ (m : EntryOf ℕ). if m.kernel then [] else f m) o [] ≡ option_map_or f (option_and_then (λ (m : EntryOf ℕ). if m.kernel then None else Some m) o) []
    users-gathered None = refl
    users-gathered (Some m) = by m.kernel
      where
        by : (b : Bool) → (if b then [] else f m) ≡ option_map_or f (if b then None else Some m) []
        by true = refl
        by false = refl

    pub own-users : option_map_or (λ (m : EntryOf ℕ). if m.kernel then [] else f m) (own_method nat_eq (number_image s).methods c meta n) [] ≡ option_map_or f (users_method nat_eq (number_image s) c meta n) []
    own-users = users-gathered (own_method nat_eq (number_image s).methods c meta n)

  -- the owner that the slot is
  pub slot-owner : (k : ℕ) (m : MethodRec) → own_slot s c meta n ≡ Some k → live_at s.methods s.method_order k ≡ Some m → owner_of s (owner.Method k) ≡ InMethod (entry_of s.classes m)
  slot-owner k m e h =
      let held = own-live s orderly c meta n k e in
      let same : held.0 ≡ m = cc in
      ap (λ (o : Option MethodRec). option_map_or InMethod (option_map (entry_of s.classes) o) (AtPlace (in_method k))) held.2 ∙ ap (λ (x : MethodRec). InMethod (entry_of s.classes x)) same

  -- the method itself, if it is one of the kernel
  pub kernel-told : (k : ℕ) (info : MethodInfo) → own_slot s c meta n ≡ Some k → IsInfoOf (Some info) (live_at s.methods s.method_order k)
      → where_true info.kernel (AWhole (owner_of s (owner.Method k))) ≡ kernel_method nat_eq (number_image s) c meta n
  kernel-told k info e t =
      let held = slot-live k e in
      let told : TellsOf info held.0 = subst (IsInfoOf (Some info)) held.1 t in
      (λ i. where_true (told.kernel i) (AWhole (slot-owner k held.0 e held.1 i)))
      ∙ sym (ap (λ (o : Option (EntryOf ℕ)). option_map_or (λ (m : EntryOf ℕ). where_true m.kernel (a_method m)) o []) (own-there k held.0 e held.1))

  pub untold : (k : ℕ) → own_slot s c meta n ≡ Some k → IsInfoOf None (live_at s.methods s.method_order k) → ⊥
  untold k e t = subst (IsInfoOf None) (slot-live k e).1 t

  -- the method itself
  pub whole-there : (k : ℕ) → own_slot s c meta n ≡ Some k → AWhole (owner_of s (owner.Method k)) ∷ [] ≡ method_there nat_eq (number_image s) c meta n
  whole-there k e =
      let held = slot-live k e in
      ap (λ (o : OwnerOf ℕ). AWhole o ∷ []) (slot-owner k held.0 e held.1)
      ∙ sym (ap (λ (o : Option (EntryOf ℕ)). option_map_or (λ (m : EntryOf ℕ). a_method m ∷ []) o []) (own-there k held.0 e held.1))
