-- The change of the code at a place, from what was made of it.
use Rattle.std.proofs.Common.{◌≡◌, ℕ, ◌<◌, Bool, true, false, List, [], ◌++◌, length, map, None, Some, slice_get, option_map, refl, sym, ap, subst, ◌∙◌}
use Rattle.std.specs.Prelude.{nat_eq, if◌then◌else◌}
use Rattle.std.specs.Borrow.{Bor}
use Rattle.std.specs.List.{list_any, AllByRecursion}
use Rattle.std.specs.Option.{option_copied}
use Rattle.std.proofs.lemmas.Simd.{map-map}
use Rattle.tree_model.specs.AllNames.{SequenceNames, MethodNames}
use Rattle.st_tree.specs.View.{method_of, method_from, sequence_of, sequence_from}
use Rattle.st_tree.specs.declared.tree.Method.{Method}
use Rattle.st_tree.specs.declared.tree.Sequence.{Sequence}
use Rattle.st_tree.proofs.Back.{method_from-method_of, sequence_from-sequence_of}
use Rattle.command_model.specs.Numbers.{number_writing}
use Rattle.image_model.specs.ImageNames.{EntryNames, DoItNames, ImageNames}
use Rattle.class_table.specs.declared.record.MethodRec.{MethodRec}
use Rattle.class_table.specs.declared.record.DoIt.{DoIt}
use Rattle.class_table.specs.declared.record.MethodInfo.{MethodInfo}
use Rattle.class_table.specs.declared.record.Place.TheVariants as place
use Rattle.class_table.specs.Slots.{Slots}
use Rattle.class_table.specs.Info.{IsInfoOf}
use Rattle.class_table.specs.View.{live, live_at, entry_of, doit_of}
use Rattle.class_table.specs.Valid.{IsLive}
use Rattle.class_table.proofs.Live.{live-fact}
use Rattle.change_set.specs.declared.change.Change.TheVariants as change
use Rattle.renamed_code.proofs.Changed.{method-there, doit-there}
use Rattle.remade_plans.specs.Remade.{Remaking, entry_after, doit_after, image_after, change_at}
use Rattle.remade_plans.proofs.RemadeCode.{method-gives, doit-gives}
use Rattle.remade_plans.proofs.Whole.{item-fact}

-- what a live slot holds
live-slot : {X : Type 0} (xs : List X) (order : List ℕ) (k : ℕ) (x : X) → live_at xs order k ≡ Some x → IsLive order k × (slice_get xs k ≡ Some x)
live-slot xs order k x e = by (list_any (nat_eq k) order) refl e
  where
    by : (b : Bool) → list_any (nat_eq k) order ≡ b → (if b then slice_get xs k else None) ≡ Some x → (list_any (nat_eq k) order ≡ true) × (slice_get xs k ≡ Some x)
    by true is f = (is, f)
    by false is f = absurd (cc)

module _ (image : Bor Slots) (r : Remaking) where
  abbrev IsKnown : ℕ → Type 0
  IsKnown n = n < length image.now.names

  -- a method of which something is told, and whose tree is lent
  module _ (k : ℕ) (info : MethodInfo) (tree : Bor Method) (told : IsInfoOf (Some info) (live_at image.now.methods image.now.method_order k))
      (lent : option_copied (Some tree) ≡ option_map (λ (m : MethodRec). m.tree) (live_at image.now.methods image.now.method_order k)) where
    -- its record
    abbrev pub method_told : MethodRec
    method_told = record { class = info.class; meta = info.meta; protocol = info.protocol.now; source = info.source.now; tree = tree.now; kernel = info.kernel }

    there : live_at image.now.methods image.now.method_order k ≡ Some method_told
    there = method-there image.now k info tree told lent

    -- its class is live
    pub told-live : ((j : ℕ) (m : MethodRec) → IsLive image.now.method_order j → slice_get image.now.methods j ≡ Some m → IsLive image.now.class_order m.class) → IsLive image.now.class_order info.class
    told-live live =
        let slot = live-slot image.now.methods image.now.method_order k method_told there in
        live k method_told slot.0 slot.1

    -- it is not made anew
    pub method-stays : r.is_method_remade (entry_of image.now.classes method_told) ≡ false → None ≡ change_at image.now r (place.Method k)
    method-stays f = sym (method-gives image.now r k method_told there false f)

    -- it is, and this is made of it
    module _ (made : Method) (f : r.is_method_remade (entry_of image.now.classes method_told) ≡ true) (e : method_of made ≡ r.method_after (entry_of image.now.classes method_told)) where
      -- each name in it has a text
      pub method-names : ImageNames IsKnown (image_after image.now r) → MethodNames IsKnown (method_of made)
      method-names known =
          let slot = live-slot image.now.methods image.now.method_order k method_told there in
          let all : AllByRecursion (EntryNames IsKnown) (map (λ (x : MethodRec). entry_after image.now r (entry_of image.now.classes x)) (live image.now.methods image.now.method_order)) =
          subst (AllByRecursion (EntryNames IsKnown)) (map-map (entry_after image.now r) (entry_of image.now.classes) (live image.now.methods image.now.method_order)) known.methods in
          let named = live-fact (EntryNames IsKnown) (λ (x : MethodRec). entry_after image.now r (entry_of image.now.classes x)) image.now.methods image.now.method_order k method_told all slot.0 slot.1 in
          subst (MethodNames IsKnown) (ap (λ (b : Bool). if b then r.method_after (entry_of image.now.classes method_told) else method_of tree.now) f ∙ sym e)
          (subst (MethodNames IsKnown) (picked (r.is_method_remade (entry_of image.now.classes method_told))) named.tree)
        where
          picked : (b : Bool) → (if b then record (entry_of image.now.classes method_told) { tree = r.method_after (entry_of image.now.classes method_told); source = (number_writing image.now.names).method_text (r.method_after (entry_of image.now.classes method_told)) } else entry_of image.now.classes method_told).tree
              ≡ (if b then r.method_after (entry_of image.now.classes method_told) else method_of tree.now)
          picked true = refl
          picked false = refl

      -- the change
      pub method-changes : (protocol source empty : List ℕ) (names : List (List ℕ)) → protocol ≡ info.protocol.now → empty ≡ [] → names ≡ image.now.names → source ≡ empty ++ (number_writing names).method_text (method_of made)
          → Some (change.Method k (record { class = info.class; meta = info.meta; protocol = protocol; source = source; tree = made; kernel = info.kernel })) ≡ change_at image.now r (place.Method k)
      method-changes protocol source empty names noted blank known text =
          let like : made ≡ method_from (r.method_after (entry_of image.now.classes method_told)) = sym (method_from-method_of made) ∙ ap method_from e in
          let spelled : source ≡ (number_writing image.now.names).method_text (r.method_after (entry_of image.now.classes method_told)) = text ∙ (λ i. blank i ++ (number_writing (known i)).method_text (e i)) in
          (λ i. let rec : MethodRec = record { class = info.class; meta = info.meta; protocol = noted i; source = spelled i; tree = like i; kernel = info.kernel } in Some (change.Method k rec))
          ∙ sym (method-gives image.now r k method_told there true f)

  -- a do-it whose body is lent
  module _ (n : ℕ) (body : Bor Sequence) (lent : option_copied (Some body) ≡ option_map (λ (d : DoIt). d.body) (slice_get image.now.doits n)) where
    pub doit-place : (source : List ℕ) × (slice_get image.now.doits n ≡ Some (record { source = source; body = body.now }))
    doit-place = doit-there image.now n body lent

    -- its record
    abbrev pub doit_told : DoIt
    doit_told = record { source = doit-place.0; body = body.now }

    -- it is not made anew
    pub doit-stays : r.is_doit_remade (doit_of doit_told) ≡ false → None ≡ change_at image.now r (place.DoIt n)
    doit-stays f = sym (doit-gives image.now r n doit_told doit-place.1 false f)

    -- it is, and this is made of it
    module _ (made : Sequence) (f : r.is_doit_remade (doit_of doit_told) ≡ true) (e : sequence_of made ≡ r.body_after (sequence_of body.now)) where
      -- each name in it has a text
      pub doit-names : ImageNames IsKnown (image_after image.now r) → SequenceNames IsKnown (sequence_of made)
      doit-names known =
          let all : AllByRecursion (DoItNames IsKnown) (map (λ (x : DoIt). doit_after image.now r (doit_of x)) image.now.doits) =
          subst (AllByRecursion (DoItNames IsKnown)) (map-map (doit_after image.now r) doit_of image.now.doits) known.doits in
          let named = item-fact (DoItNames IsKnown) (λ (x : DoIt). doit_after image.now r (doit_of x)) image.now.doits n doit_told all doit-place.1 in
          subst (SequenceNames IsKnown) (ap (λ (b : Bool). if b then r.body_after (sequence_of body.now) else sequence_of body.now) f ∙ sym e)
          (subst (SequenceNames IsKnown) (picked (r.is_doit_remade (doit_of doit_told))) named)
        where
          picked : (b : Bool) → (if b then record { body = r.body_after (sequence_of body.now); source = (number_writing image.now.names).doit_text (r.body_after (sequence_of body.now)) } else doit_of doit_told).body
              ≡ (if b then r.body_after (sequence_of body.now) else sequence_of body.now)
          picked true = refl
          picked false = refl

      -- the change
      pub doit-changes : (source empty : List ℕ) (names : List (List ℕ)) → empty ≡ [] → names ≡ image.now.names → source ≡ empty ++ (number_writing names).doit_text (sequence_of made)
          → Some (change.DoIt n (record { source = source; body = made })) ≡ change_at image.now r (place.DoIt n)
      doit-changes source empty names blank known text =
          let like : made ≡ sequence_from (r.body_after (sequence_of body.now)) = sym (sequence_from-sequence_of made) ∙ ap sequence_from e in
          let spelled : source ≡ (number_writing image.now.names).doit_text (r.body_after (sequence_of body.now)) = text ∙ (λ i. blank i ++ (number_writing (known i)).doit_text (e i)) in
          (λ i. let rec : DoIt = record { source = spelled i; body = like i } in Some (change.DoIt n rec))
          ∙ sym (doit-gives image.now r n doit_told doit-place.1 true f)
