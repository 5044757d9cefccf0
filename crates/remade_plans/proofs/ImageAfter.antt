-- The image of slots in which each live method and each do-it is the one after.
use Rattle.std.proofs.Common.{◌≡◌, ℕ, zero, suc, ◌<◌, Bool, true, false, List, [], ◌∷◌, length, map, Option, None, Some, option_map, slice_get, refl, sym, ap, subst, ◌∙◌}
use Rattle.std.specs.Prelude.{if◌then◌else◌}
use Rattle.std.proofs.lemmas.Simd.{map-map}
use Rattle.image_model.specs.Image.{ImageOf}
use Rattle.image_model.specs.ImageNames.{ImageNames}
use Rattle.class_table.specs.declared.record.MethodRec.{MethodRec}
use Rattle.class_table.specs.declared.record.DoIt.{DoIt}
use Rattle.class_table.specs.Slots.{Slots}
use Rattle.class_table.specs.Valid.{IsLive, IsOrderly}
use Rattle.class_table.specs.View.{live, entry_of, doit_of, number_image}
use Rattle.class_table.proofs.Live.{there, live-same}
use Rattle.remade_plans.specs.Remade.{Remaking, entry_after, doit_after, image_after, method_rec_after, doit_rec_after}
use Rattle.remade_plans.proofs.RemadeCode.{entry_changes, doit_changes, entry-is, doit-is}

-- lists that read the same at each place
same-lists : {X Y Z : Type 0} (g : X → Z) (h : Y → Z) (xs : List X) (ys : List Y) → ((k : ℕ) → option_map g (slice_get xs k) ≡ option_map h (slice_get ys k)) → map g xs ≡ map h ys
same-lists g h [] [] same = refl
same-lists g h [] (y ∷ ys) same = absurd (let bad : None ≡ Some (h y) = same zero in cc)
same-lists g h (x ∷ xs) [] same = absurd (let bad : Some (g x) ≡ None = same zero in cc)
same-lists g h (x ∷ xs) (y ∷ ys) same =
    let first : Some (g x) ≡ Some (h y) = same zero in
    let one : g x ≡ h y = cc in
    let rest = same-lists g h xs ys (λ k. same (suc k)) in
    λ i. one i ∷ rest i

-- each live method and each do-it is the one after
pub record AreAfter (s : Slots) (r : Remaking) (ms : List MethodRec) (ds : List DoIt) : Type 0 where
  pub method_slots : length ms ≡ length s.methods
  pub methods : (k : ℕ) (m : MethodRec) → IsLive s.method_order k → slice_get s.methods k ≡ Some m → slice_get ms k ≡ Some (if entry_changes s r m then method_rec_after s r m else m)
  pub doits : (n : ℕ) → slice_get ds n ≡ option_map (λ (d : DoIt). if doit_changes s r d then doit_rec_after s r d else d) (slice_get s.doits n)

module _ (s : Slots) (o : IsOrderly s) (r : Remaking) (ms : List MethodRec) (ds : List DoIt) (are : AreAfter s r ms ds) where
  abbrev pub end : Slots
  end = record s { methods = ms; doits = ds }

  methods-are : map (entry_of s.classes) (live ms s.method_order) ≡ map (entry_after s r) (number_image s).methods
  methods-are =
      live-same (entry_of s.classes) (λ (m : MethodRec). entry_after s r (entry_of s.classes m)) ms s.methods s.method_order at
      ∙ sym (map-map (entry_after s r) (entry_of s.classes) (live s.methods s.method_order))
    where
      at : (k : ℕ) → IsLive s.method_order k → option_map (entry_of s.classes) (slice_get ms k) ≡ option_map (λ (m : MethodRec). entry_after s r (entry_of s.classes m)) (slice_get s.methods k)
      at k l =
          let m = there s.methods k (o.method_order.below k l) in
          ap (option_map (entry_of s.classes)) (are.methods k m.0 l m.1)
          ∙ ap Some (entry-is s r m.0 (entry_changes s r m.0) refl)
          ∙ sym (ap (option_map (λ (q : MethodRec). entry_after s r (entry_of s.classes q))) m.1)

  doits-are : map doit_of ds ≡ map (doit_after s r) (number_image s).doits
  doits-are =
      same-lists doit_of (λ (d : DoIt). doit_after s r (doit_of d)) ds s.doits (λ n. ap (option_map doit_of) (are.doits n) ∙ at (slice_get s.doits n))
      ∙ sym (map-map (doit_after s r) doit_of s.doits)
    where
      at : (p : Option DoIt) → option_map doit_of (option_map (λ (d : DoIt). if doit_changes s r d then doit_rec_after s r d else d) p) ≡ option_map (λ (d : DoIt). doit_after s r (doit_of d)) p
      at None = refl
      at (Some d) = ap Some (doit-is s r d (doit_changes s r d) refl)

  -- the image is the one after
  pub image-is : number_image end ≡ image_after s r
  image-is = λ j. record (number_image s) { methods = methods-are j; doits = doits-are j }

  -- the slots are orderly
  home : (k : ℕ) (m : MethodRec) → IsLive s.method_order k → slice_get ms k ≡ Some m → IsLive s.class_order m.class
  home k m l e =
      let q = there s.methods k (o.method_order.below k l) in
      let same : Some m ≡ Some (if entry_changes s r q.0 then method_rec_after s r q.0 else q.0) = sym e ∙ are.methods k q.0 l q.1 in
      let is : m ≡ (if entry_changes s r q.0 then method_rec_after s r q.0 else q.0) = cc in
      subst (IsLive s.class_order) (sym (ap (λ (x : MethodRec). x.class) is ∙ by q.0 (entry_changes s r q.0))) (o.method_classes_live k q.0 l q.1)
    where
      by : (q : MethodRec) (b : Bool) → (if b then method_rec_after s r q else q).class ≡ q.class
      by q true = refl
      by q false = refl

  pub orderly-is : ImageNames (λ n. n < length s.names) (image_after s r) → IsOrderly end
  orderly-is known = record {
    names_distinct = o.names_distinct;
    names_known = subst (λ (x : ImageOf ℕ). ImageNames (λ n. n < length s.names) x) (sym image-is) known;
    class_order = o.class_order;
    method_order = record { distinct = o.method_order.distinct; below = λ k l. subst (λ (n : ℕ). k < n) (sym are.method_slots) (o.method_order.below k l) };
    class_names_distinct = o.class_names_distinct;
    superclasses_live = o.superclasses_live;
    method_classes_live = home;
  }
