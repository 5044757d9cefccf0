-- Changes of the classes of an image after which it is still orderly.
use Rattle.std.proofs.Common.{◌≡◌, ◌≢◌, ◌⊎◌, inl, inr, ℕ, ◌<◌, ◌||◌, if◌then◌else◌, Bool, true, false, List, [], ◌∷◌, ◌++◌, length, Option, Some, None, option_map, slice_get, refl, sym, ap, subst, ◌∙◌, arith}
use Rattle.std.specs.List.{list_any}
use Rattle.std.specs.Option.{option_and_then}
use Rattle.std.proofs.Math.Dec.{eqb}
use Rattle.std.proofs.lemmas.Bool.Decides.{eqb_tells}
use Rattle.std.proofs.lemmas.Option.{slice_get_within}
use Rattle.image_model.specs.ImageNames.{OptionNames, ClassNames, EntryNames}
use Rattle.image_model.proofs.Ends.{slice_get-front, slice_get-end}
use Rattle.class_table.specs.declared.record.ClassRec.{ClassRec}
use Rattle.class_table.specs.declared.record.MethodRec.{MethodRec}
use Rattle.class_table.specs.declared.record.Slot.TheVariants as slot
use Rattle.class_table.specs.Order.{without, IsOrderOf}
use Rattle.class_table.specs.Slots.{Slots}
use Rattle.class_table.specs.View.{class_name, class_of, entry_of}
use Rattle.class_table.specs.Valid.{IsLive, IsOrderly}
use Rattle.class_table.specs.Kept.{FitsClass, IsAboveNothing}
use Rattle.class_table.specs.Changing.{with_live}
use Rattle.class_table.proofs.Live.{or_true, eqb-equal, live-fact, there}
use Rattle.class_table.proofs.OrderLemmas.{length-push, any-without, any-push, Distinct-without, Distinct-push}
use Rattle.class_table.proofs.KeptLemmas.{live-all, method-fits, still-live}

module _ (s : Slots) (o : IsOrderly s) where
  -- a live class fits its slot
  class-fits : (k : ℕ) (c : ClassRec) → IsLive s.class_order k → slice_get s.classes k ≡ Some c → FitsClass s k c
  class-fits k c l e =
      let was = live-fact (ClassNames (λ n. n < length s.names)) (class_of s.classes) s.classes s.class_order k c o.names_known.classes l e in
      record {
        name_known = was.name;
        instance_known = was.instance;
        shared_known = was.shared;
        class_side_known = was.class_side;
        name_is_new = λ j m f. o.class_names_distinct j k c.name m l f (ap (option_map (λ (x : ClassRec). x.name)) e);
        superclass_live = λ j f. o.superclasses_live j k c l e f;
      }

  module _ (classes : List ClassRec) (order : List ℕ) (is_order : IsOrderOf (record { items = order; slots = length classes })) (fits : (k : ℕ) (c : ClassRec) → IsLive order k → slice_get classes k ≡ Some c → FitsClass (record s { classes = classes; class_order = order }) k c) (methods_live : (k : ℕ) (m : MethodRec) → IsLive s.method_order k → slice_get s.methods k ≡ Some m → IsLive order m.class) where
    -- the name of a live class has a text
    known : (k : ℕ) → IsLive order k → OptionNames (λ n. n < length s.names) (class_name classes k)
    known k l = by (slice_get classes k) refl
      where
        by : (x : Option ClassRec) → slice_get classes k ≡ x → OptionNames (λ n. n < length s.names) (option_map (λ (d : ClassRec). d.name) x)
        by None e = tt
        by (Some c) e = (fits k c l e).name_known

    -- the name of the superclass has a text
    above-known : (k : ℕ) (c : ClassRec) → IsLive order k → slice_get classes k ≡ Some c → OptionNames (λ n. n < length s.names) (option_and_then (class_name classes) c.superclass)
    above-known k c l e = by c.superclass refl
      where
        by : (x : Option ℕ) → c.superclass ≡ x → OptionNames (λ n. n < length s.names) (option_and_then (class_name classes) x)
        by None f = tt
        by (Some j) f = known j ((fits k c l e).superclass_live j f)

    names-distinct : (i j n : ℕ) → IsLive order i → IsLive order j → class_name classes i ≡ Some n → class_name classes j ≡ Some n → i ≡ j
    names-distinct i j n l m e f = by (slice_get classes i) refl e
      where
        by : (x : Option ClassRec) → slice_get classes i ≡ x → option_map (λ (d : ClassRec). d.name) x ≡ Some n → i ≡ j
        by None g h = absurd (cc)
        by (Some c) g h = let same : c.name ≡ n = cc in sym ((fits i c l g).name_is_new j m (f ∙ ap Some (sym same)))

    -- an image whose live classes fit
    with-classes : IsOrderly (record s { classes = classes; class_order = order })
    with-classes = record {
      names_distinct = o.names_distinct;
      names_known = record {
        classes = live-all (ClassNames (λ n. n < length s.names)) (class_of classes) classes order (λ k c l e. let f = fits k c l e in record { name = f.name_known; superclass = above-known k c l e; instance = f.instance_known; shared = f.shared_known; class_side = f.class_side_known });
        methods = live-all (EntryNames (λ n. n < length s.names)) (entry_of classes) s.methods s.method_order (λ k m l e. record { class = known m.class (methods_live k m l e); tree = (method-fits s o k m l e).names_known });
        doits = o.names_known.doits;
      };
      class_order = is_order;
      method_order = o.method_order;
      class_names_distinct = names-distinct;
      superclasses_live = λ j k c l e f. (fits k c l e).superclass_live j f;
      method_classes_live = methods_live;
    }

  module _ (c : ClassRec) (h : FitsClass s (length s.classes) c) where
    -- what is live stays live
    wider : (j : ℕ) → IsLive s.class_order j → IsLive (s.class_order ++ length s.classes ∷ []) j
    wider j l = any-push (eqb j) s.class_order (length s.classes) ∙ by (eqb j (length s.classes))
      where
        by : (b : Bool) → (b || list_any (eqb j) s.class_order) ≡ true
        by true = refl
        by false = l

    -- the new slot or one that was live
    live-cases : (j : ℕ) → IsLive (s.class_order ++ length s.classes ∷ []) j → (eqb j (length s.classes) ≡ true) ⊎ (list_any (eqb j) s.class_order ≡ true)
    live-cases j l = or_true (eqb j (length s.classes)) (list_any (eqb j) s.class_order) (sym (any-push (eqb j) s.class_order (length s.classes)) ∙ l)

    -- the name in a slot that was there
    old-name : (j : ℕ) → IsLive s.class_order j → class_name (s.classes ++ c ∷ []) j ≡ class_name s.classes j
    old-name j l =
        let at = there s.classes j (o.class_order.below j l) in
        ap (option_map (λ (x : ClassRec). x.name)) (slice_get-front s.classes (c ∷ []) j at.0 at.1 ∙ sym at.1)

    -- the name in the new slot
    new-name : class_name (s.classes ++ c ∷ []) (length s.classes) ≡ Some c.name
    new-name = ap (option_map (λ (x : ClassRec). x.name)) (by s.classes)
      where
        by : (ds : List ClassRec) → slice_get (ds ++ c ∷ []) (length ds) ≡ Some c
        by [] = refl
        by (d ∷ ds) = by ds

    new-order : IsOrderOf (record { items = s.class_order ++ length s.classes ∷ []; slots = length (s.classes ++ c ∷ []) })
    new-order = record {
      distinct = Distinct-push (length s.classes) s.class_order (fresh (list_any (eqb (length s.classes)) s.class_order) refl) o.class_order.distinct;
      below = λ k l. within k (live-cases k l);
    }
      where
        fresh : (b : Bool) → list_any (eqb (length s.classes)) s.class_order ≡ b → b ≡ false
        fresh true e = absurd (let less : length s.classes < length s.classes = o.class_order.below (length s.classes) e in omega (arith, less))
        fresh false e = refl

        within : (k : ℕ) → (eqb k (length s.classes) ≡ true) ⊎ (list_any (eqb k) s.class_order ≡ true) → k < length (s.classes ++ c ∷ [])
        within k (inl t) = omega (arith, eqb-equal k (length s.classes) t, length-push s.classes c)
        within k (inr t) = (let less : k < length s.classes = o.class_order.below k t in omega (arith, less, length-push s.classes c))

    -- the slot of a name is the one in which it was, or the new one
    old-alone : (k : ℕ) (d : ClassRec) → IsLive s.class_order k → slice_get s.classes k ≡ Some d → (j : ℕ) → (eqb j (length s.classes) ≡ true) ⊎ (list_any (eqb j) s.class_order ≡ true) → class_name (s.classes ++ c ∷ []) j ≡ Some d.name → j ≡ k
    old-alone k d l e j (inr m) f = (class-fits k d l e).name_is_new j m (sym (old-name j m) ∙ f)
    old-alone k d l e j (inl t) f =
        let same : Some c.name ≡ Some d.name = sym new-name ∙ ap (class_name (s.classes ++ c ∷ [])) (sym (eqb-equal j (length s.classes) t)) ∙ f in
        eqb-equal j (length s.classes) t ∙ sym (h.name_is_new k l (ap (option_map (λ (x : ClassRec). x.name)) e ∙ sym same))

    new-alone : (j : ℕ) → (eqb j (length s.classes) ≡ true) ⊎ (list_any (eqb j) s.class_order ≡ true) → class_name (s.classes ++ c ∷ []) j ≡ Some c.name → j ≡ length s.classes
    new-alone j (inr m) f = h.name_is_new j m (sym (old-name j m) ∙ f)
    new-alone j (inl t) f = eqb-equal j (length s.classes) t

    new-fits : (k : ℕ) (d : ClassRec) → (eqb k (length s.classes) ≡ true) ⊎ (list_any (eqb k) s.class_order ≡ true) → (slice_get s.classes k ≡ Some d) ⊎ ((k ≡ length s.classes) × (c ≡ d))
        → FitsClass (record s { classes = s.classes ++ c ∷ []; class_order = s.class_order ++ length s.classes ∷ [] }) k d
    new-fits k d (inl l) (inl e) = absurd (let less : k < length s.classes = slice_get_within s.classes k d e in omega (arith, less, eqb-equal k (length s.classes) l))
    new-fits k d (inr l) (inl e) =
        let was = class-fits k d l e in
        record {
          name_known = was.name_known;
          instance_known = was.instance_known;
          shared_known = was.shared_known;
          class_side_known = was.class_side_known;
          name_is_new = λ j m f. old-alone k d l e j (live-cases j m) f;
          superclass_live = λ j f. wider j (was.superclass_live j f);
        }
    new-fits k d l (inr t) =
        subst (λ (x : ClassRec). FitsClass (record s { classes = s.classes ++ c ∷ []; class_order = s.class_order ++ length s.classes ∷ [] }) k x) t.1
        (record {
          name_known = h.name_known;
          instance_known = h.instance_known;
          shared_known = h.shared_known;
          class_side_known = h.class_side_known;
          name_is_new = λ j m f. new-alone j (live-cases j m) f ∙ sym t.0;
          superclass_live = λ j f. wider j (h.superclass_live j f);
        })

    -- a new class
    pub class-added : IsOrderly (record s { classes = s.classes ++ c ∷ []; class_order = s.class_order ++ length s.classes ∷ [] })
    class-added =
        with-classes (s.classes ++ c ∷ []) (s.class_order ++ length s.classes ∷ []) new-order (λ k d l e. new-fits k d (live-cases k l) (slice_get-end s.classes c d k e))
        (λ k m l e. wider m.class (o.method_classes_live k m l e))

  module _ (k : ℕ) (nothing : IsAboveNothing s k) where
    -- another class that is live stays live
    stays : (j : ℕ) → IsLive s.class_order j → (j ≡ k → ⊥) → IsLive (without k s.class_order) j
    stays j l ne = any-without k j s.class_order o.class_order.distinct ∙ by (eqb_tells j k)
      where
        by : ((eqb j k ≡ true) × (j ≡ k)) ⊎ ((eqb j k ≡ false) × (j ≢ k)) → (if eqb j k then false else list_any (eqb j) s.class_order) ≡ true
        by (inl t) = absurd (ne t.1)
        by (inr t) = ap (λ b. if b then false else list_any (eqb j) s.class_order) t.0 ∙ l

    -- a class above nothing that is taken out of the order
    pub class-taken_out : IsOrderly (with_live s (slot.Class k) None)
    class-taken_out =
        with-classes s.classes (without k s.class_order)
        (record { distinct = Distinct-without k s.class_order o.class_order.distinct; below = λ j l. o.class_order.below j (was-live j l) })
        (λ q d l e. let was = class-fits q d (was-live q l) e in record {
          name_known = was.name_known;
          instance_known = was.instance_known;
          shared_known = was.shared_known;
          class_side_known = was.class_side_known;
          name_is_new = λ j m f. was.name_is_new j (was-live j m) f;
          superclass_live = λ j f. stays j (was.superclass_live j f) (λ h. nothing.classes q d (was-live q l) e (f ∙ ap Some h));
        })
        (λ j m l e. stays m.class (o.method_classes_live j m l e) (nothing.methods j m l e))
      where
        was-live : (j : ℕ) → IsLive (without k s.class_order) j → IsLive s.class_order j
        was-live j l = still-live s o k j s.class_order o.class_order.distinct l
