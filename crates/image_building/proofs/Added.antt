-- A class or a method that is added while an image is built.
use Rattle.std.proofs.Common.{◌≡◌, ◌⊎◌, ◌≢◌, inl, inr, ℕ, ◌<◌, Bool, true, false, cond, List, [], ◌∷◌, ◌++◌, length, map, find, Option, Some, None, option_map, slice_get, refl, sym, ap, subst, ◌∙◌}
use Rattle.std.specs.Prelude.{nat_eq, if◌then◌else◌}
use Rattle.std.specs.List.{cons_option}
use Rattle.std.specs.Option.{ForSome, option_and_then, option_map_or, option_or}
use Rattle.std.proofs.lemmas.Bool.Decides.{eqb_tells}
use Rattle.std.proofs.lemmas.List.{map-append}
use Rattle.std.proofs.lemmas.List.Elements.{filter_map-append}
use Rattle.std.proofs.lemmas.List.Folds.{find-append}
use Rattle.std.specs.HashMap.{get}
use Rattle.tree_model.specs.AllNames.{MethodNames}
use Rattle.st_tree.specs.View.{method_of}
use Rattle.image_model.specs.Image.{ClassOf, EntryOf}
use Rattle.image_model.specs.ImageNames.{ClassNames}
use Rattle.image_model.proofs.Ends.{slice_get-front}
use Rattle.file_model.specs.Hierarchy.{has_class}
use Rattle.class_table.specs.declared.record.ClassRec.{ClassRec}
use Rattle.class_table.specs.declared.record.MethodRec.{MethodRec}
use Rattle.class_table.specs.Slots.{Slots}
use Rattle.class_table.specs.View.{live, class_name, class_of, entry_of, number_image}
use Rattle.class_table.specs.Valid.{IsLive, IsOrderly}
use Rattle.class_table.specs.Finding.{is_named, named_in}
use Rattle.class_table.proofs.Live.{live-same, find-agree, there}
use Rattle.live_slots.specs.Live.{AllLive}
use Rattle.live_slots.proofs.Keeping.{all-class, all-method}
use Rattle.class_table.proofs.KeptLemmas.{method-added}
use Rattle.class_table.proofs.ClassLemmas.{class-added}
use Rattle.image_draft.specs.declared.method_draft.MethodDraft.{MethodDraft}
use Rattle.image_draft.specs.Entries as drafted
use Rattle.image_building.specs.Built.{ClassTable, IsBuilt}
use Rattle.image_building.proofs.Found.{absent_unfound, absent_live, table_gives, superclass_given, superclass_live}

-- what stands at the end
last_at : {X : Type 0} (xs : List X) (x : X) → slice_get (xs ++ x ∷ []) (length xs) ≡ Some x
last_at [] x = refl
last_at (y ∷ ys) x = last_at ys x

-- one more record, which is live and last
live-added : {X Y : Type 0} (g h : X → Y) (xs : List X) (order : List ℕ) (x : X) → ((k : ℕ) → IsLive order k → k < length xs)
    → ((k : ℕ) (d : X) → IsLive order k → slice_get xs k ≡ Some d → g d ≡ h d) → map g (live (xs ++ x ∷ []) (order ++ length xs ∷ [])) ≡ map h (live xs order) ++ g x ∷ []
live-added {X} {Y} g h xs order x below same =
    ap (map g) (filter_map-append (slice_get (xs ++ x ∷ [])) order (length xs ∷ []))
    ∙ map-append g (live (xs ++ x ∷ []) order) (live (xs ++ x ∷ []) (length xs ∷ []))
    ∙ ap (λ (ys : List Y). ys ++ map g (live (xs ++ x ∷ []) (length xs ∷ []))) (live-same g h (xs ++ x ∷ []) xs order at)
    ∙ ap (λ (o : Option X). map h (live xs order) ++ map g (cons_option o [])) (last_at xs x)
  where
    at : (k : ℕ) → IsLive order k → option_map g (slice_get (xs ++ x ∷ []) k) ≡ option_map h (slice_get xs k)
    at k l =
        let held = there xs k (below k l) in
        ap (option_map g) (slice_get-front xs (x ∷ []) k held.0 held.1) ∙ ap Some (same k held.0 l held.1) ∙ sym (ap (option_map h) held.1)

module _ (table : ClassTable) (s : Slots) (b : IsBuilt table s) where
  -- the record of a class
  abbrev pub rec_of : ClassOf ℕ → ClassRec
  rec_of c = record {
    name = c.name;
    superclass = option_and_then (get nat_eq table) c.superclass;
    instance = c.instance;
    shared = c.shared;
    class_side = c.class_side;
    category = c.category;
    comment = c.comment;
    kernel = c.kernel;
  }

  module _ (c : ClassOf ℕ) (known : ClassNames (λ n. n < length s.names) c) (new : has_class nat_eq (number_image s).classes c.name ≡ false) (above : ForSome c.superclass (λ n. has_class nat_eq (number_image s).classes n ≡ true)) where
    -- the slots with the class
    abbrev pub with_class : Slots
    with_class = record s { classes = s.classes ++ rec_of c ∷ []; class_order = s.class_order ++ length s.classes ∷ [] }

    pub class_orderly : IsOrderly with_class
    class_orderly = class-added s b.orderly (rec_of c) (record {
      name_known = known.name;
      instance_known = known.instance;
      shared_known = known.shared;
      class_side_known = known.class_side;
      name_is_new = λ j l e. absurd (absent_live s b.orderly c.name j new l e);
      superclass_live = λ j e. superclass_live table s b c.superclass j e;
    })

    -- the name in a live slot
    old_name : (j : ℕ) → IsLive s.class_order j → class_name (s.classes ++ rec_of c ∷ []) j ≡ class_name s.classes j
    old_name j l =
        let at = there s.classes j (b.orderly.class_order.below j l) in
        ap (option_map (λ (x : ClassRec). x.name)) (slice_get-front s.classes (rec_of c ∷ []) j at.0 at.1 ∙ sym at.1)

    -- the name of a superclass that is live
    old_superclass : (o : Option ℕ) → ((j : ℕ) → o ≡ Some j → IsLive s.class_order j) → option_and_then (class_name (s.classes ++ rec_of c ∷ [])) o ≡ option_and_then (class_name s.classes) o
    old_superclass None h = refl
    old_superclass (Some j) h = old_name j (h j refl)

    pub class_image : (number_image with_class).classes ≡ (number_image s).classes ++ c ∷ []
    class_image =
        live-added (class_of (s.classes ++ rec_of c ∷ [])) (class_of s.classes) s.classes s.class_order (rec_of c) b.orderly.class_order.below
        (λ k d l e. ap (λ (o : Option ℕ). let t : ClassOf ℕ = record (class_of s.classes d) { superclass = o } in t) (old_superclass d.superclass (λ j f. b.orderly.superclasses_live j k d l e f)))
        ∙ ap (λ (o : Option ℕ). let t : ClassOf ℕ = record c { superclass = o } in (number_image s).classes ++ t ∷ [])
        (old_superclass (option_and_then (get nat_eq table) c.superclass) (superclass_live table s b c.superclass) ∙ superclass_given table s b c.superclass above)

    -- a search by name
    pub class_found : (q : ℕ) → named_in with_class.classes with_class.class_order q ≡ cond (nat_eq c.name q) (Some (length s.classes)) (named_in s.classes s.class_order q)
    class_found q =
        find-append (is_named with_class.classes q) s.class_order (length s.classes ∷ [])
        ∙ ap (λ (o : Option ℕ). option_or o (find (is_named with_class.classes q) (length s.classes ∷ [])))
        (find-agree (is_named with_class.classes q) (is_named s.classes q) s.class_order (λ k l. ap (λ (o : Option ℕ). option_map_or (nat_eq q) o false) (old_name k l)))
        ∙ ap (λ (o : Option ℕ). option_or (named_in s.classes s.class_order q) (cond (option_map_or (nat_eq q) o false) (Some (length s.classes)) None))
        (ap (option_map (λ (x : ClassRec). x.name)) (last_at s.classes (rec_of c)))
        ∙ by (named_in s.classes s.class_order q) refl (eqb_tells q c.name) (eqb_tells c.name q)
      where
        by : (o : Option ℕ) → named_in s.classes s.class_order q ≡ o → ((nat_eq q c.name ≡ true) × (q ≡ c.name)) ⊎ ((nat_eq q c.name ≡ false) × (q ≢ c.name)) → ((nat_eq c.name q ≡ true) × (c.name ≡ q)) ⊎ ((nat_eq c.name q ≡ false) × (c.name ≢ q))
            → option_or o (cond (nat_eq q c.name) (Some (length s.classes)) None) ≡ cond (nat_eq c.name q) (Some (length s.classes)) o
        by (Some k) e (inl t) u = absurd (differ (sym e ∙ ap (named_in s.classes s.class_order) t.1 ∙ absent_unfound s c.name new))
          where
            differ : Some k ≡ None → ⊥
            differ f = cc
        by (Some k) e (inr t) (inl u) = absurd (t.1 (sym u.1))
        by (Some k) e (inr t) (inr u) = sym (ap (λ (x : Bool). cond x (Some (length s.classes)) (Some k)) u.0)
        by None e (inl t) (inl u) = ap (λ (x : Bool). cond x (Some (length s.classes)) None) t.0 ∙ sym (ap (λ (x : Bool). cond x (Some (length s.classes)) None) u.0)
        by None e (inl t) (inr u) = absurd (u.1 (sym t.1))
        by None e (inr t) (inl u) = absurd (t.1 (sym u.1))
        by None e (inr t) (inr u) = ap (λ (x : Bool). cond x (Some (length s.classes)) None) t.0 ∙ sym (ap (λ (x : Bool). cond x (Some (length s.classes)) None) u.0)

    -- the slots after the class is added
    module _ (t : Slots) (r : ClassRec) (added : t ≡ record s { classes = s.classes ++ r ∷ []; class_order = s.class_order ++ length s.classes ∷ [] }) (is_rec : r ≡ rec_of c) where
      same : t ≡ with_class
      same = added ∙ ap (λ (x : ClassRec). let u : Slots = record s { classes = s.classes ++ x ∷ []; class_order = s.class_order ++ length s.classes ∷ [] } in u) is_rec

      pub class_image_added : (number_image t).classes ≡ (number_image s).classes ++ c ∷ []
      class_image_added = ap (λ (x : Slots). (number_image x).classes) same ∙ class_image

      pub class_built : (k : ℕ) (noted : ClassTable) → k ≡ length s.classes → ((q : ℕ) → get nat_eq noted q ≡ (if nat_eq c.name q then Some k else get nat_eq table q)) → IsBuilt noted t
      class_built k noted at h = record {
        orderly = subst IsOrderly (sym same) class_orderly;
        live = subst AllLive (sym same) (all-class s (rec_of c) b.live);
        by_name = λ q.
            h q
            ∙ (λ i. if nat_eq c.name q then Some (at i) else b.by_name q i)
            ∙ sym (class_found q)
            ∙ ap (λ (x : Slots). named_in x.classes x.class_order q) (sym same);
      }

  -- the record of a method
  abbrev pub method_rec : ℕ → MethodDraft → MethodRec
  method_rec k m = record { class = k; meta = m.meta; protocol = m.protocol; source = m.source; tree = m.tree; kernel = m.kernel }

  module _ (m : MethodDraft) (k : ℕ) (slot : Some k ≡ get nat_eq table m.class) where
    -- the slots with the method
    abbrev pub with_method : Slots
    with_method = record s { methods = s.methods ++ method_rec k m ∷ []; method_order = s.method_order ++ length s.methods ∷ [] }

    pub method_orderly : MethodNames (λ n. n < length s.names) (method_of m.tree) → IsOrderly with_method
    method_orderly known = method-added s b.orderly (method_rec k m) (record { names_known = known; class_live = (table_gives table s b m.class k (sym slot)).0 })

    pub method_image : (number_image with_method).methods ≡ (number_image s).methods ++ drafted.entry_of m ∷ []
    method_image =
        live-added (entry_of s.classes) (entry_of s.classes) s.methods s.method_order (method_rec k m) b.orderly.method_order.below (λ j d l e. refl)
        ∙ ap (λ (o : Option ℕ). let t : EntryOf ℕ = record (drafted.entry_of m) { class = o } in (number_image s).methods ++ t ∷ []) (table_gives table s b m.class k (sym slot)).1

    -- the slots after the method is added
    module _ (t : Slots) (added : t ≡ record s { methods = s.methods ++ method_rec k m ∷ []; method_order = s.method_order ++ length s.methods ∷ [] }) where
      pub method_image_added : (number_image t).methods ≡ (number_image s).methods ++ drafted.entry_of m ∷ []
      method_image_added = ap (λ (x : Slots). (number_image x).methods) added ∙ method_image

      pub method_built : MethodNames (λ n. n < length s.names) (method_of m.tree) → IsBuilt table t
      method_built known = subst (IsBuilt table) (sym added) (record { orderly = method_orderly known; live = all-method s (method_rec k m) b.live; by_name = b.by_name })
