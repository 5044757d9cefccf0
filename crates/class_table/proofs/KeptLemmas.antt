-- Changes of records and orders after which an image is still orderly.
use Rattle.std.proofs.Common.{◌≡◌, ◌≢◌, ◌⊎◌, inl, inr, ℕ, zero, suc, ◌<◌, if◌then◌else◌, Bool, true, false, List, [], ◌∷◌, ◌++◌, length, map, Option, Some, None, option_map, slice_get, refl, sym, ap, subst, ◌∙◌, arith, true≢false}
use Rattle.std.specs.Prelude.{insert}
use Rattle.std.specs.List.{cons_option, list_any, AllByRecursion}
use Rattle.std.specs.Option.{option_and_then}
use Rattle.std.proofs.Math.ListN.{set}
use Rattle.std.proofs.Math.Dec.{eqb}
use Rattle.std.proofs.lemmas.Bool.Decides.{eqb_tells}
use Rattle.std.proofs.lemmas.Option.{slice_get_within}
use Rattle.tree_model.specs.AllNames.{SequenceNames}
use Rattle.st_tree.specs.View.{sequence_of}
use Rattle.image_model.specs.ImageNames.{OptionNames, ClassNames, EntryNames, DoItNames}
use Rattle.image_model.proofs.Ends.{slice_get-end}
use Rattle.class_table.specs.declared.record.ClassRec.{ClassRec}
use Rattle.class_table.specs.declared.record.MethodRec.{MethodRec}
use Rattle.class_table.specs.declared.record.DoIt.{DoIt}
use Rattle.class_table.specs.declared.record.Slot.TheVariants as slot
use Rattle.class_table.specs.Order.{without, Distinct, IsOrderOf}
use Rattle.class_table.specs.Slots.{Slots}
use Rattle.class_table.specs.View.{live, class_name, class_of, entry_of, doit_of}
use Rattle.class_table.specs.Valid.{IsLive, IsOrderly}
use Rattle.class_table.specs.Kept.{FitsMethod, FitsClass}
use Rattle.class_table.specs.Changing.{with_live}
use Rattle.class_table.proofs.Live.{or_true, eqb-equal, IsLive-first, IsLive-rest, live-fact}
use Rattle.class_table.proofs.OrderLemmas.{get-set_same, get-set_other, length-set, length-push, any-without, any-insert, any-push, Distinct-without, Distinct-insert, Distinct-push, gone-without}

-- a fact of what each live slot holds
pub live-all : {X Y : Type 0} (P : Y → Type 0) (g : X → Y) (xs : List X) (order : List ℕ) → ((k : ℕ) (x : X) → IsLive order k → slice_get xs k ≡ Some x → P (g x)) → AllByRecursion P (map g (live xs order))
live-all P g xs [] h = tt
live-all P g xs (k ∷ ks) h = by (slice_get xs k) refl (live-all P g xs ks (λ j x l e. h j x (IsLive-rest j k ks l) e))
  where
    by : (o : Option _) → slice_get xs k ≡ o → AllByRecursion P (map g (live xs ks)) → AllByRecursion P (map g (cons_option o (live xs ks)))
    by None e rest = rest
    by (Some x) e rest = (h k x (IsLive-first k ks) e, rest)

-- what stands in a slot after one is written
set-cases : {X : Type 0} (xs : List X) (k : ℕ) (x : X) (j : ℕ) (y : X) → slice_get (set xs k x) j ≡ Some y → ((j ≡ k) × (x ≡ y)) ⊎ ((j ≢ k) × (slice_get xs j ≡ Some y))
set-cases {X} xs k x j y e = by (eqb_tells j k)
  where
    some : {a b : X} → Some a ≡ Some b → a ≡ b
    some h = cc

    by : ((eqb j k ≡ true) × (j ≡ k)) ⊎ ((eqb j k ≡ false) × (j ≢ k)) → ((j ≡ k) × (x ≡ y)) ⊎ ((j ≢ k) × (slice_get xs j ≡ Some y))
    by (inl t) =
        let there : slice_get (set xs k x) k ≡ Some y = ap (slice_get (set xs k x)) (sym t.1) ∙ e in
        let within : k < length (set xs k x) = slice_get_within (set xs k x) k y there in
        inl (t.1, some (sym (get-set_same xs k x (omega (arith, within, length-set xs k x))) ∙ there))
    by (inr t) = inr (t.1, sym (get-set_other xs k j x (λ h. t.1 (sym h))) ∙ e)

-- an order for as many slots
IsOrderOf-slots : (items : List ℕ) (m n : ℕ) → m ≡ n → IsOrderOf (record { items = items; slots = m }) → IsOrderOf (record { items = items; slots = n })
IsOrderOf-slots items m n e o = record { distinct = o.distinct; below = λ k l. (let less : k < m = o.below k l in omega (arith, less, e)) }

module _ (s : Slots) (o : IsOrderly s) where
  -- the name of a live class has a text
  class-known : (k : ℕ) → IsLive s.class_order k → OptionNames (λ n. n < length s.names) (class_name s.classes k)
  class-known k l = by (slice_get s.classes k) refl
    where
      by : (c : Option ClassRec) → slice_get s.classes k ≡ c → OptionNames (λ n. n < length s.names) (option_map (λ (d : ClassRec). d.name) c)
      by None e = tt
      by (Some c) e = (live-fact (ClassNames (λ n. n < length s.names)) (class_of s.classes) s.classes s.class_order k c o.names_known.classes l e).name

  -- a live method fits
  pub method-fits : (k : ℕ) (m : MethodRec) → IsLive s.method_order k → slice_get s.methods k ≡ Some m → FitsMethod s m
  method-fits k m l e = record {
    names_known = (live-fact (EntryNames (λ n. n < length s.names)) (entry_of s.classes) s.methods s.method_order k m o.names_known.methods l e).tree;
    class_live = o.method_classes_live k m l e;
  }

  -- an image whose live methods fit
  with-methods : (methods : List MethodRec) (order : List ℕ) → IsOrderOf (record { items = order; slots = length methods }) → ((k : ℕ) (m : MethodRec) → IsLive order k → slice_get methods k ≡ Some m → FitsMethod s m)
      → IsOrderly (record s { methods = methods; method_order = order })
  with-methods methods order is_order fits = record {
    names_distinct = o.names_distinct;
    names_known = record {
      classes = o.names_known.classes;
      methods = live-all (EntryNames (λ n. n < length s.names)) (entry_of s.classes) methods order (λ k m l e. record { class = class-known m.class (fits k m l e).class_live; tree = (fits k m l e).names_known });
      doits = o.names_known.doits;
    };
    class_order = o.class_order;
    method_order = is_order;
    class_names_distinct = o.class_names_distinct;
    superclasses_live = o.superclasses_live;
    method_classes_live = λ k m l e. (fits k m l e).class_live;
  }

  -- another method in a slot
  pub method-swapped : (k : ℕ) (m : MethodRec) → (IsLive s.method_order k → FitsMethod s m) → IsOrderly (record s { methods = set s.methods k m })
  method-swapped k m h =
      with-methods (set s.methods k m) s.method_order (IsOrderOf-slots s.method_order (length s.methods) (length (set s.methods k m)) (sym (length-set s.methods k m)) o.method_order)
      (λ j n l e. by j n l (set-cases s.methods k m j n e))
    where
      by : (j : ℕ) (n : MethodRec) → IsLive s.method_order j → ((j ≡ k) × (m ≡ n)) ⊎ ((j ≢ k) × (slice_get s.methods j ≡ Some n)) → FitsMethod s n
      by j n l (inl t) = subst (λ (x : MethodRec). FitsMethod s x) t.1 (h (subst (λ (x : ℕ). IsLive s.method_order x) t.0 l))
      by j n l (inr t) = method-fits j n l t.1

  -- a new method
  pub method-added : (m : MethodRec) → FitsMethod s m → IsOrderly (record s { methods = s.methods ++ m ∷ []; method_order = s.method_order ++ length s.methods ∷ [] })
  method-added m h =
      with-methods (s.methods ++ m ∷ []) (s.method_order ++ length s.methods ∷ []) order (λ j n l e. by j n (or_true (eqb j (length s.methods)) (list_any (eqb j) s.method_order) (sym (any-push (eqb j) s.method_order (length s.methods)) ∙ l)) (slice_get-end s.methods m n j e))
    where
      fresh : (b : Bool) → list_any (eqb (length s.methods)) s.method_order ≡ b → b ≡ false
      fresh true e = absurd (let less : length s.methods < length s.methods = o.method_order.below (length s.methods) e in omega (arith, less))
      fresh false e = refl

      unused : list_any (eqb (length s.methods)) s.method_order ≡ false
      unused = fresh (list_any (eqb (length s.methods)) s.method_order) refl

      within : (k : ℕ) → (eqb k (length s.methods) ≡ true) ⊎ (list_any (eqb k) s.method_order ≡ true) → k < length (s.methods ++ m ∷ [])
      within k (inl t) = omega (arith, eqb-equal k (length s.methods) t, length-push s.methods m)
      within k (inr t) = (let less : k < length s.methods = o.method_order.below k t in omega (arith, less, length-push s.methods m))

      order : IsOrderOf (record { items = s.method_order ++ length s.methods ∷ []; slots = length (s.methods ++ m ∷ []) })
      order = record {
        distinct = Distinct-push (length s.methods) s.method_order unused o.method_order.distinct;
        below = λ k l. within k (or_true (eqb k (length s.methods)) (list_any (eqb k) s.method_order) (sym (any-push (eqb k) s.method_order (length s.methods)) ∙ l));
      }

      by : (j : ℕ) (n : MethodRec) → (eqb j (length s.methods) ≡ true) ⊎ (list_any (eqb j) s.method_order ≡ true) → (slice_get s.methods j ≡ Some n) ⊎ ((j ≡ length s.methods) × (m ≡ n)) → FitsMethod s n
      by j n l (inr t) = subst (λ (x : MethodRec). FitsMethod s x) t.1 h
      by j n (inr l) (inl t) = method-fits j n l t
      by j n (inl l) (inl t) = absurd (let less : j < length s.methods = slice_get_within s.methods j n t in omega (arith, less, eqb-equal j (length s.methods) l))

  -- what is live after a slot is taken out
  pub still-live : (k j : ℕ) (order : List ℕ) → Distinct order → IsLive (without k order) j → IsLive order j
  still-live k j order d l = by (eqb j k) (sym (any-without k j order d) ∙ l)
    where
      by : (b : Bool) → (if b then false else list_any (eqb j) order) ≡ true → IsLive order j
      by true e = absurd (true≢false (sym e))
      by false e = e

  without-order : (k : ℕ) → IsOrderOf (record { items = without k s.method_order; slots = length s.methods })
  without-order k = record {
    distinct = Distinct-without k s.method_order o.method_order.distinct;
    below = λ j l. o.method_order.below j (still-live k j s.method_order o.method_order.distinct l);
  }

  -- a method that is taken out of the order
  pub method-taken_out : (k : ℕ) → IsOrderly (with_live s (slot.Method k) None)
  method-taken_out k = with-methods s.methods (without k s.method_order) (without-order k) (λ j n l e. method-fits j n (still-live k j s.method_order o.method_order.distinct l) e)

  -- a method that is put into the order
  pub method-put_in : (k at : ℕ) (m : MethodRec) → slice_get s.methods k ≡ Some m → FitsMethod s m → IsOrderly (with_live s (slot.Method k) (Some at))
  method-put_in k at m there h = with-methods s.methods (insert (without k s.method_order) at k) order (λ j n l e. by j n (cases j l) e)
    where
      cases : (j : ℕ) → IsLive (insert (without k s.method_order) at k) j → (eqb j k ≡ true) ⊎ (list_any (eqb j) (without k s.method_order) ≡ true)
      cases j l = or_true (eqb j k) (list_any (eqb j) (without k s.method_order)) (sym (any-insert k (eqb j) (without k s.method_order) at) ∙ l)

      within : (j : ℕ) → (eqb j k ≡ true) ⊎ (list_any (eqb j) (without k s.method_order) ≡ true) → j < length s.methods
      within j (inl t) = subst (λ (x : ℕ). x < length s.methods) (sym (eqb-equal j k t)) (slice_get_within s.methods k m there)
      within j (inr t) = (without-order k).below j t

      order : IsOrderOf (record { items = insert (without k s.method_order) at k; slots = length s.methods })
      order = record {
        distinct = Distinct-insert k (without k s.method_order) at (gone-without k s.method_order o.method_order.distinct) (without-order k).distinct;
        below = λ j l. within j (cases j l);
      }

      some : {a b : MethodRec} → Some a ≡ Some b → a ≡ b
      some e = cc

      by : (j : ℕ) (n : MethodRec) → (eqb j k ≡ true) ⊎ (list_any (eqb j) (without k s.method_order) ≡ true) → slice_get s.methods j ≡ Some n → FitsMethod s n
      by j n (inl t) e = subst (λ (x : MethodRec). FitsMethod s x) (some (sym there ∙ ap (slice_get s.methods) (sym (eqb-equal j k t)) ∙ e)) h
      by j n (inr t) e = method-fits j n (still-live k j s.method_order o.method_order.distinct t) e

  -- do-its whose names have texts
  with-doits : (doits : List DoIt) → AllByRecursion (DoItNames (λ n. n < length s.names)) (map doit_of doits) → IsOrderly (record s { doits = doits })
  with-doits doits h = record {
    names_distinct = o.names_distinct;
    names_known = record { classes = o.names_known.classes; methods = o.names_known.methods; doits = h };
    class_order = o.class_order;
    method_order = o.method_order;
    class_names_distinct = o.class_names_distinct;
    superclasses_live = o.superclasses_live;
    method_classes_live = o.method_classes_live;
  }

  pub doit-swapped : (n : ℕ) (d : DoIt) → SequenceNames (λ n. n < length s.names) (sequence_of d.body) → IsOrderly (record s { doits = set s.doits n d })
  doit-swapped n d h = with-doits (set s.doits n d) (by s.doits n o.names_known.doits)
    where
      by : (ds : List DoIt) (k : ℕ) → AllByRecursion (DoItNames (λ n. n < length s.names)) (map doit_of ds) → AllByRecursion (DoItNames (λ n. n < length s.names)) (map doit_of (set ds k d))
      by [] k a = tt
      by (e ∷ es) zero a = (h, a.1)
      by (e ∷ es) (suc k) a = (a.0, by es k a.1)

  pub doit-added : (d : DoIt) → SequenceNames (λ n. n < length s.names) (sequence_of d.body) → IsOrderly (record s { doits = s.doits ++ d ∷ [] })
  doit-added d h = with-doits (s.doits ++ d ∷ []) (by s.doits o.names_known.doits)
    where
      by : (ds : List DoIt) → AllByRecursion (DoItNames (λ n. n < length s.names)) (map doit_of ds) → AllByRecursion (DoItNames (λ n. n < length s.names)) (map doit_of (ds ++ d ∷ []))
      by [] a = (h, tt)
      by (e ∷ es) a = (a.0, by es a.1)

  module _ (k : ℕ) (c : ClassRec) (h : IsLive s.class_order k → FitsClass s k c) where
    -- that the new class fits, where its slot is live
    fits-at : (j : ℕ) → IsLive s.class_order j → j ≡ k → FitsClass s k c
    fits-at j l e = h (subst (λ (x : ℕ). IsLive s.class_order x) e l)

    -- the name of a live class has a text
    known-now : (j : ℕ) → IsLive s.class_order j → OptionNames (λ n. n < length s.names) (class_name (set s.classes k c) j)
    known-now j l = by (slice_get (set s.classes k c) j) refl
      where
        at : (d : ClassRec) → ((j ≡ k) × (c ≡ d)) ⊎ ((j ≢ k) × (slice_get s.classes j ≡ Some d)) → d.name < length s.names
        at d (inl t) = subst (λ (x : ClassRec). x.name < length s.names) t.1 (fits-at j l t.0).name_known
        at d (inr t) = subst (λ (x : Option ℕ). OptionNames (λ n. n < length s.names) x) (ap (option_map (λ (x : ClassRec). x.name)) t.1) (class-known j l)

        by : (x : Option ClassRec) → slice_get (set s.classes k c) j ≡ x → OptionNames (λ n. n < length s.names) (option_map (λ (d : ClassRec). d.name) x)
        by None e = tt
        by (Some d) e = at d (set-cases s.classes k c j d e)

    -- the superclass of a live class is live
    superclass-now : (j q : ℕ) (d : ClassRec) → IsLive s.class_order q → slice_get (set s.classes k c) q ≡ Some d → d.superclass ≡ Some j → IsLive s.class_order j
    superclass-now j q d l e super = by (set-cases s.classes k c q d e)
      where
        by : ((q ≡ k) × (c ≡ d)) ⊎ ((q ≢ k) × (slice_get s.classes q ≡ Some d)) → IsLive s.class_order j
        by (inl t) = (fits-at q l t.0).superclass_live j (ap (λ (x : ClassRec). x.superclass) t.1 ∙ super)
        by (inr t) = o.superclasses_live j q d l t.1 super

    -- the name of the superclass has a text
    above-known : (q : ℕ) (d : ClassRec) → IsLive s.class_order q → slice_get (set s.classes k c) q ≡ Some d → OptionNames (λ n. n < length s.names) (option_and_then (class_name (set s.classes k c)) d.superclass)
    above-known q d l e = by d.superclass refl
      where
        by : (x : Option ℕ) → d.superclass ≡ x → OptionNames (λ n. n < length s.names) (option_and_then (class_name (set s.classes k c)) x)
        by None f = tt
        by (Some j) f = known-now j (superclass-now j q d l e f)

    -- the names of a live class have texts
    names-now : (q : ℕ) (d : ClassRec) → IsLive s.class_order q → slice_get (set s.classes k c) q ≡ Some d → ClassNames (λ n. n < length s.names) (class_of (set s.classes k c) d)
    names-now q d l e = by (set-cases s.classes k c q d e)
      where
        by : ((q ≡ k) × (c ≡ d)) ⊎ ((q ≢ k) × (slice_get s.classes q ≡ Some d)) → ClassNames (λ n. n < length s.names) (class_of (set s.classes k c) d)
        by (inl t) =
            let fits = fits-at q l t.0 in
            record {
              name = subst (λ (x : ClassRec). x.name < length s.names) t.1 fits.name_known;
              superclass = above-known q d l e;
              instance = subst (λ (x : ClassRec). AllByRecursion (λ n. n < length s.names) x.instance) t.1 fits.instance_known;
              shared = subst (λ (x : ClassRec). AllByRecursion (λ n. n < length s.names) x.shared) t.1 fits.shared_known;
              class_side = subst (λ (x : ClassRec). AllByRecursion (λ n. n < length s.names) x.class_side) t.1 fits.class_side_known;
            }
        by (inr t) =
            let was = live-fact (ClassNames (λ n. n < length s.names)) (class_of s.classes) s.classes s.class_order q d o.names_known.classes l t.1 in
            record { name = was.name; superclass = above-known q d l e; instance = was.instance; shared = was.shared; class_side = was.class_side }

    -- the name in a slot, the one that is written or another
    name-cases : (j n : ℕ) → class_name (set s.classes k c) j ≡ Some n → ((j ≡ k) × (c.name ≡ n)) ⊎ ((j ≢ k) × (class_name s.classes j ≡ Some n))
    name-cases j n e = by (slice_get (set s.classes k c) j) refl e
      where
        at : (d : ClassRec) → d.name ≡ n → ((j ≡ k) × (c ≡ d)) ⊎ ((j ≢ k) × (slice_get s.classes j ≡ Some d)) → ((j ≡ k) × (c.name ≡ n)) ⊎ ((j ≢ k) × (class_name s.classes j ≡ Some n))
        at d f (inl t) = inl (t.0, ap (λ (x : ClassRec). x.name) t.1 ∙ f)
        at d f (inr t) = inr (t.0, ap (option_map (λ (x : ClassRec). x.name)) t.1 ∙ ap Some f)

        by : (x : Option ClassRec) → slice_get (set s.classes k c) j ≡ x → option_map (λ (d : ClassRec). d.name) x ≡ Some n → ((j ≡ k) × (c.name ≡ n)) ⊎ ((j ≢ k) × (class_name s.classes j ≡ Some n))
        by None g f = absurd (cc)
        by (Some d) g f = let same : d.name ≡ n = cc in at d same (set-cases s.classes k c j d g)

    distinct-now : (i j n : ℕ) → IsLive s.class_order i → IsLive s.class_order j → class_name (set s.classes k c) i ≡ Some n → class_name (set s.classes k c) j ≡ Some n → i ≡ j
    distinct-now i j n l m e f = by (name-cases i n e) (name-cases j n f)
      where
        by : ((i ≡ k) × (c.name ≡ n)) ⊎ ((i ≢ k) × (class_name s.classes i ≡ Some n)) → ((j ≡ k) × (c.name ≡ n)) ⊎ ((j ≢ k) × (class_name s.classes j ≡ Some n)) → i ≡ j
        by (inl t) (inl u) = t.0 ∙ sym u.0
        by (inl t) (inr u) = t.0 ∙ sym ((fits-at i l t.0).name_is_new j m (u.1 ∙ ap Some (sym t.1)))
        by (inr t) (inl u) = (fits-at j m u.0).name_is_new i l (t.1 ∙ ap Some (sym u.1)) ∙ sym u.0
        by (inr t) (inr u) = o.class_names_distinct i j n l m t.1 u.1

    -- another class in a slot
    pub class-swapped : IsOrderly (record s { classes = set s.classes k c })
    class-swapped = record {
      names_distinct = o.names_distinct;
      names_known = record {
        classes = live-all (ClassNames (λ n. n < length s.names)) (class_of (set s.classes k c)) (set s.classes k c) s.class_order names-now;
        methods = live-all (EntryNames (λ n. n < length s.names)) (entry_of (set s.classes k c)) s.methods s.method_order (λ j m l e. record { class = known-now m.class (o.method_classes_live j m l e); tree = (method-fits j m l e).names_known });
        doits = o.names_known.doits;
      };
      class_order = IsOrderOf-slots s.class_order (length s.classes) (length (set s.classes k c)) (sym (length-set s.classes k c)) o.class_order;
      method_order = o.method_order;
      class_names_distinct = distinct-now;
      superclasses_live = superclass-now;
      method_classes_live = o.method_classes_live;
    }
