-- The image that slots stand for, where a record in a slot is replaced.
use Rattle.std.proofs.Common.{◌≡◌, ◌≢◌, ◌⊎◌, inl, inr, ℕ, zero, suc, ◌<◌, true, false, List, [], ◌∷◌, length, map, position, Option, None, Some, option_map, slice_get, refl, sym, ap, subst, ◌∙◌, true≢false}
use Rattle.std.specs.List.{list_any, cons_option}
use Rattle.std.specs.Option.{option_and_then, option_map_or}
use Rattle.std.proofs.Math.ListN.{set}
use Rattle.std.proofs.Math.Dec.{eqb}
use Rattle.std.proofs.lemmas.Bool.Decides.{eqb_tells}
use Rattle.std.proofs.lemmas.Option.{slice_get_within}
use Rattle.rb_base.specs.Names.{name_at}
use Rattle.tree_model.specs.Tree.{map_method, map_sequence}
use Rattle.st_tree.specs.declared.tree.Method.{Method}
use Rattle.st_tree.specs.declared.tree.Sequence.{Sequence}
use Rattle.st_tree.specs.View.{method_of, sequence_of}
use Rattle.image_model.specs.Image.{ClassOf, EntryOf, DoItOf, map_class, map_entry, map_doit}
use Rattle.class_table.specs.declared.record.ClassRec.{ClassRec}
use Rattle.class_table.specs.declared.record.MethodRec.{MethodRec}
use Rattle.class_table.specs.declared.record.DoIt.{DoIt}
use Rattle.class_table.specs.declared.record.Place.TheVariants as place
use Rattle.class_table.specs.Order.{Distinct}
use Rattle.class_table.specs.Slots.{Slots}
use Rattle.class_table.specs.View.{live, class_name, class_of, entry_of, doit_of, image_of}
use Rattle.class_table.specs.Valid.{IsLive}
use Rattle.class_table.specs.Changing.{changed_at, with_source}
use Rattle.class_table.specs.Lending.{with_tree, with_body}
use Rattle.class_table.proofs.OrderLemmas.{get-set_same, get-set_other, position-some}
use Rattle.class_table.proofs.Live.{eqb-refl, IsLive-first, IsLive-rest, there}
use Rattle.image_laws.specs.Orders.{HasOrders}
use Rattle.image_laws.specs.Replacing.{with_other_class, with_other_method, with_other_doit, with_method_source, with_method_tree, with_doit_source, with_doit_body}
use Rattle.image_laws.proofs.Lists.{changed_at-some}
use Rattle.image_laws.proofs.ViewLemmas.{method-there}
use Rattle.image_laws.proofs.Orders.{or_false, stands-live, position-get, position-dead}

module _ {X : Type 0} (xs : List X) (k : ℕ) (x : X) where
  -- a slot that is not in the order
  live-dead : (order : List ℕ) → list_any (eqb k) order ≡ false → live (set xs k x) order ≡ live xs order
  live-dead [] h = refl
  live-dead (j ∷ js) h =
      let both = or_false (eqb k j) (list_any (eqb k) js) h in
      λ i. cons_option (get-set_other xs k j x (λ e. true≢false (sym (ap (eqb k) (sym e) ∙ eqb-refl k) ∙ both.0)) i) (live-dead js both.1 i)

  -- a slot of the order
  live-set : (order : List ℕ) (p : ℕ) → Distinct order → ((j : ℕ) → IsLive order j → j < length xs) → slice_get order p ≡ Some k → live (set xs k x) order ≡ set (live xs order) p x
  live-set [] p d below e = absurd (cc)
  live-set (j ∷ js) zero d below e =
      let same : j ≡ k = cc in
      let at = there xs j (below j (IsLive-first j js)) in
      let within : k < length xs = subst (λ (n : ℕ). n < length xs) same (below j (IsLive-first j js)) in
      (λ i. cons_option ((ap (slice_get (set xs k x)) same ∙ get-set_same xs k x within) i) (live-dead js (ap (λ (n : ℕ). list_any (eqb n) js) (sym same) ∙ d.0) i))
      ∙ sym (ap (λ (o : Option X). set (cons_option o (live xs js)) 0 x) at.1)
  live-set (j ∷ js) (suc p) d below e =
      let at = there xs j (below j (IsLive-first j js)) in
      (λ i. cons_option ((get-set_other xs k j x apart ∙ at.1) i) (live-set js p d.1 (λ q l. below q (IsLive-rest q j js l)) e i))
      ∙ sym (ap (λ (o : Option X). set (cons_option o (live xs js)) (suc p) x) at.1)
    where
      apart : k ≢ j
      apart f = true≢false (sym (stands-live k js p e) ∙ ap (λ (n : ℕ). list_any (eqb n) js) f ∙ d.0)

map-set : {X Y : Type 0} (f : X → Y) (xs : List X) (k : ℕ) (x : X) → map f (set xs k x) ≡ set (map f xs) k (f x)
map-set f [] k x = refl
map-set f (y ∷ ys) zero x = refl
map-set f (y ∷ ys) (suc k) x = ap (λ (zs : List _). f y ∷ zs) (map-set f ys k x)

-- a change of an item of a mapped list
map-changed_at : {X Y : Type 0} (f : X → Y) (g : X → X) (h : Y → Y) → ((x : X) → f (g x) ≡ h (f x)) → (xs : List X) (k : ℕ) → map f (changed_at g xs k) ≡ changed_at h (map f xs) k
map-changed_at {X} {Y} f g h same xs k = by (slice_get xs k) refl
  where
    get : (ys : List X) (j : ℕ) → slice_get (map f ys) j ≡ option_map f (slice_get ys j)
    get [] j = refl
    get (y ∷ ys) zero = refl
    get (y ∷ ys) (suc j) = get ys j

    by : (o : Option X) → slice_get xs k ≡ o → map f (changed_at g xs k) ≡ changed_at h (map f xs) k
    by None e =
        ap (λ (o : Option X). map f (option_map_or (λ y. set xs k (g y)) o xs)) e
        ∙ sym (ap (λ (o : Option Y). option_map_or (λ y. set (map f xs) k (h y)) o (map f xs)) (get xs k ∙ ap (option_map f) e))
    by (Some x) e =
        ap (map f) (changed_at-some g xs k x e) ∙ map-set f xs k (g x) ∙ ap (set (map f xs) k) (same x)
        ∙ sym (changed_at-some h (map f xs) k (f x) (get xs k ∙ ap (option_map f) e))

module _ (s : Slots) where
  module _ (k : ℕ) (former c : ClassRec) (e : slice_get s.classes k ≡ Some former) (kept : c.name ≡ former.name) where
    -- the names of classes are the same
    names : class_name (set s.classes k c) ≡ class_name s.classes
    names = λ i q. same q i
      where
        same : (q : ℕ) → class_name (set s.classes k c) q ≡ class_name s.classes q
        same q = by (eqb_tells k q)
          where
            by : ((eqb k q ≡ true) × (k ≡ q)) ⊎ ((eqb k q ≡ false) × (k ≢ q)) → class_name (set s.classes k c) q ≡ class_name s.classes q
            by (inl t) =
                ap (class_name (set s.classes k c)) (sym t.1) ∙ ap (option_map (λ (d : ClassRec). d.name)) (get-set_same s.classes k c (slice_get_within s.classes k former e)) ∙ ap Some kept
                ∙ sym (ap (option_map (λ (d : ClassRec). d.name)) e) ∙ ap (class_name s.classes) t.1
            by (inr t) = ap (option_map (λ (d : ClassRec). d.name)) (get-set_other s.classes k q c t.1)

    classes-same : class_of (set s.classes k c) ≡ class_of s.classes
    classes-same = λ i d. record {
      name = d.name;
      superclass = option_and_then (names i) d.superclass;
      instance = d.instance;
      shared = d.shared;
      class_side = d.class_side;
      category = d.category;
      comment = d.comment;
      kernel = d.kernel;
    }

    entries-same : entry_of (set s.classes k c) ≡ entry_of s.classes
    entries-same = λ i m. record {
      class = names i m.class;
      meta = m.meta;
      protocol = m.protocol;
      source = m.source;
      tree = method_of m.tree;
      kernel = m.kernel;
    }

    -- the image with these classes
    swapped : (cs : List (ClassOf (List ℕ))) → map (map_class (name_at s.names)) (map (class_of s.classes) (live (set s.classes k c) s.class_order)) ≡ cs
        → image_of (record s { classes = set s.classes k c }) ≡ record (image_of s) { classes = cs }
    swapped cs h = λ i. record {
      classes = (ap (λ (f : ClassRec → ClassOf ℕ). map (map_class (name_at s.names)) (map f (live (set s.classes k c) s.class_order))) classes-same ∙ h) i;
      methods = map (map_entry (name_at s.names)) (map (entries-same i) (live s.methods s.method_order));
      doits = (image_of s).doits;
      heads = s.heads;
    }

    -- another class in a live slot
    pub class-live : (p : ℕ) → HasOrders s → position (eqb k) s.class_order ≡ Some p → image_of (record s { classes = set s.classes k c }) ≡ with_other_class (image_of s) p (map_class (name_at s.names) (class_of s.classes c))
    class-live p orders at = swapped (with_other_class (image_of s) p (map_class (name_at s.names) (class_of s.classes c))).classes (
        ap (λ (cs : List ClassRec). map (map_class (name_at s.names)) (map (class_of s.classes) cs)) (live-set s.classes k c s.class_order p orders.classes.distinct orders.classes.below (position-get k s.class_order p at))
        ∙ ap (map (map_class (name_at s.names))) (map-set (class_of s.classes) (live s.classes s.class_order) p c)
        ∙ map-set (map_class (name_at s.names)) (map (class_of s.classes) (live s.classes s.class_order)) p (class_of s.classes c))

    -- another class in a slot that is not live
    pub class-dead : position (eqb k) s.class_order ≡ None → image_of (record s { classes = set s.classes k c }) ≡ image_of s
    class-dead at = swapped (image_of s).classes (ap (λ (cs : List ClassRec). map (map_class (name_at s.names)) (map (class_of s.classes) cs)) (live-dead s.classes k c s.class_order (position-dead k s.class_order at)))

  module _ (k : ℕ) where
    -- another method in a live slot
    pub method-live : (p : ℕ) (m : MethodRec) → HasOrders s → position (eqb k) s.method_order ≡ Some p → image_of (record s { methods = set s.methods k m }) ≡ with_other_method (image_of s) p (map_entry (name_at s.names) (entry_of s.classes m))
    method-live p m orders at = ap (λ (ms : List (EntryOf (List ℕ))). record (image_of s) { methods = ms }) (
        ap (λ (ms : List MethodRec). map (map_entry (name_at s.names)) (map (entry_of s.classes) ms)) (live-set s.methods k m s.method_order p orders.methods.distinct orders.methods.below (position-get k s.method_order p at))
        ∙ ap (map (map_entry (name_at s.names))) (map-set (entry_of s.classes) (live s.methods s.method_order) p m)
        ∙ map-set (map_entry (name_at s.names)) (map (entry_of s.classes) (live s.methods s.method_order)) p (entry_of s.classes m))

    -- another method in a slot that is not live
    pub method-dead : (m : MethodRec) → position (eqb k) s.method_order ≡ None → image_of (record s { methods = set s.methods k m }) ≡ image_of s
    method-dead m at = ap (λ (ms : List (EntryOf (List ℕ))). record (image_of s) { methods = ms }) (ap (λ (ms : List MethodRec). map (map_entry (name_at s.names)) (map (entry_of s.classes) ms)) (live-dead s.methods k m s.method_order (position-dead k s.method_order at)))

    -- a change of a live method
    changed : (p : ℕ) (g : MethodRec → MethodRec) (h : EntryOf (List ℕ) → EntryOf (List ℕ)) → ((m : MethodRec) → map_entry (name_at s.names) (entry_of s.classes (g m)) ≡ h (map_entry (name_at s.names) (entry_of s.classes m)))
        → HasOrders s → position (eqb k) s.method_order ≡ Some p → image_of (record s { methods = changed_at g s.methods k }) ≡ record (image_of s) { methods = changed_at h (image_of s).methods p }
    changed p g h same orders at =
        let stands : slice_get s.method_order p ≡ Some k = position-get k s.method_order p at in
        let found = there s.methods k (orders.methods.below k (position-some k s.method_order p (sym at)).2) in
        ap (λ (ms : List MethodRec). image_of (record s { methods = ms })) (changed_at-some g s.methods k found.0 found.1)
        ∙ method-live p (g found.0) orders at
        ∙ ap (with_other_method (image_of s) p) (same found.0)
        ∙ sym (ap (λ (ms : List (EntryOf (List ℕ))). record (image_of s) { methods = ms }) (changed_at-some h (image_of s).methods p (map_entry (name_at s.names) (entry_of s.classes found.0))
        (method-there s orders k p at ∙ ap (λ (o : Option MethodRec). option_map (map_entry (name_at s.names)) (option_map (entry_of s.classes) o)) found.1)))

    pub method-source : (p : ℕ) (text : List ℕ) → HasOrders s → position (eqb k) s.method_order ≡ Some p → image_of (with_source s (place.Method k) text) ≡ with_method_source (image_of s) p text
    method-source p text orders at = changed p (λ (m : MethodRec). record m { source = text }) (λ (m : EntryOf (List ℕ)). record m { source = text }) (λ m. refl) orders at

    pub method-tree : (p : ℕ) (t : Method) → HasOrders s → position (eqb k) s.method_order ≡ Some p → image_of (with_tree s k t) ≡ with_method_tree (image_of s) p (map_method (name_at s.names) (method_of t))
    method-tree p t orders at = changed p (λ (m : MethodRec). record m { tree = t }) (λ (m : EntryOf (List ℕ)). record m { tree = map_method (name_at s.names) (method_of t) }) (λ m. refl) orders at

  module _ (n : ℕ) where
    -- another do-it of a number
    pub doit-swapped : (d : DoIt) → image_of (record s { doits = set s.doits n d }) ≡ with_other_doit (image_of s) n (map_doit (name_at s.names) (doit_of d))
    doit-swapped d = ap (λ (ds : List (DoItOf (List ℕ))). record (image_of s) { doits = ds }) (
        ap (map (map_doit (name_at s.names))) (map-set doit_of s.doits n d)
        ∙ map-set (map_doit (name_at s.names)) (map doit_of s.doits) n (doit_of d))

    doit-changed : (g : DoIt → DoIt) (h : DoItOf ℕ → DoItOf ℕ) (f : DoItOf (List ℕ) → DoItOf (List ℕ)) → ((d : DoIt) → doit_of (g d) ≡ h (doit_of d)) → ((d : DoItOf ℕ) → map_doit (name_at s.names) (h d) ≡ f (map_doit (name_at s.names) d))
        → image_of (record s { doits = changed_at g s.doits n }) ≡ record (image_of s) { doits = changed_at f (image_of s).doits n }
    doit-changed g h f one two = ap (λ (ds : List (DoItOf (List ℕ))). record (image_of s) { doits = ds }) (
        ap (map (map_doit (name_at s.names))) (map-changed_at doit_of g h one s.doits n)
        ∙ map-changed_at (map_doit (name_at s.names)) h f two (map doit_of s.doits) n)

    pub doit-source : (text : List ℕ) → image_of (with_source s (place.DoIt n) text) ≡ with_doit_source (image_of s) n text
    doit-source text = doit-changed (λ (d : DoIt). record d { source = text }) (λ (d : DoItOf ℕ). record d { source = text }) (λ (d : DoItOf (List ℕ)). record d { source = text }) (λ d. refl) (λ d. refl)

    pub doit-body : (body : Sequence) → image_of (with_body s n body) ≡ with_doit_body (image_of s) n (map_sequence (name_at s.names) (sequence_of body))
    doit-body body = doit-changed (λ (d : DoIt). record d { body = body }) (λ (d : DoItOf ℕ). record d { body = sequence_of body }) (λ (d : DoItOf (List ℕ)). record d { body = map_sequence (name_at s.names) (sequence_of body) }) (λ d. refl) (λ d. refl)
