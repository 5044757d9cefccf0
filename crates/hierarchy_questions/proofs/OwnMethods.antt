-- The method that a class itself has, among slots and in the image.
use Rattle.std.proofs.Common.{◌≡◌, ℕ, Bool, true, false, cond, ◌&&◌, not, find, length, List, [], ◌∷◌, Option, None, Some, option_map, is_none, slice_get, refl, sym, ap, ◌∙◌, true≢false}
use Rattle.std.specs.Prelude.{nat_eq}
use Rattle.std.specs.Bool.{beq}
use Rattle.std.specs.Option.{option_map_or, option_and_then, option_or}
use Rattle.std.proofs.lemmas.Bool.{and_parts}
use Rattle.image_model.specs.Image.{EntryOf}
use Rattle.image_model.specs.Upwards.{upwards, first_given}
use Rattle.image_model.specs.Lookup.{is_method, own_method}
use Rattle.class_table.specs.declared.record.MethodRec.{MethodRec}
use Rattle.class_table.specs.declared.tables.MethodKey.{MethodKey}
use Rattle.class_table.specs.declared.record.MethodInfo.{MethodInfo}
use Rattle.class_table.specs.Info.{IsInfoOf}
use Rattle.class_table.specs.Slots.{Slots}
use Rattle.class_table.specs.View.{class_name, entry_of, entry_at, live_at, number_image}
use Rattle.class_table.specs.Valid.{IsLive, IsOrderly}
use Rattle.class_table.specs.Finding.{is_named, named_in, only_live, above, chain_of, same_key, is_method_in, method_in, found_on_chain, class_class, found_as_object, found_by_lookup}
use Rattle.class_table.proofs.Live.{eqb-refl, eqb-equal, find-agree, find-only, find-passes, find-live, there}
use Rattle.command_model.specs.MethodConditions.{implements}
use Rattle.class_questions.proofs.AnyLive.{live_at-live, live-live_at}
use Rattle.class_questions.proofs.ChainLaws.{named-slot}
use Rattle.code_questions.proofs.Witnesses.{same-truth}
use Rattle.hierarchy_questions.specs.OwnMethods.{own_slot}
use Rattle.hierarchy_questions.proofs.Finds.{find-never, find-None, first_given-fact}

-- tests in a row
and-assoc : (a b c : Bool) → ((a && b) && c) ≡ (a && (b && c))
and-assoc true b c = refl
and-assoc false b c = refl

-- a passed test at the end of a row
and-last : (a b c : Bool) → c ≡ true → (a && (b && c)) ≡ (a && b)
and-last false b c e = refl
and-last true false c e = refl
and-last true true c e = e

module _ (s : Slots) (meta : Bool) (selector : ℕ) where
  abbrev key : ℕ → Bool → MethodKey
  key k m = record { class = k; meta = m; selector = selector }

  abbrev own : ℕ → Bool → Option ℕ
  own k m = method_in s.methods s.method_order (key k m)

  -- what holds of each method of a class, a side and the selector holds of the one that is found
  found-fact : (P : ℕ → Type 0) → ((k : ℕ) (m : Bool) (j : ℕ) → own k m ≡ Some j → P j) → (k j : ℕ) → found_by_lookup s k meta selector ≡ Some j → P j
  found-fact P h k j = by (only_live s.class_order k)
    where
      up : (k : ℕ) (m : Bool) → found_on_chain s k m selector ≡ Some j → P j
      up k m e = first_given-fact P (λ c. own c m) (λ c y q. h c m y q) (chain_of s.classes s.class_order k) j e

      object : (o : Option ℕ) → option_and_then (λ c. found_on_chain s c false selector) o ≡ Some j → P j
      object None e = absurd (cc)
      object (Some d) e = up d false e

      side : (b : Bool) → cond b (found_as_object s selector) None ≡ Some j → P j
      side true e = object (class_class s) e
      side false e = absurd (cc)

      here : (k : ℕ) (o : Option ℕ) → found_on_chain s k meta selector ≡ o → option_or o (cond meta (found_as_object s selector) None) ≡ Some j → P j
      here k None q e = side meta e
      here k (Some y) q e = up k meta (q ∙ e)

      by : (o : Option ℕ) → option_and_then (λ c. option_or (found_on_chain s c meta selector) (cond meta (found_as_object s selector) None)) o ≡ Some j → P j
      by None e = absurd (cc)
      by (Some d) e = here d (found_on_chain s d meta selector) refl e

  -- the method that a live class itself has is the one that is found
  own-found : (k j : ℕ) → IsLive s.class_order k → own k meta ≡ Some j → found_by_lookup s k meta selector ≡ Some j
  own-found k j l e =
      ap (option_and_then (λ c. option_or (found_on_chain s c meta selector) (cond meta (found_as_object s selector) None))) alive
      ∙ ap (λ o. option_or (first_given (λ c. own c meta) (upwards (above s.classes s.class_order) (length s.class_order) o)) (cond meta (found_as_object s selector) None)) alive
      ∙ ap (λ o. option_or o (cond meta (found_as_object s selector) None)) (by s.class_order l)
    where
      alive : only_live s.class_order k ≡ Some k
      alive = ap (λ b. cond b (Some k) None) l

      by : (ks : List ℕ) → IsLive ks k → first_given (λ c. own c meta) (upwards (above s.classes s.class_order) (length ks) (Some k)) ≡ Some j
      by [] m = absurd (true≢false (sym m))
      by (i ∷ is) m = ap (λ o. option_or o (first_given (λ c. own c meta) (upwards (above s.classes s.class_order) (length is) (above s.classes s.class_order k)))) e

  -- a method that is found is live, and has the selector
  pub found-there : (k j : ℕ) → found_by_lookup s k meta selector ≡ Some j → (m : MethodRec) × (live_at s.methods s.method_order j ≡ Some m) × (nat_eq selector m.tree.selector ≡ true)
  found-there = found-fact (λ j. (m : MethodRec) × (live_at s.methods s.method_order j ≡ Some m) × (nat_eq selector m.tree.selector ≡ true)) by
    where
      by : (k : ℕ) (b : Bool) (j : ℕ) → own k b ≡ Some j → (m : MethodRec) × (live_at s.methods s.method_order j ≡ Some m) × (nat_eq selector m.tree.selector ≡ true)
      by k b j e = let p = find-passes (is_method_in s.methods (key k b)) s.method_order j e in read (slice_get s.methods j) (live_at-live s.methods s.method_order j p.1) p.0
        where
          read : (o : Option MethodRec) → live_at s.methods s.method_order j ≡ o → option_map_or (same_key (key k b)) (option_map (λ (m : MethodRec). record { class = m.class; meta = m.meta; selector = m.tree.selector }) o) false ≡ true
              → (m : MethodRec) × (live_at s.methods s.method_order j ≡ Some m) × (nat_eq selector m.tree.selector ≡ true)
          read None q t = absurd (true≢false (sym t))
          read (Some m) q t =
              (m, q, (and_parts (beq b m.meta) (nat_eq selector m.tree.selector) (and_parts (nat_eq k m.class) (beq b m.meta && nat_eq selector m.tree.selector) t).1).1)

  -- a live class itself has the method that is found, if that is one of the class and the side, and otherwise none
  pub own-kept : (k j : ℕ) (m : MethodRec) → IsLive s.class_order k → found_by_lookup s k meta selector ≡ Some j → live_at s.methods s.method_order j ≡ Some m
      → cond (nat_eq k m.class && beq meta m.meta) (Some j) None ≡ own k meta
  own-kept k j m l f e = by (own k meta) refl
    where
      there : IsLive s.method_order j × (slice_get s.methods j ≡ Some m)
      there = live-live_at s.methods s.method_order j m e

      has : nat_eq selector m.tree.selector ≡ true
      has = let t = found-there k j f in let same : t.0 ≡ m = cc in ap (λ (x : MethodRec). nat_eq selector x.tree.selector) (sym same) ∙ t.2

      test : is_method_in s.methods (key k meta) j ≡ (nat_eq k m.class && beq meta m.meta)
      test =
          ap (λ (o : Option MethodRec). option_map_or (same_key (key k meta)) (option_map (λ (x : MethodRec). record { class = x.class; meta = x.meta; selector = x.tree.selector }) o) false) there.1
          ∙ and-last (nat_eq k m.class) (beq meta m.meta) (nat_eq selector m.tree.selector) has

      by : (o : Option ℕ) → own k meta ≡ o → cond (nat_eq k m.class && beq meta m.meta) (Some j) None ≡ o
      by None q = ap (λ b. cond b (Some j) None) (sym test ∙ find-None (is_method_in s.methods (key k meta)) s.method_order j q there.0)
      by (Some y) q =
          let found : Some y ≡ Some j = sym (own-found k y l q) ∙ f in
          let same : y ≡ j = cc in
          let passes = (find-passes (is_method_in s.methods (key k meta)) s.method_order y q).0 in
          ap (λ b. cond b (Some j) None) (sym test ∙ ap (is_method_in s.methods (key k meta)) (sym same) ∙ passes) ∙ ap Some (sym same)

  pub own-none : (k : ℕ) → IsLive s.class_order k → found_by_lookup s k meta selector ≡ None → own k meta ≡ None
  own-none k l f = by (own k meta) refl
    where
      by : (o : Option ℕ) → own k meta ≡ o → o ≡ None
      by None q = refl
      by (Some j) q = sym (own-found k j l q) ∙ f

-- whether the method in a slot, if there is one, is one of the user
abbrev pub user_at : Slots → Option ℕ → Bool
user_at s o = option_map_or (λ j. option_map_or (λ (m : MethodRec). not m.kernel) (live_at s.methods s.method_order j) false) o false

module _ (s : Slots) (c k : ℕ) (meta : Bool) (selector : ℕ) (named : named_in s.classes s.class_order c ≡ Some k) where
  abbrev alive : IsLive s.class_order k
  alive = (named-slot s.classes s.class_order c k named).0

  abbrev mine : Option ℕ → Option ℕ
  mine o = option_and_then (λ d. method_in s.methods s.method_order (record { class = d; meta = meta; selector = selector })) o

  -- where no method is found for a class, it has none itself
  pub none-told : found_by_lookup s k meta selector ≡ None → own_slot s c meta selector ≡ None
  none-told f = ap mine named ∙ own-none s meta selector k alive f

  -- what is told of the method that is found says whether the class itself has it
  pub own-told : (j : ℕ) (o : Option MethodInfo) → found_by_lookup s k meta selector ≡ Some j → IsInfoOf o (live_at s.methods s.method_order j)
      → option_and_then (λ (i : MethodInfo). cond (nat_eq k i.class && beq meta i.meta) (Some j) None) o ≡ own_slot s c meta selector
  own-told j o f told = by o (live_at s.methods s.method_order j) refl told ∙ sym (ap mine named)
    where
      by : (o : Option MethodInfo) (x : Option MethodRec) → live_at s.methods s.method_order j ≡ x → IsInfoOf o x
          → option_and_then (λ (i : MethodInfo). cond (nat_eq k i.class && beq meta i.meta) (Some j) None) o ≡ method_in s.methods s.method_order (record { class = k; meta = meta; selector = selector })
      by None None e t = let m = found-there s meta selector k j f in absurd (cc (m.1, e))
      by None (Some m) e t = absurd t
      by (Some i) None e t = absurd t
      by (Some i) (Some m) e t = (λ n. cond (nat_eq k (t.class n) && beq meta (t.meta n)) (Some j) None) ∙ own-kept s meta selector k j m alive f e

-- the method that a class itself has in the image
module _ (s : Slots) (orderly : IsOrderly s) (c : ℕ) (meta : Bool) (selector : ℕ) where
  -- the class of a live method has a name exactly where the class of the name is found there
  pub class-agrees : (k : ℕ) → IsLive s.class_order k → is_named s.classes c k ≡ option_map_or (λ j. nat_eq j k) (named_in s.classes s.class_order c) false
  class-agrees k l =
      same-truth (is_named s.classes c k) (option_map_or (λ j. nat_eq j k) (named_in s.classes s.class_order c) false)
      (λ e. ap (λ o. option_map_or (λ j. nat_eq j k) o false) (find-only (is_named s.classes c) s.class_order k l e (only e)) ∙ eqb-refl k)
      (by (named_in s.classes s.class_order c) refl)
    where
      read : (o : Option ℕ) → option_map_or (nat_eq c) o false ≡ true → o ≡ Some c
      read None q = absurd (true≢false (sym q))
      read (Some n) q = ap Some (sym (eqb-equal c n q))

      only : is_named s.classes c k ≡ true → (j : ℕ) → IsLive s.class_order j → is_named s.classes c j ≡ true → j ≡ k
      only e j m q = orderly.class_names_distinct j k c m l (read (class_name s.classes j) q) (read (class_name s.classes k) e)

      by : (o : Option ℕ) → named_in s.classes s.class_order c ≡ o → option_map_or (λ j. nat_eq j k) o false ≡ true → is_named s.classes c k ≡ true
      by None q t = absurd (true≢false (sym t))
      by (Some j) q t = ap (is_named s.classes c) (sym (eqb-equal j k t)) ∙ (find-passes (is_named s.classes c) s.class_order j q).0

  abbrev at : Option ℕ → ℕ → Bool
  at o j = option_map_or (λ k. is_method_in s.methods (record { class = k; meta = meta; selector = selector }) j) o false

  agrees : (j : ℕ) → IsLive s.method_order j → (o : Option MethodRec) → slice_get s.methods j ≡ o
      → option_map_or (λ x. is_method nat_eq c meta selector (entry_of s.classes x)) o false
      ≡ option_map_or (λ k. option_map_or (same_key (record { class = k; meta = meta; selector = selector })) (option_map (λ (m : MethodRec). record { class = m.class; meta = m.meta; selector = m.tree.selector }) o) false) (named_in s.classes s.class_order c) false
  agrees j n None q = by (named_in s.classes s.class_order c)
    where
      by : (o : Option ℕ) → false ≡ option_map_or (λ (k : ℕ). false) o false
      by None = refl
      by (Some k) = refl
  agrees j n (Some m) q =
      and-assoc (is_named s.classes c m.class) (beq meta m.meta) (nat_eq selector m.tree.selector)
      ∙ ap (λ b. b && (beq meta m.meta && nat_eq selector m.tree.selector)) (class-agrees m.class (orderly.method_classes_live j m n q))
      ∙ by (named_in s.classes s.class_order c)
    where
      by : (o : Option ℕ) → (option_map_or (λ k. nat_eq k m.class) o false && (beq meta m.meta && nat_eq selector m.tree.selector))
          ≡ option_map_or (λ k. nat_eq k m.class && (beq meta m.meta && nat_eq selector m.tree.selector)) o false
      by None = refl
      by (Some k) = refl

  pub own-slot : own_method nat_eq (number_image s).methods c meta selector ≡ option_and_then (entry_at s) (own_slot s c meta selector)
  own-slot =
      sym (find-live (entry_of s.classes) (is_method nat_eq c meta selector) s.methods s.method_order)
      ∙ ap (option_and_then (entry_at s))
      (find-agree (λ j. option_map_or (λ x. is_method nat_eq c meta selector (entry_of s.classes x)) (slice_get s.methods j) false) (at (named_in s.classes s.class_order c)) s.method_order (λ j n. agrees j n (slice_get s.methods j) refl)
      ∙ by (named_in s.classes s.class_order c))
    where
      by : (o : Option ℕ) → find (at o) s.method_order ≡ option_and_then (λ k. method_in s.methods s.method_order (record { class = k; meta = meta; selector = selector })) o
      by None = find-never s.method_order
      by (Some k) = refl

  -- what the class itself has is a live method
  pub own-live : (j : ℕ) → own_slot s c meta selector ≡ Some j → (m : MethodRec) × (live_at s.methods s.method_order j ≡ Some m) × (slice_get s.methods j ≡ Some m)
  own-live j = by (named_in s.classes s.class_order c)
    where
      by : (o : Option ℕ) → option_and_then (λ k. method_in s.methods s.method_order (record { class = k; meta = meta; selector = selector })) o ≡ Some j → (m : MethodRec) × (live_at s.methods s.method_order j ≡ Some m) × (slice_get s.methods j ≡ Some m)
      by None e = absurd (cc)
      by (Some k) e =
          let l = (find-passes (is_method_in s.methods (record { class = k; meta = meta; selector = selector })) s.method_order j e).1 in
          let t = there s.methods j (orderly.method_order.below j l) in (t.0, live_at-live s.methods s.method_order j l ∙ t.1, t.1)

  -- whether there is one, and whether it is one of the user, can be asked of the slot
  pub none-same : is_none (own_method nat_eq (number_image s).methods c meta selector) ≡ is_none (own_slot s c meta selector)
  none-same = ap is_none own-slot ∙ by (own_slot s c meta selector) own-live
    where
      by : (o : Option ℕ) → ((j : ℕ) → o ≡ Some j → (m : MethodRec) × (live_at s.methods s.method_order j ≡ Some m) × (slice_get s.methods j ≡ Some m)) → is_none (option_and_then (entry_at s) o) ≡ is_none o
      by None h = refl
      by (Some j) h = ap (λ (o : Option MethodRec). is_none (option_map (entry_of s.classes) o)) (h j refl).2

  pub user-same : user_at s (own_slot s c meta selector) ≡ implements nat_eq (number_image s) c meta selector
  user-same = by (own_slot s c meta selector) own-live ∙ ap (λ (o : Option (EntryOf ℕ)). option_map_or (λ (m : EntryOf ℕ). not m.kernel) o false) (sym own-slot)
    where
      by : (o : Option ℕ) → ((j : ℕ) → o ≡ Some j → (m : MethodRec) × (live_at s.methods s.method_order j ≡ Some m) × (slice_get s.methods j ≡ Some m)) → user_at s o ≡ option_map_or (λ (m : EntryOf ℕ). not m.kernel) (option_and_then (entry_at s) o) false
      by None h = refl
      by (Some j) h =
          let t = h j refl in
          ap (λ (o : Option MethodRec). option_map_or (λ (m : MethodRec). not m.kernel) o false) t.1
          ∙ sym (ap (λ (o : Option MethodRec). option_map_or (λ (m : EntryOf ℕ). not m.kernel) (option_map (entry_of s.classes) o) false) t.2)

-- what is told of a method says whether it is one of the user
pub user-told : (x : Option MethodInfo) (o : Option MethodRec) → IsInfoOf x o → option_map_or (λ (i : MethodInfo). not i.kernel) x false ≡ option_map_or (λ (m : MethodRec). not m.kernel) o false
user-told None None t = refl
user-told None (Some m) t = absurd t
user-told (Some i) None t = absurd t
user-told (Some i) (Some m) t = ap not t.kernel
