-- The methods that classes themselves have, among the slots and in the image.
use Rattle.std.proofs.Common.{◌≡◌, ◌≢◌, ◌⊎◌, inl, inr, ℕ, suc, Bool, true, false, cond, ◌&&◌, ◌||◌, List, [], ◌∷◌, length, find, Option, Some, None, option_map, slice_get, refl, sym, ap, ◌∙◌, true≢false}
use Rattle.std.specs.Prelude.{nat_eq}
use Rattle.std.specs.Bool.{beq}
use Rattle.std.specs.List.{list_any}
use Rattle.std.specs.Option.{option_map_or, option_and_then, option_or}
use Rattle.std.proofs.Math.Bool.{and_assoc}
use Rattle.std.proofs.Math.Dec.{eqb}
use Rattle.std.proofs.lemmas.Bool.{and_parts, and_from}
use Rattle.std.proofs.lemmas.Bool.Decides.{eqb_tells}
use Rattle.image_model.specs.Upwards.{upwards, first_given}
use Rattle.image_model.specs.Lookup.{is_method, own_method}
use Rattle.class_table.specs.declared.record.ClassRec.{ClassRec}
use Rattle.class_table.specs.declared.record.MethodRec.{MethodRec}
use Rattle.class_table.specs.declared.tables.MethodKey.{MethodKey}
use Rattle.class_table.specs.Slots.{Slots}
use Rattle.class_table.specs.View.{class_name, entry_of, entry_at, live_at, number_image}
use Rattle.class_table.specs.Valid.{IsLive, IsOrderly}
use Rattle.class_table.specs.Finding.{is_named, named_in, only_live, above, chain_of, same_key, is_method_in, method_in, found_on_chain, class_class, found_as_object, found_by_lookup}
use Rattle.class_table.proofs.Live.{eqb-refl, eqb-equal, find-agree, find-passes, find-live, there}
use Rattle.class_questions.proofs.AnyLive.{live_at-live}
use Rattle.class_questions.proofs.ChainLaws.{named-slot}
use Rattle.method_questions.specs.Found.{bare_entry, opened_at, is_of, own_slot, named_slot}

-- equal sides, from their test and back
pub sides-equal : (a b : Bool) → beq a b ≡ true → a ≡ b
sides-equal true true e = refl
sides-equal true false e = absurd (true≢false (sym e))
sides-equal false true e = absurd (true≢false (sym e))
sides-equal false false e = refl

pub sides-same : (a : Bool) → beq a a ≡ true
sides-same true = refl
sides-same false = refl

-- nothing is found where no slot passes
pub find-none : (p : ℕ → Bool) (order : List ℕ) → find p order ≡ None → (k : ℕ) → IsLive order k → p k ≡ true → ⊥
find-none p [] e k l t = true≢false (sym l)
find-none p (j ∷ js) e k l t = by (p j) refl e (eqb k j) refl l (λ h m. find-none p js h k m t)
  where
    by : (b : Bool) → p j ≡ b → cond b (Some j) (find p js) ≡ None → (same : Bool) → eqb k j ≡ same → (same || list_any (nat_eq k) js) ≡ true → (find p js ≡ None → IsLive js k → ⊥) → ⊥
    by true q h same r m rest = cc
    by false q h true r m rest = true≢false (sym t ∙ (ap p (eqb-equal k j r) ∙ q))
    by false q h false r m rest = rest h m

-- what is given first is given of one of the items
first-given : {X Y : Type 0} (P : Y → Type 0) (give : X → Option Y) → ((x : X) (y : Y) → give x ≡ Some y → P y) → (xs : List X) (y : Y) → first_given give xs ≡ Some y → P y
first-given P give h [] y e = absurd (cc)
first-given P give h (x ∷ xs) y e = by (give x) refl e (first-given P give h xs y)
  where
    by : (o : Option _) → give x ≡ o → option_or o (first_given give xs) ≡ Some y → (first_given give xs ≡ Some y → P y) → P y
    by None q r rest = rest r
    by (Some z) q r rest = h x y (q ∙ r)

-- the key of a method
abbrev pub key : ℕ → Bool → ℕ → MethodKey
key k meta selector = record { class = k; meta = meta; selector = selector }

-- a slot with a method of a selector is live
pub record Holds (s : Slots) (selector y : ℕ) : Type 0 where
  pub live : IsLive s.method_order y
  pub method : MethodRec
  pub there : slice_get s.methods y ≡ Some method
  pub selects : nat_eq selector method.tree.selector ≡ true

-- what is found by a key
pub record HasKey (s : Slots) (k : ℕ) (meta : Bool) (selector y : ℕ) : Type 0 where
  pub holds : Holds s selector y
  pub class : holds.method.class ≡ k
  pub side : holds.method.meta ≡ meta

module _ (s : Slots) (selector : ℕ) where
  pub keyed : (k : ℕ) (meta : Bool) (y : ℕ) → method_in s.methods s.method_order (key k meta selector) ≡ Some y → HasKey s k meta selector y
  keyed k meta y e = let f = find-passes (is_method_in s.methods (key k meta selector)) s.method_order y e in by (slice_get s.methods y) refl f.0 f.1
    where
      by : (o : Option MethodRec) → slice_get s.methods y ≡ o → option_map_or (same_key (key k meta selector)) (option_map (λ (m : MethodRec). key m.class m.meta m.tree.selector) o) false ≡ true → IsLive s.method_order y → HasKey s k meta selector y
      by None q t l = absurd (true≢false (sym t))
      by (Some m) q t l =
          let a = and_parts (nat_eq k m.class) (beq meta m.meta && nat_eq selector m.tree.selector) t in
          let b = and_parts (beq meta m.meta) (nat_eq selector m.tree.selector) a.1 in
          record {
            holds = record { live = l; method = m; there = q; selects = b.1 };
            class = sym (eqb-equal k m.class a.0);
            side = sym (sides-equal meta m.meta b.0);
          }

  on-chain : (k : ℕ) (meta : Bool) (y : ℕ) → found_on_chain s k meta selector ≡ Some y → Holds s selector y
  on-chain k meta y e = first-given (Holds s selector) (λ c. method_in s.methods s.method_order (key c meta selector)) (λ c z q. (keyed c meta z q).holds) (chain_of s.classes s.class_order k) y e

  as-object : (y : ℕ) → found_as_object s selector ≡ Some y → Holds s selector y
  as-object y e = by (class_class s) e
    where
      by : (o : Option ℕ) → option_and_then (λ c. found_on_chain s c false selector) o ≡ Some y → Holds s selector y
      by None q = absurd (cc)
      by (Some c) q = on-chain c false y q

  -- what is found for a message
  pub looked-up : (k : ℕ) (meta : Bool) (y : ℕ) → found_by_lookup s k meta selector ≡ Some y → Holds s selector y
  looked-up k meta y e = by (only_live s.class_order k) e
    where
      second : (b : Bool) → cond b (found_as_object s selector) None ≡ Some y → Holds s selector y
      second true q = as-object y q
      second false q = absurd (cc)

      first : (c : ℕ) (o : Option ℕ) → found_on_chain s c meta selector ≡ o → option_or o (cond meta (found_as_object s selector) None) ≡ Some y → Holds s selector y
      first c None p q = second meta q
      first c (Some z) p q = on-chain c meta y (p ∙ q)

      by : (o : Option ℕ) → option_and_then (λ c. option_or (found_on_chain s c meta selector) (cond meta (found_as_object s selector) None)) o ≡ Some y → Holds s selector y
      by None q = absurd (cc)
      by (Some c) q = first c (found_on_chain s c meta selector) refl q

  -- a slot with a method of the class and the side has the key
  has-key : (k : ℕ) (meta : Bool) (y : ℕ) → Holds s selector y → is_of s k meta y ≡ true → is_method_in s.methods (key k meta selector) y ≡ true
  has-key k meta y h t =
      let at : live_at s.methods s.method_order y ≡ Some h.method = live_at-live s.methods s.method_order y h.live ∙ h.there in
      let u = and_parts (nat_eq h.method.class k) (beq h.method.meta meta) (sym (ap (λ o. option_map_or (λ (m : MethodRec). nat_eq m.class k && beq m.meta meta) o false) at) ∙ t) in
      ap (λ o. option_map_or (same_key (key k meta selector)) (option_map (λ (m : MethodRec). key m.class m.meta m.tree.selector) o) false) h.there
      ∙ and_from _ _ (ap (nat_eq k) (eqb-equal h.method.class k u.0) ∙ eqb-refl k)
      (and_from _ _ (ap (beq meta) (sides-equal h.method.meta meta u.1) ∙ sides-same meta) h.selects)

  -- and the other way
  is-of : (k : ℕ) (meta : Bool) (y : ℕ) → HasKey s k meta selector y → is_of s k meta y ≡ true
  is-of k meta y h =
      ap (λ o. option_map_or (λ (m : MethodRec). nat_eq m.class k && beq m.meta meta) o false) (live_at-live s.methods s.method_order y h.holds.live ∙ h.holds.there)
      ∙ and_from _ _ (ap (λ n. nat_eq n k) h.class ∙ eqb-refl k) (ap (λ b. beq b meta) h.side ∙ sides-same meta)

  -- an order with a live slot
  not-empty : (order : List ℕ) (k : ℕ) → IsLive order k → (n : ℕ) × (length order ≡ suc n)
  not-empty [] k l = absurd (true≢false (sym l))
  not-empty (j ∷ js) k l = (length js, refl)

  -- the first method on the chain of a live class is its own, if it has one
  own-first : (k : ℕ) (meta : Bool) → IsLive s.class_order k → (y : ℕ) → method_in s.methods s.method_order (key k meta selector) ≡ Some y → found_by_lookup s k meta selector ≡ Some y
  own-first k meta l y e =
      ap (λ b. option_and_then (λ c. option_or (found_on_chain s c meta selector) (cond meta (found_as_object s selector) None)) (cond b (Some k) None)) l
      ∙ ap (λ o. option_or o (cond meta (found_as_object s selector) None)) on
    where
      on : found_on_chain s k meta selector ≡ Some y
      on =
          let n = not-empty s.class_order k l in
          ap (λ b. first_given (λ c. method_in s.methods s.method_order (key c meta selector)) (upwards (above s.classes s.class_order) (length s.class_order) (cond b (Some k) None))) l
          ∙ ap (λ (m : ℕ). first_given (λ c. method_in s.methods s.method_order (key c meta selector)) (upwards (above s.classes s.class_order) m (Some k))) n.1
          ∙ ap (λ o. option_or o (first_given (λ c. method_in s.methods s.method_order (key c meta selector)) (upwards (above s.classes s.class_order) n.0 (above s.classes s.class_order k)))) e

  -- so the look-up tells the method of a live class
  pub own-keyed : (k : ℕ) (meta : Bool) → IsLive s.class_order k → own_slot s k meta selector ≡ method_in s.methods s.method_order (key k meta selector)
  own-keyed k meta l = by (method_in s.methods s.method_order (key k meta selector)) refl
    where
      none : method_in s.methods s.method_order (key k meta selector) ≡ None → (y : ℕ) → found_by_lookup s k meta selector ≡ Some y → (b : Bool) → is_of s k meta y ≡ b → cond b (Some y) None ≡ None
      none e y q true t = absurd (find-none (is_method_in s.methods (key k meta selector)) s.method_order e y (looked-up k meta y q).live (has-key k meta y (looked-up k meta y q) t))
      none e y q false t = refl

      found : method_in s.methods s.method_order (key k meta selector) ≡ None → (o : Option ℕ) → found_by_lookup s k meta selector ≡ o → option_and_then (λ y. cond (is_of s k meta y) (Some y) None) o ≡ None
      found e None q = refl
      found e (Some y) q = none e y q (is_of s k meta y) refl

      by : (o : Option ℕ) → method_in s.methods s.method_order (key k meta selector) ≡ o → own_slot s k meta selector ≡ o
      by None e = found e (found_by_lookup s k meta selector) refl
      by (Some y) e =
          ap (option_and_then (λ z. cond (is_of s k meta z) (Some z) None)) (own-first k meta l y e)
          ∙ ap (λ b. cond b (Some y) None) (is-of k meta y (keyed k meta y e))

module _ (s : Slots) (orderly : IsOrderly s) (meta : Bool) (selector : ℕ) where
  -- the class of a live method is a live class exactly where it has its name
  class-agrees : (k : ℕ) (c : ClassRec) (j : ℕ) (m : MethodRec) → IsLive s.class_order k → slice_get s.classes k ≡ Some c → IsLive s.method_order j → slice_get s.methods j ≡ Some m
      → option_map_or (nat_eq c.name) (class_name s.classes m.class) false ≡ nat_eq k m.class
  class-agrees k c j m l e n q =
      let live : IsLive s.class_order m.class = orderly.method_classes_live j m n q in
      let d = there s.classes m.class (orderly.class_order.below m.class live) in
      ap (λ o. option_map_or (nat_eq c.name) (option_map (λ (x : ClassRec). x.name) o) false) d.1 ∙ by d.0 d.1 live (eqb_tells c.name d.0.name) (eqb_tells k m.class)
    where
      by : (d : ClassRec) → slice_get s.classes m.class ≡ Some d → IsLive s.class_order m.class → ((eqb c.name d.name ≡ true) × (c.name ≡ d.name)) ⊎ ((eqb c.name d.name ≡ false) × (c.name ≢ d.name)) → ((eqb k m.class ≡ true) × (k ≡ m.class)) ⊎ ((eqb k m.class ≡ false) × (k ≢ m.class))
          → nat_eq c.name d.name ≡ nat_eq k m.class
      by d t live (inl a) (inl b) = a.0 ∙ sym b.0
      by d t live (inl a) (inr b) =
          absurd (b.1 (orderly.class_names_distinct k m.class c.name l live (ap (option_map (λ (x : ClassRec). x.name)) e) (ap (option_map (λ (x : ClassRec). x.name)) t ∙ ap Some (sym a.1))))
      by d t live (inr a) (inl b) = let same : Some c ≡ Some d = sym e ∙ ap (slice_get s.classes) b.1 ∙ t in let is : c ≡ d = cc in absurd (a.1 (ap (λ (x : ClassRec). x.name) is))
      by d t live (inr a) (inr b) = a.0 ∙ sym b.0

  -- whether a live slot holds the method of a live class
  pub method-test : (k : ℕ) (c : ClassRec) → IsLive s.class_order k → slice_get s.classes k ≡ Some c → (j : ℕ) → IsLive s.method_order j → (o : Option MethodRec) → slice_get s.methods j ≡ o
      → option_map_or (λ x. is_method nat_eq c.name meta selector (entry_of s.classes x)) o false
      ≡ option_map_or (same_key (key k meta selector)) (option_map (λ (m : MethodRec). key m.class m.meta m.tree.selector) o) false
  method-test k c l e j n None q = refl
  method-test k c l e j n (Some m) q = and_assoc (option_map_or (nat_eq c.name) (class_name s.classes m.class) false) (beq meta m.meta) (nat_eq selector m.tree.selector) ∙ ap (λ b. b && (beq meta m.meta && nat_eq selector m.tree.selector)) (class-agrees k c j m l e n q)

  -- the method of a live class in the image
  pub own-method : (k : ℕ) (c : ClassRec) → IsLive s.class_order k → slice_get s.classes k ≡ Some c
      → option_and_then (entry_at s) (own_slot s k meta selector) ≡ own_method nat_eq (number_image s).methods c.name meta selector
  own-method k c l e =
      ap (option_and_then (entry_at s)) (own-keyed s selector k meta l)
      ∙ ap (option_and_then (entry_at s)) (find-agree (is_method_in s.methods (key k meta selector)) (λ j. option_map_or (λ x. is_method nat_eq c.name meta selector (entry_of s.classes x)) (slice_get s.methods j) false) s.method_order (λ j n. sym (method-test k c l e j n (slice_get s.methods j) refl)))
      ∙ find-live (entry_of s.classes) (is_method nat_eq c.name meta selector) s.methods s.method_order

  -- a class that is not there has no method
  unnamed : (n : ℕ) → named_in s.classes s.class_order n ≡ None → own_method nat_eq (number_image s).methods n meta selector ≡ None
  unnamed n e =
      sym (find-live (entry_of s.classes) (is_method nat_eq n meta selector) s.methods s.method_order)
      ∙ ap (option_and_then (entry_at s)) (nothing s.method_order (λ j l. fails j l (slice_get s.methods j) refl))
    where
      test : ℕ → Bool
      test j = option_map_or (λ x. is_method nat_eq n meta selector (entry_of s.classes x)) (slice_get s.methods j) false

      nothing : (order : List ℕ) → ((j : ℕ) → IsLive order j → test j ≡ false) → find test order ≡ None
      nothing order h = find-agree test (λ j. false) order h ∙ never order
        where
          never : (order : List ℕ) → find (λ (j : ℕ). false) order ≡ None
          never [] = refl
          never (j ∷ js) = never js

      named : (m : MethodRec) → IsLive s.class_order m.class → (o : Option ℕ) → class_name s.classes m.class ≡ o → option_map_or (nat_eq n) o false ≡ false
      named m l None q = refl
      named m l (Some x) q = not-named (nat_eq n x) refl
        where
          not-named : (b : Bool) → nat_eq n x ≡ b → b ≡ false
          not-named false t = refl
          not-named true t = absurd (find-none (is_named s.classes n) s.class_order e m.class l (ap (λ o. option_map_or (nat_eq n) o false) q ∙ t))

      fails : (j : ℕ) → IsLive s.method_order j → (o : Option MethodRec) → slice_get s.methods j ≡ o → option_map_or (λ x. is_method nat_eq n meta selector (entry_of s.classes x)) o false ≡ false
      fails j l None q = refl
      fails j l (Some m) q = ap (λ b. (b && beq meta m.meta) && nat_eq selector m.tree.selector) (named m (orderly.method_classes_live j m l q) (class_name s.classes m.class) refl)

  -- the method of these names
  pub named-entry : (n : ℕ) → option_and_then (entry_at s) (named_slot s n meta selector) ≡ own_method nat_eq (number_image s).methods n meta selector
  named-entry n = by (named_in s.classes s.class_order n) refl
    where
      same-name : (k : ℕ) (c : ClassRec) → slice_get s.classes k ≡ Some c → class_name s.classes k ≡ Some n → c.name ≡ n
      same-name k c q h = let both : Some c.name ≡ Some n = sym (ap (option_map (λ (x : ClassRec). x.name)) q) ∙ h in cc

      by : (o : Option ℕ) → named_in s.classes s.class_order n ≡ o → option_and_then (entry_at s) (option_and_then (λ class. own_slot s class meta selector) o) ≡ own_method nat_eq (number_image s).methods n meta selector
      by None e = sym (unnamed n e)
      by (Some k) e =
          let h = named-slot s.classes s.class_order n k e in
          let c = there s.classes k (orderly.class_order.below k h.0) in
          own-method k c.0 h.0 c.1 ∙ ap (λ x. own_method nat_eq (number_image s).methods x meta selector) (same-name k c.0 c.1 h.1)

  -- what is read of the slot of a method that is found, live or not
  pub own-live : (o : Option ℕ) → ((y : ℕ) → o ≡ Some y → IsLive s.method_order y) → option_and_then (opened_at s) o ≡ option_map bare_entry (option_and_then (entry_at s) o)
  own-live None h = refl
  own-live (Some y) h = ap (option_map (λ m. bare_entry (entry_of s.classes m))) (live_at-live s.methods s.method_order y (h y refl)) ∙ by (slice_get s.methods y)
    where
      by : (o : Option MethodRec) → option_map (λ m. bare_entry (entry_of s.classes m)) o ≡ option_map bare_entry (option_map (entry_of s.classes) o)
      by None = refl
      by (Some m) = refl

  -- the slot of the method of a class holds it
  pub own-holds : (k y : ℕ) → own_slot s k meta selector ≡ Some y → Holds s selector y
  own-holds k y e = by (found_by_lookup s k meta selector) refl e
    where
      by : (o : Option ℕ) → found_by_lookup s k meta selector ≡ o → option_and_then (λ z. cond (is_of s k meta z) (Some z) None) o ≡ Some y → Holds s selector y
      by None q h = absurd (cc)
      by (Some z) q h = at (is_of s k meta z) h
        where
          at : (b : Bool) → cond b (Some z) None ≡ Some y → Holds s selector y
          at true r = let same : z ≡ y = cc in looked-up s selector k meta y (q ∙ ap Some same)
          at false r = absurd (cc)

  -- the same of the method of these names
  pub named-holds : (n y : ℕ) → named_slot s n meta selector ≡ Some y → Holds s selector y
  named-holds n y e = by (named_in s.classes s.class_order n) e
    where
      by : (o : Option ℕ) → option_and_then (λ class. own_slot s class meta selector) o ≡ Some y → Holds s selector y
      by None q = absurd (cc)
      by (Some k) q = own-holds k y q

  -- what is read of a slot that holds a method
  pub opened-holds : (y : ℕ) (h : Holds s selector y) → opened_at s y ≡ Some (bare_entry (entry_of s.classes h.method))
  opened-holds y h = ap (option_map (λ m. bare_entry (entry_of s.classes m))) (live_at-live s.methods s.method_order y h.live ∙ h.there)

  pub opened-named : (n : ℕ) → option_and_then (opened_at s) (named_slot s n meta selector) ≡ option_map bare_entry (own_method nat_eq (number_image s).methods n meta selector)
  opened-named n = own-live (named_slot s n meta selector) (λ y e. (named-holds n y e).live) ∙ ap (option_map bare_entry) (named-entry n)
