-- Tables that know the live slots, through the changes of an image.
use Rattle.std.proofs.Common.{◌≡◌, ◌≢◌, ◌⊎◌, inl, inr, ℕ, ◌+◌, ◌<◌, ◌≤◌, Bool, true, false, cond, ◌||◌, if◌then◌else◌, List, [], ◌∷◌, ◌++◌, length, take, get_or, Option, Some, None, option_map, slice_get, refl, sym, ap, ◌∙◌, arith}
use Rattle.std.specs.Prelude.{nat_eq, slice_set}
use Rattle.std.specs.List.{list_any}
use Rattle.std.specs.Option.{option_and_then}
use Rattle.std.proofs.Math.Dec.{eqb}
use Rattle.std.proofs.lemmas.Bool.Decides.{eqb_tells}
use Rattle.std.proofs.lemmas.Option.{slice_get_cases}
use Rattle.std.specs.HashMap.{get}
use Rattle.class_table.specs.declared.record.ClassRec.{ClassRec}
use Rattle.class_table.specs.declared.record.MethodRec.{MethodRec}
use Rattle.class_table.specs.declared.tables.MethodKey.{MethodKey}
use Rattle.class_table.specs.declared.tables.ClassTable.{ClassTable}
use Rattle.class_table.specs.declared.tables.MethodTable.{MethodTable}
use Rattle.class_table.specs.View.{class_name}
use Rattle.class_table.specs.Order.{without, put_at}
use Rattle.class_table.specs.Finding.{is_named, named_in, same_key, key_in, is_method_in, method_in}
use Rattle.class_table.specs.Tables.{key_of, known_at, IsAmongAnd, HoldsSlots, key_with, IsPlaced, KnowsClasses, KnowsClassesWith, KnowsMethods, KnowsMethodsWith}
use Rattle.class_table.proofs.Live.{or_true, eqb-equal}
use Rattle.class_table.proofs.OrderLemmas.{get-set_same, get-set_other, get-push, length-push, any-push, any-insert}
use Rattle.class_table.proofs.TableLemmas.{same_key_tells}
use Rattle.class_table.proofs.Held.{None-Some, found, found-excepted, entered, held-on, passed, filled}

-- what a search for classes finds
pub class_found : (at : ℕ → Option ℕ) (classes : List ClassRec) (order : List ℕ) → HoldsSlots at (class_name classes) order None → (name : ℕ)
    → option_and_then (known_at (is_named classes name) order) (at name) ≡ named_in classes order name
class_found at classes order holds name = found nat_eq eqb_tells (class_name classes) at order None holds name refl

-- a class is entered
pub class_entered : (at : ℕ → Option ℕ) (classes : List ClassRec) (order : List ℕ) → HoldsSlots at (class_name classes) order None → (slot name : ℕ)
    → ((k : ℕ) → option_and_then (known_at (is_named classes name) order) (at name) ≡ Some k → k ≡ slot)
    → (after : ℕ → Option ℕ) → ((p : ℕ) → after p ≡ cond (nat_eq name p) (Some slot) (at p))
    → (later : List ℕ) → IsAmongAnd later order slot → HoldsSlots after (key_with (class_name classes) slot name) later None
class_entered at classes order holds slot name free after put =
    entered nat_eq eqb_tells (class_name classes) at order None holds name slot (λ k e. None-Some k e) free after put

-- what a search for methods finds
pub method_found : (at : MethodKey → Option ℕ) (methods : List MethodRec) (order : List ℕ) (lent : Option ℕ) → HoldsSlots at (key_in methods) order lent → (key : MethodKey)
    → option_and_then (known_at (is_method_in methods key) order) lent ≡ None
    → option_and_then (known_at (is_method_in methods key) order) (at key) ≡ method_in methods order key
method_found at methods order lent holds key none = found same_key same_key_tells (key_in methods) at order lent holds key none

pub lent_found : (at : MethodKey → Option ℕ) (methods : List MethodRec) (order : List ℕ) (lent : Option ℕ) → HoldsSlots at (key_in methods) order lent → (key : MethodKey)
    → (s : ℕ) → option_and_then (known_at (is_method_in methods key) order) lent ≡ Some s
    → ((k : ℕ) → option_and_then (known_at (is_method_in methods key) order) (at key) ≡ Some k → k ≡ s)
    → Some s ≡ method_in methods order key
lent_found at methods order lent holds key = found-excepted same_key same_key_tells (key_in methods) at order lent holds key

-- a method is entered
pub method_entered : (at : MethodKey → Option ℕ) (methods : List MethodRec) (order : List ℕ) (lent : Option ℕ) → HoldsSlots at (key_in methods) order lent → (slot : ℕ) (key : MethodKey)
    → ((k : ℕ) → lent ≡ Some k → k ≡ slot)
    → ((k : ℕ) → option_and_then (known_at (is_method_in methods key) order) (at key) ≡ Some k → k ≡ slot)
    → (after : MethodKey → Option ℕ) → ((p : MethodKey) → after p ≡ cond (same_key key p) (Some slot) (at p))
    → (later : List ℕ) → IsAmongAnd later order slot → HoldsSlots after (key_with (key_in methods) slot key) later None
method_entered at methods order lent holds slot key only free after put =
    entered same_key same_key_tells (key_in methods) at order lent holds key slot only free after put

-- what is in an order without a slot is in the order
any-of-without : (j k : ℕ) (xs : List ℕ) → list_any (nat_eq j) (without k xs) ≡ true → list_any (nat_eq j) xs ≡ true
any-of-without j k [] h = h
any-of-without j k (x ∷ xs) h = by (nat_eq k x) (any-of-without j k xs) h
  where
    step : (c : Bool) → (list_any (nat_eq j) (without k xs) ≡ true → list_any (nat_eq j) xs ≡ true) → (c || list_any (nat_eq j) (without k xs)) ≡ true → (c || list_any (nat_eq j) xs) ≡ true
    step true rest t = refl
    step false rest t = rest t

    here : (c : Bool) → list_any (nat_eq j) xs ≡ true → (c || list_any (nat_eq j) xs) ≡ true
    here true t = refl
    here false t = t

    by : (b : Bool) → (list_any (nat_eq j) (without k xs) ≡ true → list_any (nat_eq j) xs ≡ true) → list_any (nat_eq j) (if b then xs else x ∷ without k xs) ≡ true → (nat_eq j x || list_any (nat_eq j) xs) ≡ true
    by true rest t = here (nat_eq j x) t
    by false rest t = step (nat_eq j x) rest t

-- a slot at another place, or at none
pub placed_at : (slot : ℕ) (place : Option ℕ) (order : List ℕ) → IsPlaced (put_at slot place (without slot order)) order slot place
placed_at slot None order = record { among = λ k l _. any-of-without k slot order l; out = λ _ k l. any-of-without k slot order l }
placed_at slot (Some p) order = record { among = λ k l ne. by k ne (or_true (nat_eq k slot) (list_any (nat_eq k) (without slot order)) (sym (any-insert slot (nat_eq k) (without slot order) p) ∙ l)); out = λ e. absurd (cc) }
  where
    by : (k : ℕ) → (k ≢ slot) → (nat_eq k slot ≡ true) ⊎ (list_any (nat_eq k) (without slot order) ≡ true) → list_any (nat_eq k) order ≡ true
    by k ne (inl s) = absurd (ne (eqb-equal k slot s))
    by k ne (inr s) = any-of-without k slot order s

module _ {X K : Type 0} (key : X → K) where
  -- the keys of slots of which one is written
  keys-set : (xs : List X) (slot : ℕ) (x : X) → slot < length xs → (k : ℕ) → option_map key (slice_get (slice_set xs slot x) k) ≡ key_with (λ j. option_map key (slice_get xs j)) slot (key x) k
  keys-set xs slot x h k = by (eqb_tells k slot)
    where
      by : ((eqb k slot ≡ true) × (k ≡ slot)) ⊎ ((eqb k slot ≡ false) × (k ≢ slot)) → option_map key (slice_get (slice_set xs slot x) k) ≡ (if nat_eq k slot then Some (key x) else option_map key (slice_get xs k))
      by (inl s) = ap (option_map key) (ap (slice_get (slice_set xs slot x)) s.1 ∙ get-set_same xs slot x h) ∙ sym (ap (λ b. if b then Some (key x) else option_map key (slice_get xs k)) s.0)
      by (inr s) = ap (option_map key) (get-set_other xs slot k x (λ e. s.1 (sym e))) ∙ sym (ap (λ b. if b then Some (key x) else option_map key (slice_get xs k)) s.0)

  -- the keys of slots with a new one
  keys-push : (xs : List X) (slot : ℕ) (x : X) → slot ≡ length xs → (k : ℕ) → option_map key (slice_get (xs ++ x ∷ []) k) ≡ key_with (λ j. option_map key (slice_get xs j)) slot (key x) k
  keys-push xs slot x at k = by (eqb_tells k slot)
    where
      far : (k ≢ slot) → slice_get (xs ++ x ∷ []) k ≡ slice_get xs k
      far ne = of (slice_get_cases xs k).1 (slice_get_cases (xs ++ x ∷ []) k).1
        where
          of : ((y : X) × (k < length xs) × (slice_get xs k ≡ Some y) × (get_or xs k y ≡ y)) ⊎ ((length xs ≤ k) × (slice_get xs k ≡ None))
              → ((y : X) × (k < length (xs ++ x ∷ [])) × (slice_get (xs ++ x ∷ []) k ≡ Some y) × (get_or (xs ++ x ∷ []) k y ≡ y)) ⊎ ((length (xs ++ x ∷ []) ≤ k) × (slice_get (xs ++ x ∷ []) k ≡ None))
              → slice_get (xs ++ x ∷ []) k ≡ slice_get xs k
          of (inl t) u = (get-push xs k x).0 t.1
          of (inr t) (inr u) = u.1 ∙ sym t.1
          of (inr t) (inl u) = absurd (ne (omega (arith, t.0, u.1, at, length-push xs x)))

      by : ((eqb k slot ≡ true) × (k ≡ slot)) ⊎ ((eqb k slot ≡ false) × (k ≢ slot)) → option_map key (slice_get (xs ++ x ∷ []) k) ≡ (if nat_eq k slot then Some (key x) else option_map key (slice_get xs k))
      by (inl s) = ap (option_map key) ((get-push xs k x).1 (s.1 ∙ at)) ∙ sym (ap (λ b. if b then Some (key x) else option_map key (slice_get xs k)) s.0)
      by (inr s) = ap (option_map key) (far s.1) ∙ sym (ap (λ b. if b then Some (key x) else option_map key (slice_get xs k)) s.0)

  -- slots that are held before one is new are held with the number of the new one in the order
  held-before : (at : K → Option ℕ) (xs : List X) (order : List ℕ) (slot : ℕ) (except : Option ℕ) → slot ≡ length xs → HoldsSlots at (λ j. option_map key (slice_get xs j)) order except
      → HoldsSlots at (λ j. option_map key (slice_get xs j)) (order ++ slot ∷ []) except
  held-before at xs order slot except e holds k q l x m = by (or_true (nat_eq k slot) (list_any (nat_eq k) order) (sym (any-push (nat_eq k) order slot) ∙ l))
    where
      none : (k ≡ slot) → ⊥
      none s = of (slice_get_cases xs k).1
        where
          of : ((y : X) × (k < length xs) × (slice_get xs k ≡ Some y) × (get_or xs k y ≡ y)) ⊎ ((length xs ≤ k) × (slice_get xs k ≡ None)) → ⊥
          of (inl t) = absurd (omega (arith, t.1, s, e))
          of (inr t) = None-Some q (sym (ap (option_map key) t.1) ∙ m)

      by : (nat_eq k slot ≡ true) ⊎ (list_any (nat_eq k) order ≡ true) → at q ≡ Some k
      by (inl s) = absurd (none (eqb-equal k slot s))
      by (inr s) = holds k q s x m

module _ (t : ClassTable) (classes : List ClassRec) (order : List ℕ) (id : ℕ) where
  pub swapped_classes : (rec : ClassRec) → id < length classes → (t.ready ≡ true → HoldsSlots (get nat_eq t.slots) (key_with (class_name classes) id rec.name) order None)
      → KnowsClasses t (slice_set classes id rec) order
  swapped_classes rec h holds r = held-on (get nat_eq t.slots) (key_with (class_name classes) id rec.name) (class_name (slice_set classes id rec)) order order None None (holds r) (λ k l x. (l, x, keys-set (λ (c : ClassRec). c.name) classes id rec h k))

  pub before_classes : id ≡ length classes → KnowsClasses t classes order → KnowsClasses t classes (order ++ id ∷ [])
  before_classes e knows r = held-before (λ (c : ClassRec). c.name) (get nat_eq t.slots) classes order id None e (knows r)

  pub added_classes : (rec : ClassRec) → id ≡ length classes → KnowsClassesWith t classes order id rec.name → KnowsClasses t (classes ++ rec ∷ []) order
  added_classes rec e knows r = held-on (get nat_eq t.slots) (key_with (class_name classes) id rec.name) (class_name (classes ++ rec ∷ [])) order order None None (knows r order (λ k l _. l)) (λ k l x. (l, x, keys-push (λ (c : ClassRec). c.name) classes id rec e k))

module _ (t : MethodTable) (methods : List MethodRec) (order : List ℕ) (slot : ℕ) where
  pub swapped_methods : (rec : MethodRec) → slot < length methods → (t.ready ≡ true → HoldsSlots (get same_key t.slots) (key_with (key_in methods) slot (key_of rec)) order None)
      → KnowsMethods t (slice_set methods slot rec) order
  swapped_methods rec h holds r = held-on (get same_key t.slots) (key_with (key_in methods) slot (key_of rec)) (key_in (slice_set methods slot rec)) order order None t.lent (holds r) (λ k l x. (l, (λ e. None-Some k e), keys-set key_of methods slot rec h k))

  pub before_methods : slot ≡ length methods → KnowsMethods t methods order → KnowsMethods t methods (order ++ slot ∷ [])
  before_methods e knows r = held-before key_of (get same_key t.slots) methods order slot t.lent e (knows r)

  pub added_methods : (rec : MethodRec) → slot ≡ length methods → KnowsMethodsWith t methods order slot (key_of rec) → KnowsMethods t (methods ++ rec ∷ []) order
  added_methods rec e knows r = held-on (get same_key t.slots) (key_with (key_in methods) slot (key_of rec)) (key_in (methods ++ rec ∷ [])) order order None t.lent (knows r order (λ k l _. l)) (λ k l x. (l, (λ n. None-Some k n), keys-push key_of methods slot rec e k))

-- the tables made from live slots one by one
module _ (classes : List ClassRec) (order : List ℕ) (i s : ℕ) (h : i < length order) (r : s ≡ get_or order i s) (at : ℕ → Option ℕ) (holds : HoldsSlots at (class_name classes) (take i order) None) where
  pub class_passed : class_name classes s ≡ None → HoldsSlots at (class_name classes) (take (i + 1) order) None
  class_passed = passed nat_eq eqb_tells (class_name classes) order i s h r at holds

  pub class_filled : (q : ℕ) → class_name classes s ≡ Some q → at q ≡ None → (after : ℕ → Option ℕ) → ((p : ℕ) → after p ≡ cond (nat_eq q p) (Some s) (at p)) → HoldsSlots after (class_name classes) (take (i + 1) order) None
  class_filled = filled nat_eq eqb_tells (class_name classes) order i s h r at holds

module _ (methods : List MethodRec) (order : List ℕ) (i s : ℕ) (h : i < length order) (r : s ≡ get_or order i s) (at : MethodKey → Option ℕ) (holds : HoldsSlots at (key_in methods) (take i order) None) where
  pub method_passed : key_in methods s ≡ None → HoldsSlots at (key_in methods) (take (i + 1) order) None
  method_passed = passed same_key same_key_tells (key_in methods) order i s h r at holds

  pub method_filled : (q : MethodKey) → key_in methods s ≡ Some q → at q ≡ None → (after : MethodKey → Option ℕ) → ((p : MethodKey) → after p ≡ cond (same_key q p) (Some s) (at p)) → HoldsSlots after (key_in methods) (take (i + 1) order) None
  method_filled = filled same_key same_key_tells (key_in methods) order i s h r at holds

module _ (t : MethodTable) (methods : List MethodRec) (order : List ℕ) (slot : ℕ) where
  -- a method is written whose key stays
  pub sourced_methods : (old new : MethodRec) → slice_get methods slot ≡ Some old → key_of new ≡ key_of old → KnowsMethods t methods order → KnowsMethods t (slice_set methods slot new) order
  sourced_methods old new there same knows r = held-on (get same_key t.slots) (key_in methods) (key_in (slice_set methods slot new)) order order t.lent t.lent (knows r) (λ k l x. (l, x, by k (eqb_tells k slot)))
    where
      within : slot < length methods
      within = of (slice_get_cases methods slot).1
        where
          of : ((y : MethodRec) × (slot < length methods) × (slice_get methods slot ≡ Some y) × (get_or methods slot y ≡ y)) ⊎ ((length methods ≤ slot) × (slice_get methods slot ≡ None)) → slot < length methods
          of (inl u) = u.1
          of (inr u) = None-Some old (sym u.1 ∙ there)

      by : (k : ℕ) → ((eqb k slot ≡ true) × (k ≡ slot)) ⊎ ((eqb k slot ≡ false) × (k ≢ slot)) → key_in (slice_set methods slot new) k ≡ key_in methods k
      by k (inl s) = ap (λ j. key_in (slice_set methods slot new) j) s.1 ∙ ap (option_map key_of) (get-set_same methods slot new within) ∙ ap Some same ∙ sym (ap (option_map key_of) there) ∙ ap (λ j. key_in methods j) (sym s.1)
      by k (inr s) = ap (option_map key_of) (get-set_other methods slot k new (λ e. s.1 (sym e)))

  -- a lent method comes back
  pub lent_methods : (new : MethodRec) → (t.ready ≡ true → HoldsSlots (get same_key t.slots) (key_in methods) order (Some slot) × (t.lent ≡ Some slot)) → KnowsMethods t (slice_set methods slot new) order
  lent_methods new lent r =
      held-on (get same_key t.slots) (key_in methods) (key_in (slice_set methods slot new)) order order (Some slot) t.lent (lent r).0
      (λ k l x. (l, (λ e. x ((lent r).1 ∙ e)), ap (option_map key_of) (get-set_other methods slot k new (λ e. x ((lent r).1 ∙ ap Some e)))))
