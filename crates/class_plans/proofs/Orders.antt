-- Orders of slots without some of them.
use Rattle.std.proofs.Common.{◌≡◌, ℕ, ◌&&◌, Bool, true, false, cond, List, [], ◌∷◌, map, filter, Option, None, Some, slice_get, refl, sym, ap, ◌∙◌, true≢false}
use Rattle.std.specs.Prelude.{if◌then◌else◌, not}
use Rattle.std.specs.List.{list_any, cons_option}
use Rattle.std.proofs.Math.Dec.{eqb}
use Rattle.std.proofs.lemmas.Bool.{ne_eqb}
use Rattle.std.proofs.lemmas.Map.Views.{any-filter_same}
use Rattle.class_table.specs.Order.{without, Distinct}
use Rattle.class_table.specs.View.{live}
use Rattle.class_table.specs.Valid.{IsLive}
use Rattle.class_table.proofs.Live.{eqb-refl, eqb-equal, IsLive-first, IsLive-rest}
use Rattle.image_laws.proofs.Orders.{or_false}

-- a number stands among those that pass a test where it passes and stands in the order
live-filtered : (p : ℕ → Bool) (k : ℕ) (order : List ℕ) → list_any (eqb k) (filter p order) ≡ (p k && list_any (eqb k) order)
live-filtered p k order = any-filter_same (eqb k) p (p k) (λ j e. ap p (sym (eqb-equal k j e))) order

-- the order without these slots, one after the other
abbrev pub without_all : List ℕ → List ℕ → List ℕ
without_all [] order = order
without_all (k ∷ ks) order = without_all ks (without k order)

-- a number that is none of them stays
without_all-other : (ks : List ℕ) (x : ℕ) (xs : List ℕ) → list_any (eqb x) ks ≡ false → without_all ks (x ∷ xs) ≡ x ∷ without_all ks xs
without_all-other [] x xs h = refl
without_all-other (k ∷ ks) x xs h =
    let both = or_false (eqb x k) (list_any (eqb x) ks) h in
    ap (λ (b : Bool). without_all ks (if b then xs else x ∷ without k xs)) (ne_eqb k x (λ e. true≢false (sym (eqb-refl x) ∙ ap (eqb x) (sym e) ∙ both.0))) ∙ without_all-other ks x (without k xs) both.1

-- what is not in a list is not in what is kept of it
not-kept : (p : ℕ → Bool) (x : ℕ) (xs : List ℕ) → list_any (eqb x) xs ≡ false → list_any (eqb x) (filter p xs) ≡ false
not-kept p x xs h = live-filtered p x xs ∙ ap (λ (b : Bool). p x && b) h ∙ by (p x)
  where
    by : (b : Bool) → (b && false) ≡ false
    by true = refl
    by false = refl

-- the numbers that pass a test are taken out one after the other
pub without_all-filter : (p : ℕ → Bool) (xs : List ℕ) → Distinct xs → without_all (filter p xs) xs ≡ filter (λ x. not (p x)) xs
without_all-filter p [] d = refl
without_all-filter p (x ∷ xs) d = by (p x) (without_all-filter p xs d.1)
  where
    by : (b : Bool) → without_all (filter p xs) xs ≡ filter (λ y. not (p y)) xs → without_all (cond b (x ∷ filter p xs) (filter p xs)) (x ∷ xs) ≡ cond (not b) (x ∷ filter (λ y. not (p y)) xs) (filter (λ y. not (p y)) xs)
    by true rest = ap (λ (b : Bool). without_all (filter p xs) (if b then xs else x ∷ without x xs)) (eqb-refl x) ∙ rest
    by false rest = without_all-other (filter p xs) x xs (not-kept p x xs d.0) ∙ ap (λ (ys : List ℕ). x ∷ ys) rest

-- nothing is the number
all-others : (k : ℕ) (xs : List ℕ) → list_any (eqb k) xs ≡ false → filter (λ x. not (eqb k x)) xs ≡ xs
all-others k [] h = refl
all-others k (x ∷ xs) h =
    let both = or_false (eqb k x) (list_any (eqb k) xs) h in
    ap (λ (b : Bool). cond (not b) (x ∷ filter (λ y. not (eqb k y)) xs) (filter (λ y. not (eqb k y)) xs)) both.0 ∙ ap (λ (ys : List ℕ). x ∷ ys) (all-others k xs both.1)

-- one number is taken out
pub without-filter : (k : ℕ) (xs : List ℕ) → Distinct xs → without k xs ≡ filter (λ x. not (eqb k x)) xs
without-filter k [] d = refl
without-filter k (x ∷ xs) d = by (eqb k x) refl (without-filter k xs d.1)
  where
    by : (b : Bool) → eqb k x ≡ b → without k xs ≡ filter (λ y. not (eqb k y)) xs → (if b then xs else x ∷ without k xs) ≡ cond (not b) (x ∷ filter (λ y. not (eqb k y)) xs) (filter (λ y. not (eqb k y)) xs)
    by true e rest = sym (all-others k xs (ap (λ (m : ℕ). list_any (eqb m) xs) (eqb-equal k x e) ∙ d.0))
    by false e rest = ap (λ (ys : List ℕ). x ∷ ys) rest

-- what the slots that pass a test hold, where the test is one of what they hold
pub live-filter : {X Y : Type 0} (g : X → Y) (t : Y → Bool) (p : ℕ → Bool) (xs : List X) (order : List ℕ)
    → ((k : ℕ) (x : X) → IsLive order k → slice_get xs k ≡ Some x → p k ≡ t (g x)) → map g (live xs (filter p order)) ≡ filter t (map g (live xs order))
live-filter g t p xs [] same = refl
live-filter g t p xs (k ∷ ks) same = by (slice_get xs k) refl (live-filter g t p xs ks (λ j x l e. same j x (IsLive-rest j k ks l) e))
  where
    none : (b : Bool) → slice_get xs k ≡ None → map g (live xs (cond b (k ∷ filter p ks) (filter p ks))) ≡ map g (live xs (filter p ks))
    none true e = ap (λ (o : Option _). map g (cons_option o (live xs (filter p ks)))) e
    none false e = refl

    some : (x : _) (b : Bool) → slice_get xs k ≡ Some x → map g (live xs (filter p ks)) ≡ filter t (map g (live xs ks))
        → map g (live xs (cond b (k ∷ filter p ks) (filter p ks))) ≡ cond b (g x ∷ filter t (map g (live xs ks))) (filter t (map g (live xs ks)))
    some x true e rest = ap (λ (o : Option _). map g (cons_option o (live xs (filter p ks)))) e ∙ ap (λ (ys : List _). g x ∷ ys) rest
    some x false e rest = rest

    by : (o : Option _) → slice_get xs k ≡ o → map g (live xs (filter p ks)) ≡ filter t (map g (live xs ks))
        → map g (live xs (cond (p k) (k ∷ filter p ks) (filter p ks))) ≡ filter t (map g (cons_option o (live xs ks)))
    by None e rest = none (p k) e ∙ rest
    by (Some x) e rest =
        some x (p k) e rest
        ∙ ap (λ (b : Bool). cond b (g x ∷ filter t (map g (live xs ks))) (filter t (map g (live xs ks)))) (same k x (IsLive-first k ks) e)

-- what stands among those that pass a test
pub live-kept : (p : ℕ → Bool) (k : ℕ) (order : List ℕ) → IsLive (filter p order) k → IsLive order k × (p k ≡ true)
live-kept p k order l = by (p k) (sym (live-filtered p k order) ∙ l)
  where
    by : (b : Bool) → (b && list_any (eqb k) order) ≡ true → IsLive order k × (b ≡ true)
    by true h = (h, refl)
    by false h = absurd (true≢false (sym h))

-- the test of a number that passes
pub live-of_kept : (p : ℕ → Bool) (k : ℕ) (order : List ℕ) → p k ≡ true → list_any (eqb k) (filter p order) ≡ list_any (eqb k) order
live-of_kept p k order h = live-filtered p k order ∙ ap (λ (b : Bool). b && list_any (eqb k) order) h
