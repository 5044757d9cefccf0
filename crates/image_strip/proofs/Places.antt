-- New slots of what is live.
use Rattle.std.proofs.Common.{◌≡◌, ◌⊎◌, inl, inr, ℕ, zero, suc, ◌<◌, ◌≤◌, ◌+◌, ◌||◌, Bool, true, false, cond, List, [], ◌∷◌, ◌++◌, length, get_or, filter, take, Option, None, Some, slice_get, refl, sym, ap, subst, ◌∙◌, ◌≢◌, arith, true≢false}
use Rattle.std.specs.Prelude.{if◌then◌else◌, unwrap_or}
use Rattle.std.specs.List.{list_any, cons_option}
use Rattle.std.proofs.Math.Dec.{eqb}
use Rattle.std.proofs.Math.ListN.{set}
use Rattle.std.proofs.Math.Nat.{eq-or-lt_of_le}
use Rattle.std.proofs.lemmas.Bool.Decides.{eqb_tells}
use Rattle.std.proofs.lemmas.List.{take_all}
use Rattle.std.proofs.lemmas.List.Elements.{filter-append, filter_map-append}
use Rattle.std.proofs.lemmas.Option.{slice_get_read}
use Rattle.class_table.specs.Order.{Distinct, IsOrderOf}
use Rattle.class_table.specs.Valid.{IsLive}
use Rattle.class_table.specs.View.{live}
use Rattle.class_table.proofs.Live.{there, or_true, eqb-refl, eqb-equal, IsLive-first, IsLive-rest}
use Rattle.class_table.proofs.OrderLemmas.{any-push, length-push, Distinct-push, get-set_same, get-set_other}
use Rattle.image_laws.proofs.Orders.{stands-live}
use Rattle.image_strip.specs.Anew.{up_to, place_in, ArePlaces}
use Rattle.image_strip.proofs.Alls.{no-more}
use Rattle.image_strip.proofs.Steps.{take-step}

module _ {X : Type 0} where
  -- what stands at a place of a list stands there in a longer one, and behind it the item that is put there
  pub get-before : (xs ys : List X) (k : ℕ) (x : X) → slice_get xs k ≡ Some x → slice_get (xs ++ ys) k ≡ Some x
  get-before [] ys k x e = absurd (cc)
  get-before (y ∷ xs) ys zero x e = e
  get-before (y ∷ xs) ys (suc k) x e = get-before xs ys k x e

  pub get-behind : (xs : List X) (x : X) → slice_get (xs ++ x ∷ []) (length xs) ≡ Some x
  get-behind [] x = refl
  get-behind (y ∷ xs) x = get-behind xs x

  -- what the slot at a place of an order holds
  pub live-get : (xs : List X) (order : List ℕ) (p k : ℕ) → ((j : ℕ) → IsLive order j → j < length xs) → slice_get order p ≡ Some k → slice_get (live xs order) p ≡ slice_get xs k
  live-get xs [] p k h e = absurd (cc)
  live-get xs (j ∷ js) zero k h e =
      let at = there xs j (h j (IsLive-first j js)) in
      let same : j ≡ k = cc in
      ap (λ (o : Option X). slice_get (cons_option o (live xs js)) zero) at.1 ∙ sym at.1 ∙ ap (slice_get xs) same
  live-get xs (j ∷ js) (suc p) k h e =
      let at = there xs j (h j (IsLive-first j js)) in
      ap (λ (o : Option X). slice_get (cons_option o (live xs js)) (suc p)) at.1 ∙ live-get xs js p k (λ i l. h i (IsLive-rest i j js l)) e

  -- all slots in order hold the list
  pub live-front : (xs : List X) (n : ℕ) → n ≤ length xs → live xs (up_to n) ≡ take n xs
  live-front xs zero h = refl
  live-front xs (suc n) h =
      let at = there xs n (omega (arith, h)) in
      let rest = live-front xs n (omega (arith, h)) in
      filter_map-append (slice_get xs) (up_to n) (n ∷ [])
      ∙ (λ i. rest i ++ cons_option (at.1 i) [])
      ∙ sym (take-step xs n at.0 at.1)

  pub live-whole : (xs : List X) → live xs (up_to (length xs)) ≡ xs
  live-whole xs = live-front xs (length xs) (omega arith) ∙ take_all (length xs) xs (omega arith)

-- what one more slot of an order adds
module _ (p : ℕ → Bool) (order : List ℕ) (i k : ℕ) (h : i < length order) (read : k ≡ get_or order i k) where
  one-more : take (i + 1) order ≡ take i order ++ k ∷ []
  one-more =
      let next : i + 1 ≡ suc i = omega arith in
      ap (λ (n : ℕ). take n order) next ∙ take-step order i k (slice_get_read order (length order) i k refl h read)

  kept-tested : filter p (take (i + 1) order) ≡ filter p (take i order) ++ cond (p k) (k ∷ []) []
  kept-tested = ap (filter p) one-more ∙ filter-append p (take i order) (k ∷ [])

  pub kept-more : p k ≡ true → filter p (take (i + 1) order) ≡ filter p (take i order) ++ k ∷ []
  kept-more t = kept-tested ∙ ap (λ (b : Bool). filter p (take i order) ++ cond b (k ∷ []) []) t

  pub kept-same : p k ≡ false → filter p (take (i + 1) order) ≡ filter p (take i order)
  kept-same t = kept-tested ∙ ap (λ (b : Bool). filter p (take i order) ++ cond b (k ∷ []) []) t ∙ no-more (filter p (take i order))

  module _ {X : Type 0} (xs : List X) where
    live-tested : p k ≡ true → live xs (filter p (take (i + 1) order)) ≡ live xs (filter p (take i order)) ++ cons_option (slice_get xs k) []
    live-tested t = ap (live xs) (kept-more t) ∙ filter_map-append (slice_get xs) (filter p (take i order)) (k ∷ [])

    pub live-more : (x : X) → p k ≡ true → slice_get xs k ≡ Some x → live xs (filter p (take (i + 1) order)) ≡ live xs (filter p (take i order)) ++ x ∷ []
    live-more x t e = live-tested t ∙ ap (λ (o : Option X). live xs (filter p (take i order)) ++ cons_option o []) e

    pub live-same-kept : p k ≡ false → live xs (filter p (take (i + 1) order)) ≡ live xs (filter p (take i order))
    live-same-kept t = ap (live xs) (kept-same t)

    pub live-none : slice_get xs k ≡ None → live xs (filter p (take (i + 1) order)) ≡ live xs (filter p (take i order))
    live-none e = by (p k) refl
      where
        by : (b : Bool) → p k ≡ b → live xs (filter p (take (i + 1) order)) ≡ live xs (filter p (take i order))
        by true t = live-tested t ∙ ap (λ (o : Option X). live xs (filter p (take i order)) ++ cons_option o []) e ∙ no-more (live xs (filter p (take i order)))
        by false t = live-same-kept t

-- the numbers below a number, each once
pub below-up_to : (n k : ℕ) → IsLive (up_to n) k → k < n
below-up_to zero k l = absurd (true≢false (sym l))
below-up_to (suc n) k l = by (or_true (eqb k n) (list_any (eqb k) (up_to n)) (sym (any-push (eqb k) (up_to n) n) ∙ l)) (below-up_to n k)
  where
    by : (eqb k n ≡ true) ⊎ (list_any (eqb k) (up_to n) ≡ true) → (IsLive (up_to n) k → k < n) → k < suc n
    by (inl e) rest = let same = eqb-equal k n e in omega (arith, same)
    by (inr m) rest = let less = rest m in omega (arith, less)

later : (b c : Bool) → c ≡ true → (b || c) ≡ true
later true c e = refl
later false c e = e

pub up_to-below : (n k : ℕ) → k < n → IsLive (up_to n) k
up_to-below zero k h = absurd (omega (arith, h))
up_to-below (suc n) k h = any-push (eqb k) (up_to n) n ∙ by (eq-or-lt_of_le (omega (arith, h))) (up_to-below n k)
  where
    by : (k ≡ n) ⊎ (k < n) → (k < n → IsLive (up_to n) k) → (eqb k n || list_any (eqb k) (up_to n)) ≡ true
    by (inl e) rest = ap (λ (b : Bool). b || list_any (eqb k) (up_to n)) (subst (λ (m : ℕ). eqb k m ≡ true) e (eqb-refl k))
    by (inr less) rest = later (eqb k n) (list_any (eqb k) (up_to n)) (rest less)

pub order-up_to : (n : ℕ) → IsOrderOf (record { items = up_to n; slots = n })
order-up_to n = record { distinct = once n; below = below-up_to n }
  where
    absent : (m : ℕ) (b : Bool) → list_any (eqb m) (up_to m) ≡ b → b ≡ false
    absent m true e = let less = below-up_to m m e in absurd (omega (arith, less))
    absent m false e = refl

    once : (m : ℕ) → Distinct (up_to m)
    once zero = tt
    once (suc m) = let no = absent m (list_any (eqb m) (up_to m)) refl in Distinct-push m (up_to m) no (once m)

-- a number stands in one place
pub one-place : (xs : List ℕ) (j k a : ℕ) → Distinct xs → slice_get xs j ≡ Some a → slice_get xs k ≡ Some a → j ≡ k
one-place [] j k a d ej ek = absurd (cc)
one-place (x ∷ xs) zero zero a d ej ek = refl
one-place (x ∷ xs) (suc j) (suc k) a d ej ek = let same = one-place xs j k a d.1 ej ek in omega (arith, same)
one-place (x ∷ xs) zero (suc k) a d ej ek =
    let same : x ≡ a = cc in
    absurd (true≢false (sym (stands-live a xs k ek) ∙ ap (λ (y : ℕ). list_any (eqb y) xs) (sym same) ∙ d.0))
one-place (x ∷ xs) (suc j) zero a d ej ek =
    let same : x ≡ a = cc in
    absurd (true≢false (sym (stands-live a xs j ej) ∙ ap (λ (y : ℕ). list_any (eqb y) xs) (sym same) ∙ d.0))

-- new slots where one more class has one
pub places-more : (order places more : List ℕ) (id count : ℕ) → count ≡ length order → ArePlaces order places
    → ((k : ℕ) → place_in more k ≡ (if eqb k id then count else place_in places k)) → ArePlaces (order ++ id ∷ []) more
places-more order places more id count is are said k l = by (eqb k id) refl (sym (any-push (eqb k) order id) ∙ l)
  where
    by : (b : Bool) → eqb k id ≡ b → (b || list_any (eqb k) order) ≡ true → slice_get (order ++ id ∷ []) (place_in more k) ≡ Some k
    by true e m =
        ap (slice_get (order ++ id ∷ [])) (said k ∙ ap (λ (b : Bool). if b then count else place_in places k) e ∙ is)
        ∙ get-behind order id ∙ ap Some (sym (eqb-equal k id e))
    by false e m =
        ap (slice_get (order ++ id ∷ [])) (said k ∙ ap (λ (b : Bool). if b then count else place_in places k) e)
        ∙ get-before order (id ∷ []) (place_in places k) k (are k m)

-- a turn for the class at a place of the order: it is counted, or it is not
module _ (p : ℕ → Bool) (order : List ℕ) (i k count : ℕ) (places : List ℕ) (h : i < length order) (read : k ≡ get_or order i k)
    (counted : count ≡ length (filter p (take i order))) (are : ArePlaces (filter p (take i order)) places) where
  pub count-more : p k ≡ true → count + 1 ≡ length (filter p (take (i + 1) order))
  count-more t = ap (λ (n : ℕ). n + 1) counted ∙ sym (length-push (filter p (take i order)) k) ∙ ap length (sym (kept-more p order i k h read t))

  pub count-same : p k ≡ false → count ≡ length (filter p (take (i + 1) order))
  count-same t = counted ∙ ap length (sym (kept-same p order i k h read t))

  pub places-turn : (more : List ℕ) → p k ≡ true → ((j : ℕ) → place_in more j ≡ (if eqb j k then count else place_in places j)) → ArePlaces (filter p (take (i + 1) order)) more
  places-turn more t said =
      subst (λ (ks : List ℕ). ArePlaces ks more) (sym (kept-more p order i k h read t)) (places-more (filter p (take i order)) places more k count counted are said)

  pub places-left : p k ≡ false → ArePlaces (filter p (take (i + 1) order)) places
  places-left t = subst (λ (ks : List ℕ). ArePlaces ks places) (sym (kept-same p order i k h read t)) are

-- new slots in a list that is longer by one that says nothing, and where one of them is set
pub place-push : (xs : List ℕ) (n : ℕ) → place_in (xs ++ 0 ∷ []) n ≡ place_in xs n
place-push [] zero = refl
place-push [] (suc n) = refl
place-push (x ∷ xs) zero = refl
place-push (x ∷ xs) (suc n) = place-push xs n

pub place-set : (old mid : List ℕ) (id place : ℕ) → id < length mid → ((n : ℕ) → place_in mid n ≡ place_in old n) → (k : ℕ) → place_in (set mid id place) k ≡ (if eqb k id then place else place_in old k)
place-set old mid id place h same k = by (eqb_tells k id)
  where
    by : ((eqb k id ≡ true) × (k ≡ id)) ⊎ ((eqb k id ≡ false) × (k ≢ id)) → place_in (set mid id place) k ≡ (if eqb k id then place else place_in old k)
    by (inl t) =
        ap (place_in (set mid id place)) t.1 ∙ ap (λ (o : Option ℕ). unwrap_or o 0) (get-set_same mid id place h)
        ∙ sym (ap (λ (b : Bool). if b then place else place_in old k) t.0)
    by (inr t) =
        ap (λ (o : Option ℕ). unwrap_or o 0) (get-set_other mid id k place (λ e. t.1 (sym e))) ∙ same k
        ∙ sym (ap (λ (b : Bool). if b then place else place_in old k) t.0)
