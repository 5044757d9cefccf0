-- Lists of what live slots hold, from facts of each live slot.
use Rattle.std.proofs.Common.{◌≡◌, ◌≢◌, ◌⊎◌, inl, inr, ℕ, ◌<◌, ◌≤◌, ◌||◌, Bool, true, false, cond, find, get_or, List, [], ◌∷◌, length, map, Option, None, Some, option_map, slice_get, refl, sym, ap, subst, ◌∙◌, arith, true≢false}
use Rattle.std.specs.List.{filter_map, cons_option, list_any, AllByRecursion}
use Rattle.std.specs.Option.{option_and_then, option_map_or}
use Rattle.std.proofs.Math.Dec.{eqb}
use Rattle.std.proofs.lemmas.Bool.Decides.{eqb_tells}
use Rattle.std.proofs.lemmas.Option.{slice_get_cases}
use Rattle.class_table.specs.View.{live}
use Rattle.class_table.specs.Valid.{IsLive}

-- one of two tests passes
pub or_true : (b c : Bool) → (b || c) ≡ true → (b ≡ true) ⊎ (c ≡ true)
or_true true c h = inl refl
or_true false c h = inr h

-- a number is equal to itself
pub eqb-refl : (k : ℕ) → eqb k k ≡ true
eqb-refl k = by (eqb_tells k k)
  where
    by : ((eqb k k ≡ true) × (k ≡ k)) ⊎ ((eqb k k ≡ false) × (k ≢ k)) → eqb k k ≡ true
    by (inl s) = s.0
    by (inr s) = absurd (s.1 refl)

-- equal numbers from the test
pub eqb-equal : (j k : ℕ) → eqb j k ≡ true → j ≡ k
eqb-equal j k h = by (eqb_tells j k)
  where
    by : ((eqb j k ≡ true) × (j ≡ k)) ⊎ ((eqb j k ≡ false) × (j ≢ k)) → j ≡ k
    by (inl s) = s.1
    by (inr s) = absurd (true≢false (sym h ∙ s.0))

-- the first slot of an order is live
pub IsLive-first : (k : ℕ) (ks : List ℕ) → IsLive (k ∷ ks) k
IsLive-first k ks = ap (λ b. b || list_any (eqb k) ks) (eqb-refl k)

-- what is live in the rest of an order is live
pub IsLive-rest : (j k : ℕ) (ks : List ℕ) → IsLive ks j → IsLive (k ∷ ks) j
IsLive-rest j k ks h = by (eqb j k)
  where
    by : (b : Bool) → (b || list_any (eqb j) ks) ≡ true
    by true = refl
    by false = h

-- two tests that agree on the live slots
pub find-agree : (p q : ℕ → Bool) (order : List ℕ) → ((k : ℕ) → IsLive order k → p k ≡ q k) → find p order ≡ find q order
find-agree p q [] h = refl
find-agree p q (k ∷ ks) h = λ i. cond (h k (IsLive-first k ks) i) (Some k) (find-agree p q ks (λ j l. h j (IsLive-rest j k ks l)) i)

-- the one live slot that passes a test is found
pub find-only : (p : ℕ → Bool) (order : List ℕ) (k : ℕ) → IsLive order k → p k ≡ true → ((j : ℕ) → IsLive order j → p j ≡ true → j ≡ k) → find p order ≡ Some k
find-only p [] k l e only = absurd (true≢false (sym l))
find-only p (j ∷ js) k l e only = by (p j) refl (or_true (eqb k j) (list_any (eqb k) js) l) (λ m. find-only p js k m e (λ i n. only i (IsLive-rest i j js n)))
  where
    by : (b : Bool) → p j ≡ b → (eqb k j ≡ true) ⊎ (list_any (eqb k) js ≡ true) → (IsLive js k → find p js ≡ Some k) → cond b (Some j) (find p js) ≡ Some k
    by true t which rest = ap Some (only j (IsLive-first j js) t)
    by false t (inl s) rest = absurd (true≢false (sym e ∙ ap p (eqb-equal k j s) ∙ t))
    by false t (inr s) rest = rest s

-- what is found passes the test and is live
pub find-passes : (p : ℕ → Bool) (order : List ℕ) (k : ℕ) → find p order ≡ Some k → (p k ≡ true) × IsLive order k
find-passes p [] k e = absurd (cc)
find-passes p (j ∷ js) k e = by (p j) refl e (find-passes p js k)
  where
    by : (b : Bool) → p j ≡ b → cond b (Some j) (find p js) ≡ Some k → (find p js ≡ Some k → (p k ≡ true) × IsLive js k) → (p k ≡ true) × IsLive (j ∷ js) k
    by true t h rest = let same : j ≡ k = cc in (subst (λ (i : ℕ). p i ≡ true) same t, subst (λ (i : ℕ). IsLive (j ∷ js) i) same (IsLive-first j js))
    by false t h rest = ((rest h).0, IsLive-rest k j js (rest h).1)

module _ {X Y : Type 0} where
  map-cons_option : (g : X → Y) (o : Option X) (xs : List X) → map g (cons_option o xs) ≡ cons_option (option_map g o) (map g xs)
  map-cons_option g None xs = refl
  map-cons_option g (Some x) xs = refl

  -- a map of what the live slots hold
  pub map-live : (g : X → Y) (xs : List X) (order : List ℕ) → map g (live xs order) ≡ filter_map (λ k. option_map g (slice_get xs k)) order
  map-live g xs [] = refl
  map-live g xs (k ∷ ks) = map-cons_option g (slice_get xs k) (live xs ks) ∙ ap (cons_option (option_map g (slice_get xs k))) (map-live g xs ks)

-- what is given is the same where it is the same of each live slot
pub filter_map-same : {Y : Type 0} (f g : ℕ → Option Y) (ks : List ℕ) → ((k : ℕ) → IsLive ks k → f k ≡ g k) → filter_map f ks ≡ filter_map g ks
filter_map-same f g [] same = refl
filter_map-same f g (k ∷ ks) same =
    let rest = filter_map-same f g ks (λ j h. same j (IsLive-rest j k ks h)) in
    λ i. cons_option (same k (IsLive-first k ks) i) (rest i)

-- two lists of what live slots hold read the same where each slot does
pub live-same : {X Y Z : Type 0} (g : X → Z) (h : Y → Z) (xs : List X) (ys : List Y) (order : List ℕ)
    → ((k : ℕ) → IsLive order k → option_map g (slice_get xs k) ≡ option_map h (slice_get ys k)) → map g (live xs order) ≡ map h (live ys order)
live-same g h xs ys order same =
    map-live g xs order ∙ filter_map-same (λ k. option_map g (slice_get xs k)) (λ k. option_map h (slice_get ys k)) order same ∙ sym (map-live h ys order)

-- what holds of each live record holds of the one in a live slot
pub live-fact : {X Y : Type 0} (P : Y → Type 0) (g : X → Y) (xs : List X) (order : List ℕ) (k : ℕ) (x : X)
    → AllByRecursion P (map g (live xs order)) → IsLive order k → slice_get xs k ≡ Some x → P (g x)
live-fact P g xs [] k x all l e = absurd (true≢false (sym l))
live-fact P g xs (j ∷ js) k x all l e = by (or_true (eqb k j) (list_any (eqb k) js) l) (λ a m. live-fact P g xs js k x a m e)
  where
    first : (o : Option _) → o ≡ Some x → AllByRecursion P (map g (cons_option o (live xs js))) → P (g x)
    first None q a = absurd (cc)
    first (Some y) q a = let same : y ≡ x = cc in subst (λ z. P (g z)) same a.0

    rest : (o : Option _) → AllByRecursion P (map g (cons_option o (live xs js))) → AllByRecursion P (map g (live xs js))
    rest None a = a
    rest (Some y) a = a.1

    by : (eqb k j ≡ true) ⊎ (list_any (eqb k) js ≡ true) → (AllByRecursion P (map g (live xs js)) → IsLive js k → P (g x)) → P (g x)
    by (inl s) next = first (slice_get xs j) (ap (slice_get xs) (sym (eqb-equal k j s)) ∙ e) all
    by (inr s) next = next (rest (slice_get xs j) all) s

-- a search among the live slots is a search in the list of what they hold
pub find-live : {X Y : Type 0} (g : X → Y) (t : Y → Bool) (xs : List X) (order : List ℕ)
    → option_and_then (λ k. option_map g (slice_get xs k)) (find (λ k. option_map_or (λ x. t (g x)) (slice_get xs k) false) order) ≡ find t (map g (live xs order))
find-live g t xs [] = refl
find-live g t xs (k ∷ ks) = by (slice_get xs k) refl (find-live g t xs ks)
  where
    test : ℕ → Bool
    test j = option_map_or (λ x. t (g x)) (slice_get xs j) false

    by : (o : Option _) → slice_get xs k ≡ o → option_and_then (λ j. option_map g (slice_get xs j)) (find test ks) ≡ find t (map g (live xs ks))
        → option_and_then (λ j. option_map g (slice_get xs j)) (cond (option_map_or (λ x. t (g x)) o false) (Some k) (find test ks)) ≡ find t (map g (cons_option o (live xs ks)))
    by None e rest = rest
    by (Some x) e rest = at (t (g x))
      where
        at : (b : Bool) → option_and_then (λ j. option_map g (slice_get xs j)) (cond b (Some k) (find test ks)) ≡ cond b (Some (g x)) (find t (map g (live xs ks)))
        at true = ap (option_map g) e
        at false = rest

-- what a slot below the length holds
pub there : {X : Type 0} (xs : List X) (k : ℕ) → k < length xs → (x : X) × (slice_get xs k ≡ Some x)
there {X} xs k h = by (slice_get_cases xs k).1
  where
    by : ((x : X) × (k < length xs) × (slice_get xs k ≡ Some x) × (get_or xs k x ≡ x)) ⊎ ((length xs ≤ k) × (slice_get xs k ≡ None)) → (x : X) × (slice_get xs k ≡ Some x)
    by (inl t) = (t.0, t.2)
    by (inr t) = absurd (omega (arith, t.0))

-- as many records as live slots, where each is there
pub length-live : {X : Type 0} (xs : List X) (order : List ℕ) → ((k : ℕ) → IsLive order k → k < length xs) → length (live xs order) ≡ length order
length-live xs [] h = refl
length-live xs (k ∷ ks) h =
    let at = there xs k (h k (IsLive-first k ks)) in
    ap (λ o. length (cons_option o (live xs ks))) at.1 ∙ omega (arith, length-live xs ks (λ j l. h j (IsLive-rest j k ks l)))
