-- The items that are there among slots, where a slot is written.
use Rattle.std.proofs.Common.{◌≡◌, ℕ, zero, suc, ◌+◌, Bool, true, false, not, cond, List, [], ◌∷◌, ◌++◌, length, map, filter, find, Option, Some, None, slice_get, slice_set, take, drop, ◌<◌, ◌≤◌, IfSome, refl, sym, ap, subst, ◌∙◌, arith}
use Rattle.std.specs.List.{filter_map}
use Rattle.std.proofs.lemmas.List.Elements.{filter_map-append}

-- the items that are there
abbrev pub there : {X : Type 0} → List (Option X) → List X
there slots = filter_map (λ o. o) slots

-- no slot holds an item that passes
abbrev pub NonePasses : {X : Type 0} → (X → Bool) → List (Option X) → Type 0
NonePasses {X} q slots = (j : ℕ) (x : X) → slice_get slots j ≡ Some (Some x) → q x ≡ false

-- no slot but that at a place holds an item that passes
abbrev pub OnlyAt : {X : Type 0} → (X → Bool) → List (Option X) → ℕ → Type 0
OnlyAt {X} q slots k = (j : ℕ) (x : X) → slice_get slots j ≡ Some (Some x) → q x ≡ true → j ≡ k

module _ {X : Type 0} (q : X → Bool) where
  -- behind the only place nothing passes
  none-behind : (o : Option X) (slots : List (Option X)) → OnlyAt q (o ∷ slots) 0 → NonePasses q slots
  none-behind o slots only j x at = by (q x) refl
    where
      by : (b : Bool) → q x ≡ b → b ≡ false
      by true h = absurd (omega (arith, only (suc j) x at h))
      by false h = refl

  only-behind : (o : Option X) (slots : List (Option X)) (k : ℕ) → OnlyAt q (o ∷ slots) (suc k) → OnlyAt q slots k
  only-behind o slots k only j x at h = omega (arith, only (suc j) x at h)

  first-fails : (x : X) (slots : List (Option X)) (k : ℕ) → OnlyAt q (Some x ∷ slots) (suc k) → q x ≡ false
  first-fails x slots k only = by (q x) refl
    where
      by : (b : Bool) → q x ≡ b → b ≡ false
      by true h = absurd (omega (arith, only 0 x refl h))
      by false h = refl

  -- nothing is found where no slot holds what passes
  pub find-none : (slots : List (Option X)) → NonePasses q slots → find q (there slots) ≡ None
  find-none [] none = refl
  find-none (None ∷ slots) none = find-none slots (λ j x at. none (suc j) x at)
  find-none (Some x ∷ slots) none = ap (λ (b : Bool). cond b (Some x) (find q (there slots))) (none 0 x refl) ∙ find-none slots (λ j y at. none (suc j) y at)

  -- what stands at the only place is found
  pub find-only : (slots : List (Option X)) (k : ℕ) (x : X) → slice_get slots k ≡ Some (Some x) → q x ≡ true → OnlyAt q slots k → find q (there slots) ≡ Some x
  find-only [] k x at h only = absurd (cc)
  find-only (None ∷ slots) zero x at h only = absurd (cc)
  find-only (Some y ∷ slots) zero x at h only =
      let one : y ≡ x = cc in
      ap (λ (b : Bool). cond b (Some y) (find q (there slots))) (ap q one ∙ h) ∙ ap Some one
  find-only (None ∷ slots) (suc k) x at h only = find-only slots k x at h (only-behind None slots k only)
  find-only (Some y ∷ slots) (suc k) x at h only =
      ap (λ (b : Bool). cond b (Some y) (find q (there slots))) (first-fails y slots k only) ∙ find-only slots k x at h (only-behind (Some y) slots k only)

  -- all are left where none passes
  pub filter-none : (slots : List (Option X)) → NonePasses q slots → filter (λ x. not (q x)) (there slots) ≡ there slots
  filter-none [] none = refl
  filter-none (None ∷ slots) none = filter-none slots (λ j x at. none (suc j) x at)
  filter-none (Some x ∷ slots) none =
      ap (λ (b : Bool). cond (not b) (x ∷ filter (λ y. not (q y)) (there slots)) (filter (λ y. not (q y)) (there slots))) (none 0 x refl)
      ∙ ap (λ (ys : List X). x ∷ ys) (filter-none slots (λ j y at. none (suc j) y at))

  -- an emptied slot
  pub there-emptied : (slots : List (Option X)) (k : ℕ) (x : X) → slice_get slots k ≡ Some (Some x) → q x ≡ true → OnlyAt q slots k → there (slice_set slots k None) ≡ filter (λ y. not (q y)) (there slots)
  there-emptied [] k x at h only = absurd (cc)
  there-emptied (None ∷ slots) zero x at h only = absurd (cc)
  there-emptied (Some y ∷ slots) zero x at h only =
      let one : y ≡ x = cc in
      sym (ap (λ (b : Bool). cond (not b) (y ∷ filter (λ z. not (q z)) (there slots)) (filter (λ z. not (q z)) (there slots))) (ap q one ∙ h) ∙ filter-none slots (none-behind (Some y) slots only))
  there-emptied (None ∷ slots) (suc k) x at h only = there-emptied slots k x at h (only-behind None slots k only)
  there-emptied (Some y ∷ slots) (suc k) x at h only =
      ap (λ (ys : List X). y ∷ ys) (there-emptied slots k x at h (only-behind (Some y) slots k only))
      ∙ sym (ap (λ (b : Bool). cond (not b) (y ∷ filter (λ z. not (q z)) (there slots)) (filter (λ z. not (q z)) (there slots))) (first-fails y slots k only))

-- mapped items, where the one that passes is replaced
module _ {X Y : Type 0} (f : X → Y) (p : Y → Bool) (new : X) where
  replaced-none : (slots : List (Option X)) → NonePasses (λ x. p (f x)) slots → map (λ y. cond (p y) (f new) y) (map f (there slots)) ≡ map f (there slots)
  replaced-none [] none = refl
  replaced-none (None ∷ slots) none = replaced-none slots (λ j x at. none (suc j) x at)
  replaced-none (Some x ∷ slots) none = λ i. ap (λ (b : Bool). cond b (f new) (f x)) (none 0 x refl) i ∷ replaced-none slots (λ j y at. none (suc j) y at) i

  pub there-replaced : (slots : List (Option X)) (k : ℕ) (x : X) → slice_get slots k ≡ Some (Some x) → p (f x) ≡ true → OnlyAt (λ z. p (f z)) slots k
      → map f (there (slice_set slots k (Some new))) ≡ map (λ y. cond (p y) (f new) y) (map f (there slots))
  there-replaced [] k x at h only = absurd (cc)
  there-replaced (None ∷ slots) zero x at h only = absurd (cc)
  there-replaced (Some y ∷ slots) zero x at h only =
      let one : y ≡ x = cc in
      λ i. sym (ap (λ (b : Bool). cond b (f new) (f y)) (ap (λ z. p (f z)) one ∙ h)) i ∷ sym (replaced-none slots (none-behind (λ z. p (f z)) (Some y) slots only)) i
  there-replaced (None ∷ slots) (suc k) x at h only = there-replaced slots k x at h (only-behind (λ z. p (f z)) None slots k only)
  there-replaced (Some y ∷ slots) (suc k) x at h only =
      λ i. sym (ap (λ (b : Bool). cond b (f new) (f y)) (first-fails (λ z. p (f z)) y slots k only)) i ∷ there-replaced slots k x at h (only-behind (λ z. p (f z)) (Some y) slots k only) i

module _ {X : Type 0} where
  -- how many are there
  pub length-emptied : (slots : List (Option X)) (k : ℕ) (x : X) → slice_get slots k ≡ Some (Some x) → length (there (slice_set slots k None)) + 1 ≡ length (there slots)
  length-emptied [] k x at = absurd (cc)
  length-emptied (None ∷ slots) zero x at = absurd (cc)
  length-emptied (Some y ∷ slots) zero x at = omega arith
  length-emptied (None ∷ slots) (suc k) x at = length-emptied slots k x at
  length-emptied (Some y ∷ slots) (suc k) x at = omega (arith, length-emptied slots k x at)

  pub length-replaced : (slots : List (Option X)) (k : ℕ) (x new : X) → slice_get slots k ≡ Some (Some x) → length (there (slice_set slots k (Some new))) ≡ length (there slots)
  length-replaced [] k x new at = absurd (cc)
  length-replaced (None ∷ slots) zero x new at = absurd (cc)
  length-replaced (Some y ∷ slots) zero x new at = refl
  length-replaced (None ∷ slots) (suc k) x new at = length-replaced slots k x new at
  length-replaced (Some y ∷ slots) (suc k) x new at = ap suc (length-replaced slots k x new at)

  -- one more slot at the end
  pub there-last : (slots : List (Option X)) (x : X) → there (slots ++ Some x ∷ []) ≡ there slots ++ x ∷ []
  there-last slots x = filter_map-append (λ (o : Option X). o) slots (Some x ∷ [])

-- a list in which the items before a place are changed
module _ {X : Type 0} (g : X → X) where
  abbrev pub changed_before : List X → ℕ → List X
  changed_before xs i = map g (take i xs) ++ drop i xs

  pub changed-next : (xs : List X) (i : ℕ) → i < length xs → IfSome (slice_get (changed_before xs i) i) (λ x. slice_set (changed_before xs i) i (g x) ≡ changed_before xs (suc i))
  changed-next [] i h = absurd (omega (arith, h))
  changed-next (x ∷ xs) zero h = refl
  changed-next (x ∷ xs) (suc i) h = by (slice_get (changed_before xs i) i) (changed-next xs i (omega (arith, h)))
    where
      by : (o : Option X) → IfSome o (λ y. slice_set (changed_before xs i) i (g y) ≡ changed_before xs (suc i)) → IfSome o (λ y. g x ∷ slice_set (changed_before xs i) i (g y) ≡ g x ∷ changed_before xs (suc i))
      by None e = tt
      by (Some y) e = ap (λ (ys : List X). g x ∷ ys) e

  pub changed-step : (xs now new : List X) (i : ℕ) → i < length xs → now ≡ changed_before xs i → IfSome (slice_get now i) (λ x. new ≡ slice_set now i (g x)) → new ≡ changed_before xs (suc i)
  changed-step xs now new i h e f = by (slice_get (changed_before xs i) i) refl (changed-next xs i h) (subst (λ (ys : List X). IfSome (slice_get ys i) (λ x. new ≡ slice_set ys i (g x))) e f)
    where
      by : (o : Option X) → slice_get (changed_before xs i) i ≡ o → IfSome o (λ x. slice_set (changed_before xs i) i (g x) ≡ changed_before xs (suc i)) → IfSome o (λ x. new ≡ slice_set (changed_before xs i) i (g x)) → new ≡ changed_before xs (suc i)
      by None q a b = absurd (there_is xs i h q)
        where
          there_is : (ys : List X) (j : ℕ) → j < length ys → slice_get (changed_before ys j) j ≡ None → ⊥
          there_is [] j l r = omega (arith, l)
          there_is (y ∷ ys) zero l r = cc
          there_is (y ∷ ys) (suc j) l r = there_is ys j (omega (arith, l)) r
      by (Some x) q a b = b ∙ a

  pub length-changed : (xs : List X) (i : ℕ) → length (changed_before xs i) ≡ length xs
  length-changed [] zero = refl
  length-changed [] (suc i) = refl
  length-changed (x ∷ xs) zero = refl
  length-changed (x ∷ xs) (suc i) = ap suc (length-changed xs i)

  pub changed-all : (xs : List X) (i : ℕ) → length xs ≤ i → changed_before xs i ≡ map g xs
  changed-all [] zero h = refl
  changed-all [] (suc i) h = refl
  changed-all (x ∷ xs) zero h = absurd (omega (arith, h))
  changed-all (x ∷ xs) (suc i) h = ap (λ (ys : List X). g x ∷ ys) (changed-all xs i (omega (arith, h)))

-- what stands at a place is written there
pub set-same : {X : Type 0} (xs : List X) (k : ℕ) (x : X) → slice_get xs k ≡ Some x → xs ≡ slice_set xs k x
set-same [] k x e = refl
set-same {X} (y ∷ ys) zero x e = let one : y ≡ x = cc in ap (λ (z : X). z ∷ ys) one
set-same {X} (y ∷ ys) (suc k) x e = ap (λ (zs : List X). y ∷ zs) (set-same ys k x e)
