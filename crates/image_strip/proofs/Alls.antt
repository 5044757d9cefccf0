-- Tests that each item of a list passes.
use Rattle.std.proofs.Common.{◌≡◌, ◌⊎◌, inl, inr, ℕ, zero, suc, ◌&&◌, ◌||◌, ◌≤◌, Bool, true, false, not, cond, List, [], ◌∷◌, ◌++◌, length, drop, map, filter, Option, None, Some, slice_get, refl, sym, ap, ◌∙◌, true≢false}
use Rattle.std.specs.List.{list_any, list_all, flat_map, cons_option}
use Rattle.std.specs.Option.{option_map_or}
use Rattle.std.proofs.Math.Dec.{eqb}
use Rattle.std.proofs.lemmas.Bool.{and_parts}
use Rattle.std.proofs.lemmas.List.{drop_all}
use Rattle.std.proofs.lemmas.List.Folds.{list_all-append}
use Rattle.class_table.specs.View.{live}
use Rattle.class_table.specs.Valid.{IsLive}
use Rattle.class_table.proofs.Live.{or_true, eqb-equal, IsLive-first, IsLive-rest}

-- a list behind which nothing stands
pub no-more : {X : Type 0} (xs : List X) → xs ++ [] ≡ xs
no-more [] = refl
no-more (x ∷ xs) = ap (λ (ys : List _). x ∷ ys) (no-more xs)

-- two pairs of tests
and-swap : (a b c d : Bool) → ((a && b) && (c && d)) ≡ ((a && c) && (b && d))
and-swap true b true d = refl
and-swap true true false d = refl
and-swap true false false d = refl
and-swap false b c d = refl

module _ {X : Type 0} where
  pub all-both : (p q : X → Bool) (xs : List X) → list_all (λ x. p x && q x) xs ≡ (list_all p xs && list_all q xs)
  all-both p q [] = refl
  all-both p q (x ∷ xs) = ap (λ (b : Bool). (p x && q x) && b) (all-both p q xs) ∙ and-swap (p x) (q x) (list_all p xs) (list_all q xs)

module _ {X Y : Type 0} (p : Y → Bool) where
  -- what a function gives for each item, and for each that passes a test
  pub all-each : (f : X → List Y) (xs : List X) → list_all p (flat_map f xs) ≡ list_all (λ x. list_all p (f x)) xs
  all-each f [] = refl
  all-each f (x ∷ xs) = list_all-append p (f x) (flat_map f xs) ∙ ap (λ (b : Bool). list_all p (f x) && b) (all-each f xs)

  pub all-given : (f : X → List Y) (q : X → Bool) (xs : List X) → list_all p (flat_map f (filter q xs)) ≡ list_all (λ x. not (q x) || list_all p (f x)) xs
  all-given f q [] = refl
  all-given f q (x ∷ xs) = by (q x) (all-given f q xs)
    where
      by : (b : Bool) → list_all p (flat_map f (filter q xs)) ≡ list_all (λ y. not (q y) || list_all p (f y)) xs
          → list_all p (flat_map f (cond b (x ∷ filter q xs) (filter q xs))) ≡ ((not b || list_all p (f x)) && list_all (λ y. not (q y) || list_all p (f y)) xs)
      by true rest = list_all-append p (f x) (flat_map f (filter q xs)) ∙ ap (λ (b : Bool). list_all p (f x) && b) rest
      by false rest = rest

  pub all-mapped : (f : X → Y) (q : X → Bool) (xs : List X) → list_all p (map f (filter q xs)) ≡ list_all (λ x. not (q x) || p (f x)) xs
  all-mapped f q [] = refl
  all-mapped f q (x ∷ xs) = by (q x) (all-mapped f q xs)
    where
      by : (b : Bool) → list_all p (map f (filter q xs)) ≡ list_all (λ y. not (q y) || p (f y)) xs
          → list_all p (map f (cond b (x ∷ filter q xs) (filter q xs))) ≡ ((not b || p (f x)) && list_all (λ y. not (q y) || p (f y)) xs)
      by true rest = ap (λ (b : Bool). p (f x) && b) rest
      by false rest = rest

-- a test of what the live slots hold
pub all-live : {X Y : Type 0} (g : X → Y) (t : Y → Bool) (xs : List X) (order : List ℕ) → list_all t (map g (live xs order)) ≡ list_all (λ k. option_map_or (λ x. t (g x)) (slice_get xs k) true) order
all-live g t xs [] = refl
all-live g t xs (k ∷ ks) = by (slice_get xs k) (all-live g t xs ks)
  where
    rest_of : List ℕ → Bool
    rest_of js = list_all (λ j. option_map_or (λ x. t (g x)) (slice_get xs j) true) js

    by : (o : Option _) → list_all t (map g (live xs ks)) ≡ rest_of ks → list_all t (map g (cons_option o (live xs ks))) ≡ (option_map_or (λ x. t (g x)) o true && rest_of ks)
    by None rest = rest
    by (Some x) rest = ap (λ (b : Bool). t (g x) && b) rest

-- what each slot of an order passes
pub all-slot : (p : ℕ → Bool) (order : List ℕ) (k : ℕ) → list_all p order ≡ true → IsLive order k → p k ≡ true
all-slot p [] k h l = absurd (true≢false (sym l))
all-slot p (j ∷ js) k h l = by (or_true (eqb k j) (list_any (eqb k) js) l) (all-slot p js k (and_parts (p j) (list_all p js) h).1)
  where
    by : (eqb k j ≡ true) ⊎ (list_any (eqb k) js ≡ true) → (IsLive js k → p k ≡ true) → p k ≡ true
    by (inl e) rest = ap p (eqb-equal k j e) ∙ (and_parts (p j) (list_all p js) h).0
    by (inr m) rest = rest m

-- two tests that agree on the live slots
pub all-agree : (p q : ℕ → Bool) (order : List ℕ) → ((k : ℕ) → IsLive order k → p k ≡ q k) → list_all p order ≡ list_all q order
all-agree p q [] same = refl
all-agree p q (k ∷ ks) same =
    let rest = all-agree p q ks (λ j l. same j (IsLive-rest j k ks l)) in
    λ i. same k (IsLive-first k ks) i && rest i

-- pieces that are put one after the other, once all are put
module _ {X Y : Type 0} (f : X → List Y) where
  pub all-put : (out : List Y) (xs : List X) (k : ℕ) → out ++ flat_map f (drop k xs) ≡ flat_map f xs → length xs ≤ k → out ≡ flat_map f xs
  all-put out xs k e h = sym (no-more out) ∙ ap (λ (ys : List X). out ++ flat_map f ys) (sym (drop_all k xs h)) ∙ e

  -- of items that are mapped
  pub flat-mapped : {W : Type 0} (g : W → X) (ws : List W) → flat_map f (map g ws) ≡ flat_map (λ w. f (g w)) ws
  flat-mapped g [] = refl
  flat-mapped g (w ∷ ws) = ap (λ (ys : List Y). f (g w) ++ ys) (flat-mapped g ws)

-- the item at a place, and those behind it
pub all-step : {X : Type 0} (p : X → Bool) (xs : List X) (k : ℕ) → list_all p (drop k xs) ≡ (option_map_or p (slice_get xs k) true && list_all p (drop (suc k) xs))
all-step p [] zero = refl
all-step p [] (suc k) = refl
all-step p (x ∷ xs) zero = refl
all-step p (x ∷ xs) (suc k) = all-step p xs k
