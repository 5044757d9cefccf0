-- Tests of items that are kept.
use Rattle.std.proofs.Common.{◌≡◌, ◌≢◌, ◌⊎◌, inl, inr, ℕ, suc, arith, ◌&&◌, ◌||◌, Bool, true, false, not, cond, List, [], ◌∷◌, length, map, refl, sym, ap, ◌∙◌, true≢false}
use Rattle.std.specs.Prelude.{◌==◌, nat_eq, filter}
use Rattle.std.proofs.lemmas.Bool.Decides.{eqb_tells}
use Rattle.std.specs.List.{list_any, list_all}
use Rattle.scope_model.specs.Control.{is_empty}

-- a test of all items is one of those that are kept, where it passes at the others
pub kept-all : {X : Type 0} (kept p : X → Bool) (xs : List X) → ((x : X) → kept x ≡ false → p x ≡ true) → list_all p (filter kept xs) ≡ list_all p xs
kept-all kept p [] passes = refl
kept-all kept p (x ∷ xs) passes = by (kept x) refl (kept-all kept p xs passes)
  where
    by : (b : Bool) → kept x ≡ b → list_all p (filter kept xs) ≡ list_all p xs → list_all p (cond b (x ∷ filter kept xs) (filter kept xs)) ≡ (p x && list_all p xs)
    by true e rest = ap (λ (r : Bool). p x && r) rest
    by false e rest = rest ∙ ap (λ (b : Bool). b && list_all p xs) (sym (passes x e))

-- where a test that passes at the others fails, an item is kept
pub fails-kept : {X : Type 0} (kept p : X → Bool) (xs : List X) → ((x : X) → kept x ≡ false → p x ≡ true) → not (list_all p xs) ≡ true → list_any kept xs ≡ true
fails-kept kept p [] passes e = absurd (true≢false (sym e))
fails-kept kept p (x ∷ xs) passes e = by (kept x) refl e (fails-kept kept p xs passes)
  where
    by : (b : Bool) → kept x ≡ b → not (p x && list_all p xs) ≡ true → (not (list_all p xs) ≡ true → list_any kept xs ≡ true) → (b || list_any kept xs) ≡ true
    by true h f rest = refl
    by false h f rest = rest (ap (λ (b : Bool). not (b && list_all p xs)) (sym (passes x h)) ∙ f)

-- a test of the items that are kept
pub any-filtered : {X : Type 0} (kept p : X → Bool) (xs : List X) → list_any p (filter kept xs) ≡ list_any (λ x. kept x && p x) xs
any-filtered kept p [] = refl
any-filtered kept p (x ∷ xs) = by (kept x) (any-filtered kept p xs)
  where
    by : (b : Bool) → list_any p (filter kept xs) ≡ list_any (λ y. kept y && p y) xs → list_any p (cond b (x ∷ filter kept xs) (filter kept xs)) ≡ (b && p x || list_any (λ y. kept y && p y) xs)
    by true rest = ap (λ (r : Bool). p x || r) rest
    by false rest = rest

-- whether there is an item
pub any-listed : {X : Type 0} (kept : X → Bool) (xs : List X) → not (is_empty (filter kept xs)) ≡ list_any kept xs
any-listed kept [] = refl
any-listed kept (x ∷ xs) = by (kept x) (any-listed kept xs)
  where
    by : (b : Bool) → not (is_empty (filter kept xs)) ≡ list_any kept xs → not (is_empty (cond b (x ∷ filter kept xs) (filter kept xs))) ≡ (b || list_any kept xs)
    by true rest = refl
    by false rest = rest

-- whether any is kept
pub any-mapped_kept : {X Y : Type 0} (f : X → Y) (kept : X → Bool) (xs : List X) → not (is_empty (map f (filter kept xs))) ≡ list_any kept xs
any-mapped_kept f kept [] = refl
any-mapped_kept f kept (x ∷ xs) = by (kept x) (any-mapped_kept f kept xs)
  where
    by : (b : Bool) → not (is_empty (map f (filter kept xs))) ≡ list_any kept xs → not (is_empty (map f (cond b (x ∷ filter kept xs) (filter kept xs)))) ≡ (b || list_any kept xs)
    by true rest = refl
    by false rest = rest

-- a successor is not 0
suc-zero : (n : ℕ) → (suc n == 0) ≡ false
suc-zero n = by (eqb_tells (suc n) 0)
  where
    by : ((nat_eq (suc n) 0 ≡ true) × (suc n ≡ 0)) ⊎ ((nat_eq (suc n) 0 ≡ false) × (suc n ≢ 0)) → (suc n == 0) ≡ false
    by (inl a) = absurd (omega (arith, a.1))
    by (inr b) = b.0

-- whether an item is kept, by the number of those that are found
pub any-counted : {X Y : Type 0} (f : X → Y) (kept : Y → Bool) (xs : List X) (ys : List Y) → map f xs ≡ filter kept ys → not (length xs == 0) ≡ list_any kept ys
any-counted {X = X} {Y = Y} f kept xs ys e = by xs ∙ ap (λ (zs : List Y). not (is_empty zs)) e ∙ any-listed kept ys
  where
    by : (zs : List X) → not (length zs == 0) ≡ not (is_empty (map f zs))
    by [] = refl
    by (z ∷ zs) = ap not (suc-zero (length zs))

-- a test after a map
pub mapped-filter : {X Y : Type 0} (f : X → Y) (kept : Y → Bool) (xs : List X) → map f (filter (λ x. kept (f x)) xs) ≡ filter kept (map f xs)
mapped-filter f kept [] = refl
mapped-filter f kept (x ∷ xs) = by (kept (f x)) (mapped-filter f kept xs)
  where
    by : (b : Bool) → map f (filter (λ y. kept (f y)) xs) ≡ filter kept (map f xs)
        → map f (cond b (x ∷ filter (λ y. kept (f y)) xs) (filter (λ y. kept (f y)) xs)) ≡ cond b (f x ∷ filter kept (map f xs)) (filter kept (map f xs))
    by true rest = ap (λ (ys : List _). f x ∷ ys) rest
    by false rest = rest
