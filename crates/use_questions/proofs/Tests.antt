-- Tests of lists.
use Rattle.std.proofs.Common.{◌≡◌, ℕ, suc, ◌+◌, ◌&&◌, ◌||◌, Bool, true, false, not, cond, List, [], ◌∷◌, map, Some, slice_get, refl, ap, ◌∙◌, arith}
use Rattle.std.specs.Prelude.{filter}
use Rattle.std.specs.List.{list_any, list_all, flat_map, enumerate_from}
use Rattle.std.proofs.lemmas.List.Folds.{list_any-append}
use Rattle.scope_model.specs.Control.{is_empty}

-- what two tests share with a third
pub or-and : (a b c : Bool) → (a && c || b && c) ≡ ((a || b) && c)
or-and true true true = refl
or-and true true false = refl
or-and true false true = refl
or-and true false false = refl
or-and false b c = refl

module _ {X : Type 0} where
  -- two tests that answer alike at each item
  pub alike : (p q : X → Bool) (xs : List X) → ((x : X) → p x ≡ q x) → list_any p xs ≡ list_any q xs
  alike p q [] same = refl
  alike p q (x ∷ xs) same = λ i. same x i || alike p q xs same i

  -- a test beside one that asks of no item
  pub beside : (p : X → Bool) (b : Bool) (xs : List X) → list_any (λ x. p x && b) xs ≡ (list_any p xs && b)
  beside p b [] = refl
  beside p b (x ∷ xs) = ap (λ (rest : Bool). p x && b || rest) (beside p b xs) ∙ or-and (p x) (list_any p xs) b

  -- a test that implies another one
  pub weaker : (p q : X → Bool) (xs : List X) → ((x : X) → p x ≡ true → q x ≡ true) → list_any p xs ≡ true → list_any q xs ≡ true
  weaker p q [] follows e = e
  weaker p q (x ∷ xs) follows e = by (p x) (q x) refl refl e (weaker p q xs follows)
    where
      by : (a b : Bool) → p x ≡ a → q x ≡ b → (a || list_any p xs) ≡ true → (list_any p xs ≡ true → list_any q xs ≡ true) → (b || list_any q xs) ≡ true
      by true true d f h rest = refl
      by false true d f h rest = refl
      by true false d f h rest = absurd (cc (follows x d, f))
      by false false d f h rest = rest h

  -- whether there is an item
  pub any-item : (xs : List X) → not (is_empty xs) ≡ list_any (λ (x : X). true) xs
  any-item [] = refl
  any-item (x ∷ xs) = refl

  -- where not all items pass, one fails
  pub all-pass : (p : X → Bool) (xs : List X) → list_all p xs ≡ not (list_any (λ x. not (p x)) xs)
  all-pass p [] = refl
  all-pass p (x ∷ xs) = by (p x) (all-pass p xs)
    where
      by : (b : Bool) → list_all p xs ≡ not (list_any (λ y. not (p y)) xs) → (b && list_all p xs) ≡ not (not b || list_any (λ y. not (p y)) xs)
      by true rest = rest
      by false rest = refl

-- a test of the images of the items that are kept
pub any-kept : {X Y : Type 0} (f : X → Y) (kept : X → Bool) (p : Y → Bool) (xs : List X) → list_any p (map f (filter kept xs)) ≡ list_any (λ x. kept x && p (f x)) xs
any-kept f kept p [] = refl
any-kept f kept p (x ∷ xs) = by (kept x) (any-kept f kept p xs)
  where
    by : (b : Bool) → list_any p (map f (filter kept xs)) ≡ list_any (λ y. kept y && p (f y)) xs
        → list_any p (map f (cond b (x ∷ filter kept xs) (filter kept xs))) ≡ (b && p (f x) || list_any (λ y. kept y && p (f y)) xs)
    by true rest = ap (λ (r : Bool). p (f x) || r) rest
    by false rest = rest

-- a test of the pieces that numbered items give
pub any-numbered : {X Y : Type 0} (p : Y → Bool) (piece : ℕ → X → List Y) (q : X → Bool) (from : ℕ) (xs : List X) → ((k n : ℕ) (x : X) → n ≡ from + k → slice_get xs k ≡ Some x → list_any p (piece n x) ≡ q x)
    → list_any p (flat_map (λ (e : ℕ × X). piece e.0 e.1) (enumerate_from from xs)) ≡ list_any q xs
any-numbered p piece q from [] same = refl
any-numbered p piece q from (x ∷ xs) same =
    list_any-append p (piece from x) (flat_map (λ e. piece e.0 e.1) (enumerate_from (from + 1) xs))
    ∙ (λ i. same 0 from x (omega arith) refl i || any-numbered p piece q (from + 1) xs (λ k n y e f. same (suc k) n y (omega (arith, e)) f) i)
