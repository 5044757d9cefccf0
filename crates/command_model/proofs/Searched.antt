-- Lists that are searched, and what is in lists made of lists.
use Rattle.std.proofs.Common.{◌≡◌, ℕ, zero, suc, ◌+◌, ◌<◌, ◌≤◌, arith, List, [], ◌∷◌, Some, None, refl, ap, sym, subst, ◌∙◌, inl, inr}
use Rattle.std.specs.Prelude.{Bool, true, false, cond, find, map, flat_map, Contains}
use Rattle.std.specs.List.{range_with_len}
use Rattle.std.proofs.lemmas.Bool.{cases_lt}
use Rattle.std.proofs.lemmas.List.Elements.{Contains-append_left, Contains-append_right}

module _ {X : Type 0} where
  -- the first item
  pub in-first : (x : X) (xs : List X) → Contains (x ∷ xs) x
  in-first x xs = (0, omega arith, refl)

  -- an item behind the first one
  pub in-rest : (x : X) (xs : List X) (y : X) → Contains xs y → Contains (x ∷ xs) y
  in-rest x xs y h = let lt = h.1 in (suc h.0, omega arith, h.2)

  module _ (p : X → Bool) where
    -- what is found passes
    pub found-passes : (xs : List X) (y : X) → find p xs ≡ Some y → p y ≡ true
    found-passes [] y e = cc
    found-passes (x ∷ xs) y e = by (p x) refl e (found-passes xs y)
      where
        by : (b : Bool) → p x ≡ b → cond b (Some x) (find p xs) ≡ Some y → (find p xs ≡ Some y → p y ≡ true) → p y ≡ true
        by true q h later = let same : x ≡ y = cc in sym (ap p same) ∙ q
        by false q h later = later h

    -- where nothing is found, no item passes
    pub none-passes : (xs : List X) (y : X) → find p xs ≡ None → Contains xs y → p y ≡ true → ⊥
    none-passes [] y e (k, lt, at) passes = absurd (omega arith)
    none-passes (x ∷ xs) y e (zero, lt, at) passes = let first : p x ≡ true = ap p at ∙ passes in by (p x) refl e
      where
        by : (b : Bool) → p x ≡ b → cond b (Some x) (find p xs) ≡ None → ⊥
        by true q h = cc
        by false q h = cc
    none-passes (x ∷ xs) y e (suc k, lt, at) passes = by (p x) e (λ none. none-passes xs y none (k, omega arith, at) passes)
      where
        by : (b : Bool) → cond b (Some x) (find p xs) ≡ None → (find p xs ≡ None → ⊥) → ⊥
        by true h later = cc
        by false h later = later h

module _ {X Y : Type 0} where
  -- what a function makes of an item
  pub in-mapped : (f : X → Y) (xs : List X) (x : X) → Contains xs x → Contains (map f xs) (f x)
  in-mapped f [] x (k, lt, at) = absurd (omega arith)
  in-mapped f (z ∷ zs) x (zero, lt, at) = subst (λ (y : Y). Contains (f z ∷ map f zs) y) (ap f at) (in-first (f z) (map f zs))
  in-mapped f (z ∷ zs) x (suc k, lt, at) = in-rest (f z) (map f zs) (f x) (in-mapped f zs x (k, omega arith, at))

  -- an item of the list of an item
  pub in-lists : (f : X → List Y) (xs : List X) (x : X) (y : Y) → Contains xs x → Contains (f x) y → Contains (flat_map f xs) y
  in-lists f [] x y (k, lt, at) there = absurd (omega arith)
  in-lists f (z ∷ zs) x y (zero, lt, at) there = Contains-append_left (f z) (flat_map f zs) y (subst (λ (x : X). Contains (f x) y) (sym at) there)
  in-lists f (z ∷ zs) x y (suc k, lt, at) there = Contains-append_right (f z) (flat_map f zs) y (in-lists f zs x y (k, omega arith, at) there)

-- a number of a range
pub in-range : (a n k : ℕ) → a ≤ k → k < a + n → Contains (range_with_len a n) k
in-range a zero k l u = absurd (omega arith)
in-range a (suc n) k l u = elim (cases_lt a k) [
  | inl below ↦ in-rest a (range_with_len (a + 1) n) k (in-range (a + 1) n k (omega arith) (omega arith))
  | inr h ↦ let same : a ≡ k = omega arith in subst (Contains (a ∷ range_with_len (a + 1) n)) same (in-first a (range_with_len (a + 1) n))
]
