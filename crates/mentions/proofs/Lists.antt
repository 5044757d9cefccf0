-- Facts of the items of lists that are joined, and items that are among them.
use Rattle.std.proofs.Common.{◌≡◌, ◌⊎◌, inl, inr, zero, suc, List, [], ◌∷◌, ◌++◌, map, refl, sym, ap, ◌∙◌, arith}
use Rattle.std.specs.Prelude.{Contains}
use Rattle.std.specs.List.{AllByRecursion, flat_map}
use Rattle.std.proofs.lemmas.List.{map-append}
use Rattle.std.proofs.lemmas.List.Elements.{Contains-append_left, Contains-append_right}

module _ {X : Type 0} (P : X → Type 0) where
  -- a fact of each item of two lists
  pub all-append : (xs ys : List X) → AllByRecursion P xs → AllByRecursion P ys → AllByRecursion P (xs ++ ys)
  all-append [] ys p q = q
  all-append (x ∷ xs) ys p q = (p.0, all-append xs ys p.1 q)

  -- of each item of the first
  pub all-front : (xs ys : List X) → AllByRecursion P (xs ++ ys) → AllByRecursion P xs
  all-front [] ys p = tt
  all-front (x ∷ xs) ys p = (p.0, all-front xs ys p.1)

  -- of each item of the second
  pub all-back : (xs ys : List X) → AllByRecursion P (xs ++ ys) → AllByRecursion P ys
  all-back [] ys p = p
  all-back (x ∷ xs) ys p = all-back xs ys p.1

module _ {X Y : Type 0} (P : Y → Type 0) (f : X → List Y) where
  -- a fact of each item of all pieces
  pub all-flat_map : (xs : List X) → AllByRecursion (λ x. AllByRecursion P (f x)) xs → AllByRecursion P (flat_map f xs)
  all-flat_map [] p = tt
  all-flat_map (x ∷ xs) p = all-append P (f x) (flat_map f xs) p.0 (all-flat_map xs p.1)

  -- of each item of each piece
  pub all-flat_map_back : (xs : List X) → AllByRecursion P (flat_map f xs) → AllByRecursion (λ x. AllByRecursion P (f x)) xs
  all-flat_map_back [] p = tt
  all-flat_map_back (x ∷ xs) p = (all-front P (f x) (flat_map f xs) p, all-flat_map_back xs (all-back P (f x) (flat_map f xs) p))

module _ {X : Type 0} where
  -- the first item
  pub Contains-first : (x y : X) (xs : List X) → x ≡ y → Contains (x ∷ xs) y
  Contains-first x y xs e = (0, omega arith, e)

  -- an item behind the first
  pub Contains-later : (x y : X) (xs : List X) → Contains xs y → Contains (x ∷ xs) y
  Contains-later x y xs h = let lt = h.1 in (suc h.0, omega arith, h.2)

  -- an item is the first, or behind it
  pub Contains-cases : (x y : X) (xs : List X) → Contains (x ∷ xs) y → (x ≡ y) ⊎ Contains xs y
  Contains-cases x y xs (zero, lt, e) = inl e
  Contains-cases x y xs (suc k, lt, e) = inr (k, omega arith, e)

module _ {X Y : Type 0} where
  -- what an item becomes is among what all become
  pub Contains-mapped : (f : X → Y) (xs : List X) (x : X) → Contains xs x → Contains (map f xs) (f x)
  Contains-mapped f [] x (k, lt, e) = absurd (omega arith)
  Contains-mapped f (y ∷ ys) x h =
      elim (Contains-cases y x ys h) [
        | inl e ↦ Contains-first (f y) (f x) (map f ys) (ap f e)
        | inr g ↦ Contains-later (f y) (f x) (map f ys) (Contains-mapped f ys x g)
      ]

  -- an item of a piece is an item of the whole
  pub Contains-piece : (f : X → List Y) (xs : List X) (x : X) (y : Y) → Contains xs x → Contains (f x) y → Contains (flat_map f xs) y
  Contains-piece f [] x y (k, lt, e) g = absurd (omega arith)
  Contains-piece f (z ∷ zs) x y h g =
      elim (Contains-cases z x zs h) [
        | inl e ↦ Contains-append_left (f z) (flat_map f zs) y (rw e g)
        | inr there ↦ Contains-append_right (f z) (flat_map f zs) y (Contains-piece f zs x y there g)
      ]

module _ {X Y A B : Type 0} (f : X → List A) (g : Y → List B) (h : X → Y) (k : A → B) (pieces : (x : X) → g (h x) ≡ map k (f x)) where
  -- pieces of which each is mapped
  pub flat_map-pieces : (xs : List X) → flat_map g (map h xs) ≡ map k (flat_map f xs)
  flat_map-pieces [] = refl
  flat_map-pieces (x ∷ xs) = (λ i. pieces x i ++ flat_map-pieces xs i) ∙ sym (map-append k (f x) (flat_map f xs))
