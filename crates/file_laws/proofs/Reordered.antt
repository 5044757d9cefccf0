-- Lists in another order have the same items once.
use Rattle.std.proofs.Common.{◌≡◌, ◌≢◌, ◌⊎◌, inl, inr, ℕ, ◌<◌, ◌==◌, true, false, List, length, map, Some, slice_get, get_or, refl, sym, ap, subst, ◌∙◌, arith}
use Rattle.std.specs.List.{swap}
use Rattle.std.specs.List.Sorted.{IsPermutation}
use Rattle.std.proofs.lemmas.Bool.Decides.{eqb_tells}
use Rattle.std.proofs.lemmas.List.Edits.{length-swap, swapped_from_swap}
use Rattle.std.proofs.lemmas.List.Sorted.{IsPermutation-keeps, IsPermutation-map}
use Rattle.std.proofs.lemmas.Option.{slice_get_within, slice_get-get_or, get_or_from_slice_get}
use Rattle.image_model.specs.Valid.{HasNoRepeat}

-- an item comes to a place from another, where two places change theirs
abbrev Comes : ℕ → ℕ → ℕ → ℕ → Type 0
Comes a b j m = ((j ≡ a) × (m ≡ b)) ⊎ (((j ≢ a) × (j ≡ b) × (m ≡ a)) ⊎ ((j ≢ a) × (j ≢ b) × (m ≡ j)))

-- from each place one item comes
one_place : (a b j k m : ℕ) → Comes a b j m → Comes a b k m → j ≡ k
one_place a b j k m (inl x) (inl y) = omega arith
one_place a b j k m (inl x) (inr (inl y)) = omega arith
one_place a b j k m (inl x) (inr (inr y)) = omega arith
one_place a b j k m (inr (inl x)) (inl y) = omega arith
one_place a b j k m (inr (inl x)) (inr (inl y)) = omega arith
one_place a b j k m (inr (inl x)) (inr (inr y)) = omega arith
one_place a b j k m (inr (inr x)) (inl y) = omega arith
one_place a b j k m (inr (inr x)) (inr (inl y)) = omega arith
one_place a b j k m (inr (inr x)) (inr (inr y)) = omega arith

module _ {X : Type 0} where
  -- where an item comes from
  came_from : (xs : List X) (a b : ℕ) → a < length xs → b < length xs → (j : ℕ) (x : X) → slice_get (swap xs a b) j ≡ Some x → (m : ℕ) × Comes a b j m × (slice_get xs m ≡ Some x)
  came_from xs a b p q j x e = by (eqb_tells j a) (eqb_tells j b)
    where
      within : j < length xs
      within = let l : j < length (swap xs a b) = slice_get_within (swap xs a b) j x e in omega (arith, length-swap xs a b)

      here : get_or (swap xs a b) j x ≡ x
      here = get_or_from_slice_get (swap xs a b) j x x e

      at : (m : ℕ) → m < length xs → get_or (swap xs a b) j x ≡ get_or xs m x → slice_get xs m ≡ Some x
      at m l same = slice_get-get_or xs m x l ∙ ap Some (sym same ∙ here)

      by : (((j == a) ≡ true) × (j ≡ a)) ⊎ (((j == a) ≡ false) × (j ≢ a)) → (((j == b) ≡ true) × (j ≡ b)) ⊎ (((j == b) ≡ false) × (j ≢ b)) → (m : ℕ) × Comes a b j m × (slice_get xs m ≡ Some x)
      by (inl f) g =
          let swapped = swapped_from_swap xs (swap xs a b) a b x p q refl in
          (b, inl (f.1, refl), at b q (ap (λ k. get_or (swap xs a b) k x) f.1 ∙ swapped.0))
      by (inr f) (inl g) =
          let swapped = swapped_from_swap xs (swap xs a b) a b x p q refl in
          (a, inr (inl (f.1, g.1, refl)), at a p (ap (λ k. get_or (swap xs a b) k x) g.1 ∙ swapped.1))
      by (inr f) (inr g) =
          let swapped = swapped_from_swap xs (swap xs a b) a b x p q refl in
          (j, inr (inr (f.1, g.1, refl)), at j within (swapped.2 j f.1 g.1))

  no_repeat_swapped : (xs : List X) (a b : ℕ) → a < length xs → b < length xs → HasNoRepeat xs → HasNoRepeat (swap xs a b)
  no_repeat_swapped xs a b p q once = λ j k x e f. one j k x (came_from xs a b p q j x e) (came_from xs a b p q k x f)
    where
      one : (j k : ℕ) (x : X) → (m : ℕ) × Comes a b j m × (slice_get xs m ≡ Some x) → (m : ℕ) × Comes a b k m × (slice_get xs m ≡ Some x) → j ≡ k
      one j k x c d =
          let same : d.0 ≡ c.0 = once d.0 c.0 x d.2 c.2 in
          one_place a b j k c.0 c.1 (subst (λ (m : ℕ). Comes a b k m) same d.1)

  -- in another order each item stands once as before
  pub no_repeat_reordered : (xs ys : List X) → IsPermutation xs ys → HasNoRepeat xs → HasNoRepeat ys
  no_repeat_reordered xs ys same once = IsPermutation-keeps xs HasNoRepeat once no_repeat_swapped ys same

-- and what is told of each item, as its signature
pub no_repeat_map_reordered : {X Y : Type 0} (f : X → Y) (xs ys : List X) → IsPermutation xs ys → HasNoRepeat (map f xs) → HasNoRepeat (map f ys)
no_repeat_map_reordered f xs ys same = no_repeat_reordered (map f xs) (map f ys) (IsPermutation-map f xs ys same)
