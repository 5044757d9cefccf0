-- Facts of all items of a list, and lists that are filtered.
use Rattle.std.proofs.Common.{◌≡◌, ℕ, zero, suc, ◌+◌, Bool, true, false, cond, List, [], ◌∷◌, ◌++◌, drop, slice_get, Some, refl, ap, ◌∙◌, arith}
use Rattle.std.specs.Prelude.{filter, find, Contains}
use Rattle.std.specs.List.{AllByRecursion}
use Rattle.image_model.specs.ImageNames.{OptionNames}
use Rattle.event_spans.proofs.Members.{Contains-here, Contains-there}

module _ {X : Type 0} where
  -- a fact of all items of two lists
  pub all-append : (P : X → Type 0) (xs ys : List X) → AllByRecursion P xs → AllByRecursion P ys → AllByRecursion P (xs ++ ys)
  all-append P [] ys a b = b
  all-append P (x ∷ xs) ys a b = (a.0, all-append P xs ys a.1 b)

  -- what holds of each item that a list contains
  pub all-contained : (P : X → Type 0) (xs : List X) → ((x : X) → Contains xs x → P x) → AllByRecursion P xs
  all-contained P [] h = tt
  all-contained P (x ∷ xs) h = (h x (Contains-here x xs), all-contained P xs (λ y c. h y (Contains-there x xs y c)))

  -- nothing passes the test that nothing passes
  pub filter-none : (xs : List X) → filter (λ x. false) xs ≡ []
  filter-none [] = refl
  filter-none (x ∷ xs) = filter-none xs

  -- what is found passes the test
  pub find-passes : (p : X → Bool) (xs : List X) → OptionNames (λ x. p x ≡ true) (find p xs)
  find-passes p [] = tt
  find-passes p (x ∷ xs) = by (p x) refl (find-passes p xs)
    where
      by : (b : Bool) → p x ≡ b → OptionNames (λ y. p y ≡ true) (find p xs) → OptionNames (λ y. p y ≡ true) (cond b (Some x) (find p xs))
      by true e rest = e
      by false e rest = rest

  -- the first item behind a place is the one at the place
  pub at-drop : (k : ℕ) (xs ys : List X) (x : X) → drop k xs ≡ x ∷ ys → (slice_get xs k ≡ Some x) × (drop (k + 1) xs ≡ ys)
  at-drop zero [] ys x e = absurd (cc)
  at-drop zero (z ∷ zs) ys x e = let same : z ≡ x = cc in let rest : zs ≡ ys = cc in (ap Some same, rest)
  at-drop (suc k) [] ys x e = absurd (cc)
  at-drop (suc k) (z ∷ zs) ys x e =
      let w = at-drop k zs ys x e in
      let next : suc k + 1 ≡ suc (k + 1) = omega arith in
      (w.0, ap (λ (n : ℕ). drop n (z ∷ zs)) next ∙ w.1)
