-- Lists with one more item at the end.
use Rattle.std.proofs.Common.{◌≡◌, ◌⊎◌, inl, inr, ℕ, zero, suc, ◌+◌, Bool, true, false, cond, List, [], ◌∷◌, ◌++◌, length, find, Some, None, slice_get, Contains, refl, sym, ap, ◌∙◌, arith}
use Rattle.std.specs.Prelude.{filter}
use Rattle.std.specs.List.{AllByRecursion}
use Rattle.std.proofs.lemmas.Option.{slice_get_within, slice_get-get_or, get_or_from_slice_get}
use Rattle.image_model.specs.Valid.{HasNoRepeat}

module _ {X : Type 0} where
  -- an item of a list stands at a place
  pub contains-place : (xs : List X) (x : X) → Contains xs x → (j : ℕ) × (slice_get xs j ≡ Some x)
  contains-place xs x h = (h.0, slice_get-get_or xs h.0 x h.1 ∙ ap Some h.2)

  -- what stands at a place is an item of the list
  pub place-contains : (xs : List X) (j : ℕ) (x : X) → slice_get xs j ≡ Some x → Contains xs x
  place-contains xs j x e = (j, slice_get_within xs j x e, get_or_from_slice_get xs j x x e)

  pub length-end : (xs : List X) (x : X) → length (xs ++ x ∷ []) ≡ length xs + 1
  length-end [] x = refl
  length-end (z ∷ zs) x = omega (arith, length-end zs x)

  -- what stands at a place stays there
  pub slice_get-front : (xs ys : List X) (j : ℕ) (x : X) → slice_get xs j ≡ Some x → slice_get (xs ++ ys) j ≡ Some x
  slice_get-front [] ys j x e = absurd (cc)
  slice_get-front (z ∷ zs) ys zero x e = e
  slice_get-front (z ∷ zs) ys (suc j) x e = slice_get-front zs ys j x e

  -- an item stands where it stood, or is the one at the end
  pub slice_get-end : (xs : List X) (x y : X) (j : ℕ) → slice_get (xs ++ x ∷ []) j ≡ Some y → (slice_get xs j ≡ Some y) ⊎ ((j ≡ length xs) × (x ≡ y))
  slice_get-end [] x y zero e = let same : x ≡ y = cc in inr (refl, same)
  slice_get-end [] x y (suc j) e = absurd (cc)
  slice_get-end (z ∷ zs) x y zero e = inl e
  slice_get-end (z ∷ zs) x y (suc j) e = by (slice_get-end zs x y j e)
    where
      by : (slice_get zs j ≡ Some y) ⊎ ((j ≡ length zs) × (x ≡ y)) → (slice_get (z ∷ zs) (suc j) ≡ Some y) ⊎ ((suc j ≡ length (z ∷ zs)) × (x ≡ y))
      by (inl a) = inl a
      by (inr b) = inr (omega (arith, b.0), b.1)

  -- a list without repetition, and an item that is none of it
  pub HasNoRepeat-end : (xs : List X) (x : X) → HasNoRepeat xs → (Contains xs x → ⊥) → HasNoRepeat (xs ++ x ∷ [])
  HasNoRepeat-end xs x once new = λ j k y a b. by j k y (slice_get-end xs x y j a) (slice_get-end xs x y k b)
    where
      none : (j : ℕ) (y : X) → slice_get xs j ≡ Some y → x ≡ y → ⊥
      none j y a e = new (place-contains xs j x (a ∙ ap Some (sym e)))

      by : (j k : ℕ) (y : X) → (slice_get xs j ≡ Some y) ⊎ ((j ≡ length xs) × (x ≡ y)) → (slice_get xs k ≡ Some y) ⊎ ((k ≡ length xs) × (x ≡ y)) → j ≡ k
      by j k y (inl a) (inl b) = once j k y a b
      by j k y (inl a) (inr b) = absurd (none j y a b.1)
      by j k y (inr a) (inl b) = absurd (none k y b a.1)
      by j k y (inr a) (inr b) = a.0 ∙ sym b.0

  -- a fact of each item and of the one at the end
  pub all-end : (P : X → Type 0) (xs : List X) (x : X) → AllByRecursion P xs → P x → AllByRecursion P (xs ++ x ∷ [])
  all-end P [] x a p = (p, tt)
  all-end P (z ∷ zs) x a p = (a.0, all-end P zs x a.1 p)

  -- a fact of each item from another fact of it at its place
  pub all-at : (P Q : X → Type 0) (xs : List X) → ((j : ℕ) (x : X) → slice_get xs j ≡ Some x → P x → Q x) → AllByRecursion P xs → AllByRecursion Q xs
  all-at P Q [] h a = tt
  all-at P Q (z ∷ zs) h a = (h zero z refl a.0, all-at P Q zs (λ j x e p. h (suc j) x e p) a.1)

  -- a search that ends before the items that were put in
  pub find-front : (p : X → Bool) (xs ys : List X) (j : ℕ) (x : X) → slice_get xs j ≡ Some x → p x ≡ true → find p (xs ++ ys) ≡ find p xs
  find-front p [] ys j x at h = absurd (cc)
  find-front p (z ∷ zs) ys zero x at h =
      let same : z ≡ x = cc in
      let passes : p z ≡ true = ap p same ∙ h in
      ap (λ b. cond b (Some z) (find p (zs ++ ys))) passes ∙ sym (ap (λ b. cond b (Some z) (find p zs)) passes)
  find-front p (z ∷ zs) ys (suc j) x at h = ap (cond (p z) (Some z)) (find-front p zs ys j x at h)

  -- a search that the item at the end fails
  pub find-end : (p : X → Bool) (xs : List X) (x : X) → p x ≡ false → find p (xs ++ x ∷ []) ≡ find p xs
  find-end p [] x e = ap (λ b. cond b (Some x) None) e
  find-end p (z ∷ zs) x e = ap (cond (p z) (Some z)) (find-end p zs x e)

  -- what is found stands at a place
  pub find-place : (p : X → Bool) (xs : List X) (y : X) → find p xs ≡ Some y → (j : ℕ) × (slice_get xs j ≡ Some y)
  find-place p [] y e = absurd (cc)
  find-place p (z ∷ zs) y e = by (p z) e (find-place p zs y)
    where
      by : (b : Bool) → cond b (Some z) (find p zs) ≡ Some y → (find p zs ≡ Some y → (j : ℕ) × (slice_get zs j ≡ Some y)) → (j : ℕ) × (slice_get (z ∷ zs) j ≡ Some y)
      by true r rest = (0, r)
      by false r rest = let found = rest r in (suc found.0, found.1)

  -- an item that the test leaves out
  pub filter-end : (p : X → Bool) (xs : List X) (x : X) → p x ≡ false → filter p (xs ++ x ∷ []) ≡ filter p xs
  filter-end p [] x e = ap (λ b. cond b (x ∷ []) []) e
  filter-end p (z ∷ zs) x e = ap (λ (ys : List X). cond (p z) (z ∷ ys) ys) (filter-end p zs x e)
