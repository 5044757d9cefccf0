-- Lists with one item more or less at some place.
use Rattle.std.proofs.Common.{◌≡◌, ℕ, zero, suc, Bool, false, cond, List, [], ◌∷◌, ◌++◌, slice_get, refl, ap, ◌∙◌, arith}
use Rattle.std.specs.Prelude.{filter}
use Rattle.std.specs.List.{AllByRecursion}
use Rattle.image_model.specs.Valid.{HasNoRepeat}

module _ {X : Type 0} where
  -- the place of an item once another is put in behind the first ones
  past : List X → ℕ → ℕ
  past [] j = suc j
  past (z ∷ zs) zero = zero
  past (z ∷ zs) (suc j) = suc (past zs j)

  slice_get-past : (front : List X) (x : X) (back : List X) (j : ℕ) → slice_get (front ++ x ∷ back) (past front j) ≡ slice_get (front ++ back) j
  unfolding past
  slice_get-past [] x back j = refl
  slice_get-past (z ∷ zs) x back zero = refl
  slice_get-past (z ∷ zs) x back (suc j) = slice_get-past zs x back j

  past-injective : (front : List X) (j k : ℕ) → past front j ≡ past front k → j ≡ k
  unfolding past
  past-injective [] j k e = omega (arith, e)
  past-injective (z ∷ zs) zero zero e = refl
  past-injective (z ∷ zs) zero (suc k) e = absurd (omega (arith, e))
  past-injective (z ∷ zs) (suc j) zero e = absurd (omega (arith, e))
  past-injective (z ∷ zs) (suc j) (suc k) e = ap suc (past-injective zs j k (omega (arith, e)))

  -- a list without repetition, less one item
  pub HasNoRepeat-less : (front : List X) (x : X) (back : List X) → HasNoRepeat (front ++ x ∷ back) → HasNoRepeat (front ++ back)
  HasNoRepeat-less front x back once = λ j k y a b.
      past-injective front j k (once (past front j) (past front k) y (slice_get-past front x back j ∙ a) (slice_get-past front x back k ∙ b))

  -- a fact of each item, less one
  pub all-less : (P : X → Type 0) (front : List X) (x : X) (back : List X) → AllByRecursion P (front ++ x ∷ back) → AllByRecursion P (front ++ back)
  all-less P [] x back a = a.1
  all-less P (z ∷ zs) x back a = (a.0, all-less P zs x back a.1)

  -- the fact of that item
  pub all-of : (P : X → Type 0) (front : List X) (x : X) (back : List X) → AllByRecursion P (front ++ x ∷ back) → P x
  all-of P [] x back a = a.0
  all-of P (z ∷ zs) x back a = all-of P zs x back a.1

  -- a fact of each item, and of one more
  pub all-more : (P : X → Type 0) (front : List X) (x : X) (back : List X) → AllByRecursion P (front ++ back) → P x → AllByRecursion P (front ++ x ∷ back)
  all-more P [] x back a p = (p, a)
  all-more P (z ∷ zs) x back a p = (a.0, all-more P zs x back a.1 p)

  -- an item that the test leaves out
  pub filter-more : (p : X → Bool) (front : List X) (x : X) (back : List X) → p x ≡ false → filter p (front ++ x ∷ back) ≡ filter p (front ++ back)
  filter-more p [] x back e = ap (λ b. cond b (x ∷ filter p back) (filter p back)) e
  filter-more p (z ∷ zs) x back e = ap (λ (ys : List X). cond (p z) (z ∷ ys) ys) (filter-more p zs x back e)
