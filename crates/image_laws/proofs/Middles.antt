-- Lists with one item more or less at some place.
use Rattle.std.proofs.Common.{◌≡◌, ◌⊎◌, inl, inr, ℕ, zero, suc, ◌<◌, Bool, false, cond, List, [], ◌∷◌, ◌++◌, length, find, Some, slice_get, Contains, refl, sym, ap, subst, ◌∙◌, arith}
use Rattle.std.specs.List.{AllByRecursion}
use Rattle.image_model.specs.Valid.{HasNoRepeat}
use Rattle.image_model.proofs.Ends.{contains-place, place-contains}

-- the place of an item once another one is put in at the place m
abbrev pub past : ℕ → ℕ → ℕ
past zero j = suc j
past (suc m) zero = zero
past (suc m) (suc j) = suc (past m j)

-- the order of two items stays
pub past-more : (m j k : ℕ) → j < k → past m j < past m k
past-more zero j k h = omega arith
past-more (suc m) zero zero h = absurd (omega arith)
past-more (suc m) zero (suc k) h = omega arith
past-more (suc m) (suc j) zero h = absurd (omega arith)
past-more (suc m) (suc j) (suc k) h = omega (arith, past-more m j k (omega arith))

pub past-less : (m j k : ℕ) → past m j < past m k → j < k
past-less zero j k h = omega arith
past-less (suc m) zero zero h = absurd (omega arith)
past-less (suc m) zero (suc k) h = omega arith
past-less (suc m) (suc j) zero h = absurd (omega arith)
past-less (suc m) (suc j) (suc k) h = omega (arith, past-less m j k (omega arith))

-- an item before the place of the new one stays before it
pub past-front : (m j : ℕ) → j < m → past m j < m
past-front zero j h = absurd (omega arith)
past-front (suc m) zero h = omega arith
past-front (suc m) (suc j) h = omega (arith, past-front m j (omega arith))

-- no other item gets the place of the new one
pub past-apart : (m j : ℕ) → m ≡ past m j → ⊥
past-apart zero j e = absurd (omega (arith, e))
past-apart (suc m) zero e = absurd (omega (arith, e))
past-apart (suc m) (suc j) e = past-apart m j (omega (arith, e))

module _ {X : Type 0} where
  -- an item stands at its place past the new one
  pub get-past : (front : List X) (x : X) (back : List X) (j : ℕ) → slice_get (front ++ x ∷ back) (past (length front) j) ≡ slice_get (front ++ back) j
  get-past [] x back j = refl
  get-past (z ∷ zs) x back zero = refl
  get-past (z ∷ zs) x back (suc j) = get-past zs x back j

  -- the new item stands at its place
  pub get-middle : (front : List X) (x : X) (back : List X) → slice_get (front ++ x ∷ back) (length front) ≡ Some x
  get-middle [] x back = refl
  get-middle (z ∷ zs) x back = get-middle zs x back

  -- each item is the new one or one of the others
  pub get-cases : (front : List X) (x : X) (back : List X) (j : ℕ) (y : X) → slice_get (front ++ x ∷ back) j ≡ Some y
      → ((j ≡ length front) × (x ≡ y)) ⊎ ((i : ℕ) × (j ≡ past (length front) i) × (slice_get (front ++ back) i ≡ Some y))
  get-cases [] x back zero y e = let same : x ≡ y = cc in inl (refl, same)
  get-cases [] x back (suc j) y e = inr (j, refl, e)
  get-cases (z ∷ zs) x back zero y e = inr (zero, refl, e)
  get-cases (z ∷ zs) x back (suc j) y e = by (get-cases zs x back j y e)
    where
      by : ((j ≡ length zs) × (x ≡ y)) ⊎ ((i : ℕ) × (j ≡ past (length zs) i) × (slice_get (zs ++ back) i ≡ Some y))
          → ((suc j ≡ length (z ∷ zs)) × (x ≡ y)) ⊎ ((i : ℕ) × (suc j ≡ past (length (z ∷ zs)) i) × (slice_get (z ∷ zs ++ back) i ≡ Some y))
      by (inl t) = inl (ap suc t.0, t.1)
      by (inr t) = inr (suc t.0, ap suc t.1, t.2)

  -- an item of the others is one of all
  pub contains-more : (front : List X) (x : X) (back : List X) (y : X) → Contains (front ++ back) y → Contains (front ++ x ∷ back) y
  contains-more front x back y h =
      let place = contains-place (front ++ back) y h in
      place-contains (front ++ x ∷ back) (past (length front) place.0) y (get-past front x back place.0 ∙ place.1)

  -- an item that is not the new one is one of the others
  pub contains-less : (front : List X) (x : X) (back : List X) (y : X) → (y ≡ x → ⊥) → Contains (front ++ x ∷ back) y → Contains (front ++ back) y
  contains-less front x back y apart h = let place = contains-place (front ++ x ∷ back) y h in by (get-cases front x back place.0 y place.1)
    where
      by : {j : ℕ} → ((j ≡ length front) × (x ≡ y)) ⊎ ((i : ℕ) × (j ≡ past (length front) i) × (slice_get (front ++ back) i ≡ Some y)) → Contains (front ++ back) y
      by (inl t) = absurd (apart (sym t.1))
      by (inr t) = place-contains (front ++ back) t.0 y t.2

  -- a list without repetition, and an item that is none of it
  pub HasNoRepeat-more : (front : List X) (x : X) (back : List X) → HasNoRepeat (front ++ back) → (Contains (front ++ back) x → ⊥) → HasNoRepeat (front ++ x ∷ back)
  HasNoRepeat-more front x back once new = λ j k y a b. by j k y (get-cases front x back j y a) (get-cases front x back k y b)
    where
      none : (i : ℕ) (y : X) → slice_get (front ++ back) i ≡ Some y → x ≡ y → ⊥
      none i y a e = new (place-contains (front ++ back) i x (a ∙ ap Some (sym e)))

      by : (j k : ℕ) (y : X) → ((j ≡ length front) × (x ≡ y)) ⊎ ((i : ℕ) × (j ≡ past (length front) i) × (slice_get (front ++ back) i ≡ Some y))
          → ((k ≡ length front) × (x ≡ y)) ⊎ ((i : ℕ) × (k ≡ past (length front) i) × (slice_get (front ++ back) i ≡ Some y)) → j ≡ k
      by j k y (inl a) (inl b) = a.0 ∙ sym b.0
      by j k y (inl a) (inr b) = absurd (none b.0 y b.2 a.1)
      by j k y (inr a) (inl b) = absurd (none a.0 y a.2 b.1)
      by j k y (inr a) (inr b) = a.1 ∙ ap (past (length front)) (once a.0 b.0 y a.2 b.2) ∙ sym b.1

  -- a search that the new item fails
  pub find-more : (p : X → Bool) (front : List X) (x : X) (back : List X) → p x ≡ false → find p (front ++ x ∷ back) ≡ find p (front ++ back)
  find-more p [] x back e = ap (λ b. cond b (Some x) (find p back)) e
  find-more p (z ∷ zs) x back e = ap (cond (p z) (Some z)) (find-more p zs x back e)

  -- the fact of an item at a place
  pub all-get : (P : X → Type 0) (xs : List X) (j : ℕ) (x : X) → AllByRecursion P xs → slice_get xs j ≡ Some x → P x
  all-get P [] j x a e = absurd (cc)
  all-get P (z ∷ zs) zero x a e = let same : z ≡ x = cc in subst P same a.0
  all-get P (z ∷ zs) (suc j) x a e = all-get P zs j x a.1 e

  -- a fact of each item from the fact of it at its place
  pub all-of-each : (P : X → Type 0) (xs : List X) → ((j : ℕ) (x : X) → slice_get xs j ≡ Some x → P x) → AllByRecursion P xs
  all-of-each P [] h = tt
  all-of-each P (z ∷ zs) h = (h zero z refl, all-of-each P zs (λ j x e. h (suc j) x e))
