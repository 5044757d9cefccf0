-- The one item of a list that passes a test, and the list in which it is another one.
use Rattle.std.proofs.Common.{◌≡◌, ℕ, suc, List, [], ◌∷◌, ◌++◌, slice_get, Bool, true, false, ◌&&◌, Some, map, refl, ap, ◌∙◌, arith}
use Rattle.std.specs.Prelude.{find, cond, if◌then◌else◌}

-- no two items pass
abbrev pub PassesOnce : {X : Type 0} → (X → Bool) → List X → Type 0
PassesOnce {X} p xs = (j k : ℕ) (x y : X) → slice_get xs j ≡ Some x → p x ≡ true → slice_get xs k ≡ Some y → p y ≡ true → j ≡ k

module _ {X : Type 0} (p q : X → Bool) (f : X → X) where
  -- an item that passes both tests becomes another one
  abbrev pub changed : X → X
  changed x = if p x && q x then f x else x

  none-changed : (xs : List X) → ((k : ℕ) (x : X) → slice_get xs k ≡ Some x → p x ≡ false) → map changed xs ≡ xs
  none-changed [] h = refl
  none-changed (x ∷ xs) h = λ j. (if h 0 x refl j && q x then f x else x) ∷ none-changed xs (λ k y e. h (suc k) y e) j

  -- the list in two parts round the item that is found
  pub record Parted (xs : List X) (n : X) : Type 0 where
    pub earlier : List X
    pub later : List X
    pub before : xs ≡ earlier ++ n ∷ later
    pub after : map changed xs ≡ earlier ++ f n ∷ later

  pub parted : (xs : List X) (n : X) → PassesOnce p xs → find p xs ≡ Some n → q n ≡ true → Parted xs n
  parted [] n once e h = absurd (cc)
  parted (x ∷ xs) n once e h = by (p x) refl e (λ o g. parted xs n o g h)
    where
      apart : (k : ℕ) → 0 ≡ suc k → ⊥
      apart k z = omega (arith, z)

      less : (j k : ℕ) → suc j ≡ suc k → j ≡ k
      less j k z = omega (arith, z)

      either : (b : Bool) → (b ≡ true → ⊥) → b ≡ false
      either true h = absurd (h refl)
      either false h = refl

      by : (b : Bool) → p x ≡ b → cond b (Some x) (find p xs) ≡ Some n → (PassesOnce p xs → find p xs ≡ Some n → Parted xs n) → Parted (x ∷ xs) n
      by true t g ih =
          let same : x ≡ n = cc in
          let rest : map changed xs ≡ xs = none-changed xs (λ k y e. either (p y) (λ s. apart k (once 0 (suc k) x y refl t e s))) in
          record {
            earlier = [];
            later = xs;
            before = ap (λ y. y ∷ xs) same;
            after = (λ j. (if t j && q x then f x else x) ∷ rest j) ∙ ap (λ b. (if b then f x else x) ∷ xs) (ap q same ∙ h) ∙ ap (λ y. f y ∷ xs) same;
          }
      by false t g ih =
          let r = ih (λ j k y z d s e u. less j k (once (suc j) (suc k) y z d s e u)) g in
          record {
            earlier = x ∷ r.earlier;
            later = r.later;
            before = ap (λ l. x ∷ l) r.before;
            after = λ j. (if t j && q x then f x else x) ∷ r.after j;
          }
