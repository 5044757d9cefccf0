-- Items that pass a test.
use Rattle.std.proofs.Common.{◌≡◌, ◌⊎◌, inl, inr, ℕ, zero, suc, ◌||◌, Bool, true, false, List, [], ◌∷◌, map, Some, slice_get, refl, sym, ap, ◌∙◌, true≢false}
use Rattle.std.specs.Prelude.{nat_eq}
use Rattle.std.specs.List.{list_any}
use Rattle.std.proofs.lemmas.Bool.{or_cases, or_left, or_right}
use Rattle.class_table.specs.Valid.{IsLive}
use Rattle.class_table.proofs.Live.{IsLive-first, IsLive-rest, eqb-equal}

-- two tests that imply each other
pub same-truth : (a b : Bool) → (a ≡ true → b ≡ true) → (b ≡ true → a ≡ true) → a ≡ b
same-truth true b f g = sym (f refl)
same-truth false true f g = g refl
same-truth false false f g = refl

module _ {X : Type 0} (p : X → Bool) where
  -- an item that passes, and its place
  pub passing : (xs : List X) → list_any p xs ≡ true → (j : ℕ) × (x : X) × (slice_get xs j ≡ Some x) × (p x ≡ true)
  passing [] e = absurd (true≢false (sym e))
  passing (x ∷ xs) e = by (or_cases (p x) (list_any p xs) e) (passing xs)
    where
      by : (p x ≡ true) ⊎ (list_any p xs ≡ true) → (list_any p xs ≡ true → (j : ℕ) × (y : X) × (slice_get xs j ≡ Some y) × (p y ≡ true))
          → (j : ℕ) × (y : X) × (slice_get (x ∷ xs) j ≡ Some y) × (p y ≡ true)
      by (inl h) rest = (0, x, refl, h)
      by (inr h) rest = let r = rest h in (suc r.0, r.1, r.2, r.3)

  -- where an item passes, one does
  pub passes-any : (xs : List X) (j : ℕ) (x : X) → slice_get xs j ≡ Some x → p x ≡ true → list_any p xs ≡ true
  passes-any [] j x e h = absurd (cc)
  passes-any (y ∷ ys) zero x e h = let same : y ≡ x = cc in or_left (p y) (list_any p ys) (ap p same ∙ h)
  passes-any (y ∷ ys) (suc j) x e h = or_right (p y) (list_any p ys) (passes-any ys j x e h)

-- an item whose image passes
pub passes-mapped : {X Y : Type 0} (f : X → Y) (p : Y → Bool) (xs : List X) (j : ℕ) (x : X) → slice_get xs j ≡ Some x → p (f x) ≡ true → list_any p (map f xs) ≡ true
passes-mapped f p [] j x e h = absurd (cc)
passes-mapped f p (y ∷ ys) zero x e h = let same : y ≡ x = cc in or_left (p (f y)) (list_any p (map f ys)) (ap (λ z. p (f z)) same ∙ h)
passes-mapped f p (y ∷ ys) (suc j) x e h = or_right (p (f y)) (list_any p (map f ys)) (passes-mapped f p ys j x e h)

-- an item of a mapped list that passes
pub passing-mapped : {X Y : Type 0} (f : X → Y) (p : Y → Bool) (xs : List X) → list_any p (map f xs) ≡ true → (j : ℕ) × (x : X) × (slice_get xs j ≡ Some x) × (p (f x) ≡ true)
passing-mapped f p [] e = absurd (true≢false (sym e))
passing-mapped f p (x ∷ xs) e = by (or_cases (p (f x)) (list_any p (map f xs)) e) (passing-mapped f p xs)
  where
    by : (p (f x) ≡ true) ⊎ (list_any p (map f xs) ≡ true) → (list_any p (map f xs) ≡ true → (j : ℕ) × (y : _) × (slice_get xs j ≡ Some y) × (p (f y) ≡ true))
        → (j : ℕ) × (y : _) × (slice_get (x ∷ xs) j ≡ Some y) × (p (f y) ≡ true)
    by (inl h) rest = (0, x, refl, h)
    by (inr h) rest = let r = rest h in (suc r.0, r.1, r.2, r.3)

-- a live slot that passes
pub passing-live : (p : ℕ → Bool) (order : List ℕ) → list_any p order ≡ true → (k : ℕ) × IsLive order k × (p k ≡ true)
passing-live p [] e = absurd (true≢false (sym e))
passing-live p (k ∷ ks) e = by (or_cases (p k) (list_any p ks) e) (passing-live p ks)
  where
    by : (p k ≡ true) ⊎ (list_any p ks ≡ true) → (list_any p ks ≡ true → (j : ℕ) × IsLive ks j × (p j ≡ true)) → (j : ℕ) × IsLive (k ∷ ks) j × (p j ≡ true)
    by (inl h) rest = (k, IsLive-first k ks, h)
    by (inr h) rest = let r = rest h in (r.0, IsLive-rest r.0 k ks r.1, r.2)

-- where a live slot passes, one does
pub passes-live : (p : ℕ → Bool) (order : List ℕ) (k : ℕ) → IsLive order k → p k ≡ true → list_any p order ≡ true
passes-live p [] k l h = absurd (true≢false (sym l))
passes-live p (j ∷ js) k l h = by (or_cases (nat_eq k j) (list_any (nat_eq k) js) l) (λ m. passes-live p js k m h)
  where
    by : (nat_eq k j ≡ true) ⊎ (list_any (nat_eq k) js ≡ true) → (IsLive js k → list_any p js ≡ true) → (p j || list_any p js) ≡ true
    by (inl e) rest = or_left (p j) (list_any p js) (ap p (sym (eqb-equal k j e)) ∙ h)
    by (inr m) rest = or_right (p j) (list_any p js) (rest m)

-- a test of the items of a mapped list
pub any-mapped : {X Y : Type 0} (f : X → Y) (p : Y → Bool) (xs : List X) → list_any p (map f xs) ≡ list_any (λ x. p (f x)) xs
any-mapped f p [] = refl
any-mapped f p (x ∷ xs) = ap (λ (b : Bool). p (f x) || b) (any-mapped f p xs)
