-- Laws of what stands above a thing.
use Rattle.std.proofs.Common.{◌≡◌, ℕ, zero, suc, ◌<◌, ◌≤◌, List, [], ◌∷◌, map, Option, Some, None, option_map, slice_get, refl, sym, ap, ◌∙◌, arith}
use Rattle.std.specs.List.{AllByRecursion}
use Rattle.std.specs.Option.{option_or}
use Rattle.image_model.specs.ImageNames.{OptionNames}
use Rattle.image_model.specs.Upwards.{upwards, first_given, nth_above}

-- the n-th of a thing and what is above it is the n-th of the list of them
pub slice_get-upwards : {X : Type 0} (up : X → Option X) (k n : ℕ) (o : Option X) → n < k → slice_get (upwards up k o) n ≡ nth_above up n o
slice_get-upwards up zero n o h = absurd (omega arith)
slice_get-upwards up (suc k) zero None h = refl
slice_get-upwards up (suc k) zero (Some x) h = refl
slice_get-upwards up (suc k) (suc n) None h = refl
slice_get-upwards up (suc k) (suc n) (Some x) h = slice_get-upwards up k n (up x) (omega arith)

-- what holds of a thing, and of what is above each thing of which it holds
pub upwards-all : {X : Type 0} (P : X → Type 0) (up : X → Option X) → ((x : X) → P x → OptionNames P (up x)) → (k : ℕ) (o : Option X) → OptionNames P o → AllByRecursion P (upwards up k o)
upwards-all P up h zero o p = tt
upwards-all P up h (suc k) None p = tt
upwards-all P up h (suc k) (Some x) p = (p, upwards-all P up h k (up x) (h x p))

-- a function that leads from what is above a thing to what is above its value
module _ {X Y : Type 0} (f : X → Y) (up : X → Option X) (up_there : Y → Option Y) (P : X → Type 0) (keeps : (x : X) → P x → OptionNames P (up x)) (same : (x : X) → P x → up_there (f x) ≡ option_map f (up x)) where
  pub upwards-map : (k : ℕ) (o : Option X) → OptionNames P o → upwards up_there k (option_map f o) ≡ map f (upwards up k o)
  upwards-map zero o p = refl
  upwards-map (suc k) None p = refl
  upwards-map (suc k) (Some x) p =
      ap (λ (ys : List Y). f x ∷ ys) (ap (upwards up_there k) (same x p) ∙ upwards-map k (up x) (keeps x p))

-- the first that is given of mapped items
pub first_given-map : {X Y A B : Type 0} (f : X → Y) (h : A → B) (give : X → Option A) (give_there : Y → Option B) (xs : List X) → AllByRecursion (λ x. give_there (f x) ≡ option_map h (give x)) xs
    → first_given give_there (map f xs) ≡ option_map h (first_given give xs)
first_given-map f h give give_there [] a = refl
first_given-map f h give give_there (x ∷ xs) a = (λ i. option_or (a.0 i) (first_given-map f h give give_there xs a.1 i)) ∙ by (give x)
  where
    by : (o : Option _) → option_or (option_map h o) (option_map h (first_given give xs)) ≡ option_map h (option_or o (first_given give xs))
    by None = refl
    by (Some y) = refl

-- what is given is the same where it is the same of each item
pub first_given-same : {X A : Type 0} (give again : X → Option A) (xs : List X) → AllByRecursion (λ x. give x ≡ again x) xs → first_given give xs ≡ first_given again xs
first_given-same give again [] a = refl
first_given-same give again (x ∷ xs) a = λ i. option_or (a.0 i) (first_given-same give again xs a.1 i)

-- nothing is above nothing
pub upwards-none : {X : Type 0} (up : X → Option X) (n : ℕ) → upwards up n None ≡ []
upwards-none up zero = refl
upwards-none up (suc n) = refl

-- things with places, each below the places of what is under it
module _ {X : Type 0} (up : X → Option X) (At : ℕ → X → Type 0) (higher : (j : ℕ) (x y : X) → At j x → up x ≡ Some y → (i : ℕ) × (i < j) × At i y) where
  -- no more things are above one than its place says
  pub upwards-enough : (bound j k l : ℕ) (x : X) → j < bound → bound ≤ k → bound ≤ l → At j x → upwards up k (Some x) ≡ upwards up l (Some x)
  upwards-enough zero j k l x h hk hl at = absurd (omega arith)
  upwards-enough (suc bound) j zero l x h hk hl at = absurd (omega arith)
  upwards-enough (suc bound) j (suc k) zero x h hk hl at = absurd (omega arith)
  upwards-enough (suc bound) j (suc k) (suc l) x h hk hl at =
      ap (λ (ys : List X). x ∷ ys) (by (up x) refl (λ i y less there. upwards-enough bound i k l y less (omega arith) (omega arith) there))
    where
      by : (o : Option X) → up x ≡ o → ((i : ℕ) (y : X) → i < bound → At i y → upwards up k (Some y) ≡ upwards up l (Some y)) → upwards up k o ≡ upwards up l o
      by None e rest = upwards-none up k ∙ sym (upwards-none up l)
      by (Some y) e rest =
          let there = higher j x y at e in
          rest there.0 y (let less : there.0 < j = there.1 in omega arith) there.2

  -- what is above a thing is it and then what is above the one above it
  pub upwards-whole : (n j : ℕ) (x : X) → j < n → At j x → upwards up n (Some x) ≡ x ∷ upwards up n (up x)
  upwards-whole zero j x h at = absurd (omega arith)
  upwards-whole (suc k) j x h at = ap (λ (ys : List X). x ∷ ys) (by (up x) refl)
    where
      by : (o : Option X) → up x ≡ o → upwards up k o ≡ upwards up (suc k) o
      by None e = upwards-none up k
      by (Some y) e =
          let there = higher j x y at e in
          upwards-enough k there.0 k (suc k) y (let less : there.0 < j = there.1 in omega arith) (omega arith) (omega arith) there.2
