-- Lists of which all items are so, and what they are made of.
use Rattle.std.proofs.Common.{◌≡◌, ℕ, suc, ◌+◌, List, [], ◌∷◌, ◌++◌, Option, Some, None, map, refl, sym, ap, subst, ◌∙◌, arith}
use Rattle.std.specs.Prelude.{Bool, true, false, cond, filter, slice_get, find}
use Rattle.std.specs.List.{AllByRecursion, flat_map, enumerate_from}
use Rattle.std.specs.Option.{option_map_or, option_or}
use Rattle.image_model.specs.Upwards.{first_given}
use Rattle.refusal_witnesses.specs.Witnesses.{WitnessOf, where_true}

pub all-weaker : {X : Type 0} (P Q : X → Type 0) → ((x : X) → P x → Q x) → (xs : List X) → AllByRecursion P xs → AllByRecursion Q xs
all-weaker P Q f [] h = tt
all-weaker P Q f (x ∷ xs) h = (f x h.0, all-weaker P Q f xs h.1)

pub all-every : {X : Type 0} (P : X → Type 0) → ((x : X) → P x) → (xs : List X) → AllByRecursion P xs
all-every P f [] = tt
all-every P f (x ∷ xs) = (f x, all-every P f xs)

pub all-both : {X : Type 0} (P : X → Type 0) (xs ys : List X) → AllByRecursion P xs → AllByRecursion P ys → AllByRecursion P (xs ++ ys)
all-both P [] ys h k = k
all-both P (x ∷ xs) ys h k = (h.0, all-both P xs ys h.1 k)

pub all-mapped : {X Y : Type 0} (P : X → Type 0) (f : Y → X) (ys : List Y) → AllByRecursion (λ y. P (f y)) ys → AllByRecursion P (map f ys)
all-mapped P f [] h = tt
all-mapped P f (y ∷ ys) h = (h.0, all-mapped P f ys h.1)

pub all-filtered : {X : Type 0} (P : X → Type 0) (p : X → Bool) (xs : List X) → AllByRecursion P xs → AllByRecursion P (filter p xs)
all-filtered P p [] h = tt
all-filtered {X} P p (x ∷ xs) h = by (p x) (all-filtered P p xs h.1)
  where
    by : (b : Bool) → AllByRecursion P (filter p xs) → AllByRecursion P (cond b (x ∷ filter p xs) (filter p xs))
    by true rest = (h.0, rest)
    by false rest = rest

pub all-joined : {X Y : Type 0} (P : X → Type 0) (f : Y → List X) (ys : List Y) → AllByRecursion (λ y. AllByRecursion P (f y)) ys → AllByRecursion P (flat_map f ys)
all-joined P f [] h = tt
all-joined P f (y ∷ ys) h = all-both P (f y) (flat_map f ys) h.0 (all-joined P f ys h.1)

pub all-cond : {X : Type 0} (P : X → Type 0) (b : Bool) (xs ys : List X) → AllByRecursion P xs → AllByRecursion P ys → AllByRecursion P (cond b xs ys)
all-cond P true xs ys h k = h
all-cond P false xs ys h k = k

pub all-where : {N : Type 0} (P : WitnessOf N → Type 0) (b : Bool) (w : WitnessOf N) → P w → AllByRecursion P (where_true b w)
all-where P true w h = (h, tt)
all-where P false w h = tt

-- where a test is true that tells it
pub all-where-true : {N : Type 0} (P : WitnessOf N → Type 0) (b : Bool) (w : WitnessOf N) → (b ≡ true → P w) → AllByRecursion P (where_true b w)
all-where-true P true w h = (h refl, tt)
all-where-true P false w h = tt

pub all-given : {X Y : Type 0} (P : X → Type 0) (f : Y → List X) (o : Option Y) (others : List X) → ((y : Y) → o ≡ Some y → AllByRecursion P (f y)) → AllByRecursion P others → AllByRecursion P (option_map_or f o others)
all-given P f None others h k = k
all-given P f (Some y) others h k = h y refl

-- what is found is one of the list
pub all-found : {X : Type 0} (P : X → Type 0) (p : X → Bool) (xs : List X) (x : X) → AllByRecursion P xs → find p xs ≡ Some x → P x
all-found P p [] x h e = absurd (cc)
all-found {X} P p (y ∷ ys) x h e = by (p y) (all-found P p ys x h.1) e
  where
    by : (b : Bool) → (find p ys ≡ Some x → P x) → cond b (Some y) (find p ys) ≡ Some x → P x
    by true rest g =
        let same : y ≡ x = cc in
        subst P same h.0
    by false rest g = rest g

-- the items with their numbers, and what stands at a number
pub all-numbered : {X : Type 0} (P : X → Type 0) (xs : List X) (k : ℕ) (ys : List X) → ((n : ℕ) → slice_get ys n ≡ slice_get xs (k + n)) → AllByRecursion P ys → AllByRecursion (λ (e : ℕ × X). (slice_get xs e.0 ≡ Some e.1) × P e.1) (enumerate_from k ys)
all-numbered P xs k [] at h = tt
all-numbered P xs k (y ∷ ys) at h =
    let here : k + 0 ≡ k = omega arith in
    let first : slice_get xs k ≡ Some y = ap (slice_get xs) (sym here) ∙ sym (at 0) in
    ((first, h.0), all-numbered P xs (k + 1) ys (λ n. at (suc n) ∙ ap (slice_get xs) (next n)) h.1)
  where
    next : (n : ℕ) → k + suc n ≡ (k + 1) + n
    next n = omega arith

pub all-from-first : {X : Type 0} (P : X → Type 0) (xs : List X) → AllByRecursion P xs → AllByRecursion (λ (e : ℕ × X). (slice_get xs e.0 ≡ Some e.1) × P e.1) (enumerate_from 0 xs)
all-from-first P xs h = all-numbered P xs 0 xs (λ n. ap (slice_get xs) (same n)) h
  where
    same : (n : ℕ) → n ≡ 0 + n
    same n = omega arith

-- what is given for one of a list
pub first-given : {X Y : Type 0} (P : Y → Type 0) (f : X → Option Y) → ((x : X) (y : Y) → f x ≡ Some y → P y) → (xs : List X) (y : Y) → first_given f xs ≡ Some y → P y
first-given P f h [] y e = absurd (cc)
first-given {X} {Y} P f h (x ∷ xs) y e = by (f x) refl (first-given P f h xs y) e
  where
    by : (o : Option Y) → f x ≡ o → (first_given f xs ≡ Some y → P y) → option_or o (first_given f xs) ≡ Some y → P y
    by None q rest g = rest g
    by (Some z) q rest g = h x y (q ∙ g)
