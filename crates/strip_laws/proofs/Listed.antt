-- Lists that are filtered, and tests that each of their items passes.
use Rattle.std.proofs.Common.{◌≡◌, ℕ, zero, suc, List, [], ◌∷◌, ◌++◌, Some, None, refl, sym, ap, ◌∙◌, subst, arith}
use Rattle.std.specs.Prelude.{Bool, true, false, ◌&&◌, cond, find, filter, map, flat_map, slice_get}
use Rattle.std.specs.List.{AllByRecursion, list_all}
use Rattle.std.proofs.lemmas.Bool.{false≢true, and_parts}
use Rattle.std.proofs.lemmas.List.Folds.{list_all-append}
use Rattle.image_model.specs.Valid.{HasNoRepeat}
use Rattle.run_model.proofs.Finite.{and-true_left, and-true_right}

-- each of one part
pub all-left : {X : Type 0} (p : X → Bool) (xs ys : List X) → list_all p (xs ++ ys) ≡ true → list_all p xs ≡ true
all-left p xs ys h = (and_parts (list_all p xs) (list_all p ys) (sym (list_all-append p xs ys) ∙ h)).0

pub all-right : {X : Type 0} (p : X → Bool) (xs ys : List X) → list_all p (xs ++ ys) ≡ true → list_all p ys ≡ true
all-right p xs ys h = (and_parts (list_all p xs) (list_all p ys) (sym (list_all-append p xs ys) ∙ h)).1

-- one at a place
pub all-place : {X : Type 0} (p : X → Bool) (xs : List X) (k : ℕ) (x : X) → list_all p xs ≡ true → slice_get xs k ≡ Some x → p x ≡ true
all-place p [] k x h at = absurd (cc)
all-place p (y ∷ ys) zero x h at = let same : y ≡ x = cc in ap p (sym same) ∙ and-true_left (p y) _ h
all-place p (y ∷ ys) (suc k) x h at = all-place p ys k x (and-true_right (p y) _ h) at

-- what a function gives for one at a place, among those that pass a test
pub all-given : {X Y : Type 0} (p : Y → Bool) (f : X → List Y) (q : X → Bool) (xs : List X) (k : ℕ) (x : X) → list_all p (flat_map f (filter q xs)) ≡ true → slice_get xs k ≡ Some x → q x ≡ true → list_all p (f x) ≡ true
all-given p f q [] k x h at t = absurd (cc)
all-given {X} p f q (y ∷ ys) zero x h at t =
    let same : y ≡ x = cc in
    let passes : q y ≡ true = ap q same ∙ t in
    subst (λ z. list_all p (f z) ≡ true) same (all-left p (f y) (flat_map f (filter q ys)) (sym (ap (λ b. list_all p (flat_map f (cond b (y ∷ filter q ys) (filter q ys)))) passes) ∙ h))
all-given {X} p f q (y ∷ ys) (suc k) x h at t = by (q y) h (λ e. all-given p f q ys k x e at t)
  where
    by : (b : Bool) → list_all p (flat_map f (cond b (y ∷ filter q ys) (filter q ys))) ≡ true → (list_all p (flat_map f (filter q ys)) ≡ true → list_all p (f x) ≡ true) → list_all p (f x) ≡ true
    by true e rest = rest (all-right p (f y) (flat_map f (filter q ys)) e)
    by false e rest = rest e

-- the same for all items
pub all-each : {X Y : Type 0} (p : Y → Bool) (f : X → List Y) (xs : List X) (k : ℕ) (x : X) → list_all p (flat_map f xs) ≡ true → slice_get xs k ≡ Some x → list_all p (f x) ≡ true
all-each p f [] k x h at = absurd (cc)
all-each p f (y ∷ ys) zero x h at = let same : y ≡ x = cc in subst (λ z. list_all p (f z) ≡ true) same (all-left p (f y) (flat_map f ys) h)
all-each p f (y ∷ ys) (suc k) x h at = all-each p f ys k x (all-right p (f y) (flat_map f ys) h) at

-- the same for a mapped list
pub all-mapped : {X Y : Type 0} (p : Y → Bool) (f : X → Y) (q : X → Bool) (xs : List X) (k : ℕ) (x : X) → list_all p (map f (filter q xs)) ≡ true → slice_get xs k ≡ Some x → q x ≡ true → p (f x) ≡ true
all-mapped p f q [] k x h at t = absurd (cc)
all-mapped p f q (y ∷ ys) zero x h at t =
    let same : y ≡ x = cc in
    let passes : q y ≡ true = ap q same ∙ t in
    subst (λ z. p (f z) ≡ true) same (and-true_left (p (f y)) _ (sym (ap (λ b. list_all p (map f (cond b (y ∷ filter q ys) (filter q ys)))) passes) ∙ h))
all-mapped {X} p f q (y ∷ ys) (suc k) x h at t = by (q y) h (λ e. all-mapped p f q ys k x e at t)
  where
    by : (b : Bool) → list_all p (map f (cond b (y ∷ filter q ys) (filter q ys))) ≡ true → (list_all p (map f (filter q ys)) ≡ true → p (f x) ≡ true) → p (f x) ≡ true
    by true e rest = rest (and-true_right (p (f y)) _ e)
    by false e rest = rest e

-- where an item of the filtered list stands in the whole
pub filter-place : {X : Type 0} (p : X → Bool) (xs : List X) (k : ℕ) (x : X) → slice_get (filter p xs) k ≡ Some x → (l : ℕ) × (slice_get xs l ≡ Some x) × (p x ≡ true)
filter-place p [] k x at = absurd (cc)
filter-place {X} p (y ∷ ys) k x at = by (p y) refl k at (λ l q. filter-place p ys l x q)
  where
    by : (b : Bool) → p y ≡ b → (k : ℕ) → slice_get (cond b (y ∷ filter p ys) (filter p ys)) k ≡ Some x → ((l : ℕ) → slice_get (filter p ys) l ≡ Some x → (n : ℕ) × (slice_get ys n ≡ Some x) × (p x ≡ true)) →
        (l : ℕ) × (slice_get (y ∷ ys) l ≡ Some x) × (p x ≡ true)
    by true e zero q rest = let same : y ≡ x = cc in (0, ap Some same, ap p (sym same) ∙ e)
    by true e (suc k) q rest = let there = rest k q in (suc there.0, there.1, there.2)
    by false e k q rest = let there = rest k q in (suc there.0, there.1, there.2)

-- and back
pub place-filter : {X : Type 0} (p : X → Bool) (xs : List X) (k : ℕ) (x : X) → slice_get xs k ≡ Some x → p x ≡ true → (l : ℕ) × (slice_get (filter p xs) l ≡ Some x)
place-filter p [] k x at t = absurd (cc)
place-filter p (y ∷ ys) zero x at t = let same : y ≡ x = cc in (0, ap (λ b. slice_get (cond b (y ∷ filter p ys) (filter p ys)) 0) (ap p same ∙ t) ∙ ap Some same)
place-filter {X} p (y ∷ ys) (suc k) x at t = by (p y) (place-filter p ys k x at t)
  where
    by : (b : Bool) → (l : ℕ) × (slice_get (filter p ys) l ≡ Some x) → (l : ℕ) × (slice_get (cond b (y ∷ filter p ys) (filter p ys)) l ≡ Some x)
    by true rest = (suc rest.0, rest.1)
    by false rest = rest

-- what holds of all holds of those that pass
pub filter-all : {X : Type 0} (P : X → Type 0) (p : X → Bool) (xs : List X) → AllByRecursion P xs → AllByRecursion P (filter p xs)
filter-all P p [] a = tt
filter-all {X} P p (x ∷ xs) a = by (p x) (filter-all P p xs a.1)
  where
    by : (b : Bool) → AllByRecursion P (filter p xs) → AllByRecursion P (cond b (x ∷ filter p xs) (filter p xs))
    by true rest = (a.0, rest)
    by false rest = rest

-- the same with the test
pub filter-passing : {X : Type 0} (P : X → Type 0) (p : X → Bool) (xs : List X) → AllByRecursion (λ x. p x ≡ true → P x) xs → AllByRecursion P (filter p xs)
filter-passing P p [] a = tt
filter-passing {X} P p (x ∷ xs) a = by (p x) refl (filter-passing P p xs a.1)
  where
    by : (b : Bool) → p x ≡ b → AllByRecursion P (filter p xs) → AllByRecursion P (cond b (x ∷ filter p xs) (filter p xs))
    by true e rest = (a.0 e, rest)
    by false e rest = rest

-- what is not there is not among those that pass
pub find-gone : {X : Type 0} (p q : X → Bool) (xs : List X) → find q xs ≡ None → find q (filter p xs) ≡ None
find-gone p q [] e = refl
find-gone {X} p q (x ∷ xs) e = by (q x) refl (p x) e (find-gone p q xs)
  where
    by : (b : Bool) → q x ≡ b → (a : Bool) → cond b (Some x) (find q xs) ≡ None → (find q xs ≡ None → find q (filter p xs) ≡ None) → find q (cond a (x ∷ filter p xs) (filter p xs)) ≡ None
    by true f a n rest = absurd (cc)
    by false f true n rest = ap (λ b. cond b (Some x) (find q (filter p xs))) f ∙ rest n
    by false f false n rest = rest n

-- those that pass a second test, where they pass the first
pub filter-filter : {X : Type 0} (p q : X → Bool) (xs : List X) → AllByRecursion (λ x. q x ≡ true → p x ≡ true) xs → filter q (filter p xs) ≡ filter q xs
filter-filter p q [] a = refl
filter-filter {X} p q (x ∷ xs) a = by (p x) refl (filter-filter p q xs a.1)
  where
    fails : (b : Bool) → q x ≡ b → p x ≡ false → filter q (filter p xs) ≡ filter q xs → filter q (filter p xs) ≡ cond b (x ∷ filter q xs) (filter q xs)
    fails true e f ih = absurd (false≢true (sym f ∙ a.0 e))
    fails false e f ih = ih

    by : (b : Bool) → p x ≡ b → filter q (filter p xs) ≡ filter q xs → filter q (cond b (x ∷ filter p xs) (filter p xs)) ≡ cond (q x) (x ∷ filter q xs) (filter q xs)
    by true e ih = ap (λ (ys : List X). cond (q x) (x ∷ ys) ys) ih
    by false e ih = fails (q x) refl e ih

-- where a value of the filtered list stands
mapped-place : {X Y : Type 0} (f : X → Y) (p : X → Bool) (xs : List X) (k : ℕ) (y : Y) → slice_get (map f (filter p xs)) k ≡ Some y → (l : ℕ) × (slice_get (map f xs) l ≡ Some y)
mapped-place f p [] k y at = absurd (cc)
mapped-place {X} {Y} f p (x ∷ xs) k y at = by (p x) k at (λ l q. mapped-place f p xs l y q)
  where
    by : (b : Bool) (k : ℕ) → slice_get (map f (cond b (x ∷ filter p xs) (filter p xs))) k ≡ Some y → ((l : ℕ) → slice_get (map f (filter p xs)) l ≡ Some y → (n : ℕ) × (slice_get (map f xs) n ≡ Some y)) → (l : ℕ) × (slice_get (f x ∷ map f xs) l ≡ Some y)
    by true zero q rest = (0, q)
    by true (suc k) q rest = let there = rest k q in (suc there.0, there.1)
    by false k q rest = let there = rest k q in (suc there.0, there.1)

-- values without repeats
pub filter-once : {X Y : Type 0} (f : X → Y) (p : X → Bool) (xs : List X) → HasNoRepeat (map f xs) → HasNoRepeat (map f (filter p xs))
filter-once f p [] once = once
filter-once {X} {Y} f p (x ∷ xs) once = by (p x) (filter-once f p xs tail)
  where
    tail : HasNoRepeat (map f xs)
    tail j k y a b = less (once (suc j) (suc k) y a b)
      where
        less : suc j ≡ suc k → j ≡ k
        less e = omega (arith, e)

    new : (k : ℕ) (y : Y) → f x ≡ y → slice_get (map f (filter p xs)) k ≡ Some y → ⊥
    new k y e at =
        let there = mapped-place f p xs k y at in
        apart there.0 (once 0 (suc there.0) y (ap Some e) there.1)
      where
        apart : (l : ℕ) → 0 ≡ suc l → ⊥
        apart l q = absurd (omega (arith, q))

    by : (b : Bool) → HasNoRepeat (map f (filter p xs)) → HasNoRepeat (map f (cond b (x ∷ filter p xs) (filter p xs)))
    by true rest zero zero y a b = refl
    by true rest zero (suc k) y a b = let same : f x ≡ y = cc in absurd (new k y same b)
    by true rest (suc j) zero y a b = let same : f x ≡ y = cc in absurd (new j y same a)
    by true rest (suc j) (suc k) y a b = ap suc (rest j k y a b)
    by false rest j k y a b = rest j k y a b

-- each passes where the one at each place does
pub all-from : {X : Type 0} (p : X → Bool) (xs : List X) → ((k : ℕ) (x : X) → slice_get xs k ≡ Some x → p x ≡ true) → list_all p xs ≡ true
all-from p [] h = refl
all-from p (x ∷ xs) h = (λ i. h 0 x refl i && list_all p xs) ∙ all-from p xs (λ k y at. h (suc k) y at)
