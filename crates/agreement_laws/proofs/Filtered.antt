-- What is found among the items that pass a test.
use Rattle.std.proofs.Common.{◌≡◌, List, [], ◌∷◌, Some, None, refl, sym, ap, ◌∙◌}
use Rattle.std.specs.Prelude.{Bool, true, false, not, cond, find, filter}
use Rattle.std.specs.List.{AllByRecursion}
use Rattle.std.proofs.lemmas.Bool.{false≢true}
use Rattle.mapped_model.proofs.RenamedVariableLemmas.{at-all}

-- what is searched for is found among the items that pass, if it passes
pub find-kept_all : {X : Type 0} (p q : X → Bool) (xs : List X) → AllByRecursion (λ x. q x ≡ true → p x ≡ true) xs → find q (filter p xs) ≡ find q xs
find-kept_all p q [] a = refl
find-kept_all {X} p q (x ∷ xs) a = by (p x) refl (find-kept_all p q xs a.1)
  where
    fails : (b : Bool) → q x ≡ b → p x ≡ false → find q (filter p xs) ≡ find q xs → find q (filter p xs) ≡ cond b (Some x) (find q xs)
    fails true e f ih = absurd (false≢true (sym f ∙ a.0 e))
    fails false e f ih = ih

    by : (b : Bool) → p x ≡ b → find q (filter p xs) ≡ find q xs → find q (cond b (x ∷ filter p xs) (filter p xs)) ≡ cond (q x) (Some x) (find q xs)
    by true e ih = ap (λ o. cond (q x) (Some x) o) ih
    by false e ih = fails (q x) refl e ih

-- the same for all items that there may be
pub find-kept : {X : Type 0} (p q : X → Bool) → ((x : X) → q x ≡ true → p x ≡ true) → (xs : List X) → find q (filter p xs) ≡ find q xs
find-kept p q h xs = find-kept_all p q xs (at-all (λ x. q x ≡ true → p x ≡ true) xs (λ k x at. h x))

-- what is searched for is found among the items that fail another test, if those that pass that one are not searched for
pub find-filter : {X : Type 0} (p q : X → Bool) → ((x : X) → p x ≡ true → q x ≡ false) → (xs : List X) → find q (filter (λ x. not (p x)) xs) ≡ find q xs
find-filter {X} p q h xs = find-kept (λ x. not (p x)) q (λ x t. by x t (p x) refl) xs
  where
    by : (x : X) → q x ≡ true → (b : Bool) → p x ≡ b → not b ≡ true
    by x t true e = absurd (false≢true (sym (h x e) ∙ t))
    by x t false e = refl

-- nothing that passes is left
pub find-none : {X : Type 0} (p : X → Bool) (xs : List X) → find p (filter (λ x. not (p x)) xs) ≡ None
find-none p [] = refl
find-none {X} p (x ∷ xs) = by (p x) refl (find-none p xs)
  where
    by : (b : Bool) → p x ≡ b → find p (filter (λ y. not (p y)) xs) ≡ None → find p (cond (not b) (x ∷ filter (λ y. not (p y)) xs) (filter (λ y. not (p y)) xs)) ≡ None
    by true e ih = ih
    by false e ih = ap (λ b. cond b (Some x) (find p (filter (λ y. not (p y)) xs))) e ∙ ih
