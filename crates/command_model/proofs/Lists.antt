-- Lists whose items all pass, and what they are made of.
use Rattle.std.proofs.Common.{◌≡◌, List, [], ◌∷◌, ◌++◌, Option, Some, None, refl, ap, subst, ◌∙◌}
use Rattle.std.specs.Prelude.{Bool, true, false, cond, not, find, map}
use Rattle.std.specs.List.{AllByRecursion}
use Rattle.std.specs.Option.{option_map_or}

module _ {X : Type 0} (p : X → Bool) where
  -- where nothing is found that fails, all pass
  pub all-pass : (xs : List X) → find (λ x. not (p x)) xs ≡ None → AllByRecursion (λ x. p x ≡ true) xs
  all-pass [] e = tt
  all-pass (x ∷ xs) e = by (p x) refl e (all-pass xs)
    where
      by : (b : Bool) → p x ≡ b → cond (not b) (Some x) (find (λ y. not (p y)) xs) ≡ None → (find (λ y. not (p y)) xs ≡ None → AllByRecursion (λ y. p y ≡ true) xs) → (p x ≡ true) × AllByRecursion (λ y. p y ≡ true) xs
      by true q h rest = (q, rest h)
      by false q h rest = absurd (cc)

  -- where all pass, nothing is found that fails
  pub none-fails : (xs : List X) → AllByRecursion (λ x. p x ≡ true) xs → find (λ x. not (p x)) xs ≡ None
  none-fails [] h = refl
  none-fails (x ∷ xs) h = ap (λ b. cond (not b) (Some x) (find (λ y. not (p y)) xs)) h.0 ∙ none-fails xs h.1

module _ {X : Type 0} (P : X → Type 0) where
  -- the items of the first of two lists, and those of the second
  pub in-both : (xs ys : List X) → AllByRecursion P (xs ++ ys) → AllByRecursion P xs × AllByRecursion P ys
  in-both [] ys h = (tt, h)
  in-both (x ∷ xs) ys h = let rest = in-both xs ys h.1 in ((h.0, rest.0), rest.1)

  -- what a mapped list is made of
  pub of-mapped : {Y : Type 0} (f : Y → X) (ys : List Y) → AllByRecursion P (map f ys) → AllByRecursion (λ y. P (f y)) ys
  of-mapped f [] h = tt
  of-mapped f (y ∷ ys) h = (h.0, of-mapped f ys h.1)

  -- items that are given something
  pub when-given : {Y : Type 0} (f : Y → List X) (o : Option Y) → AllByRecursion P (option_map_or f o []) → (y : Y) → o ≡ Some y → AllByRecursion P (f y)
  when-given {Y} f o h y e = subst (λ (z : Option Y). AllByRecursion P (option_map_or f z [])) e h

  pub if-given : {Y : Type 0} (f : Y → List X) (o : Option Y) → ((y : Y) → o ≡ Some y → AllByRecursion P (f y)) → AllByRecursion P (option_map_or f o [])
  if-given f None h = tt
  if-given f (Some y) h = h y refl
