-- Chains in lists of classes in which each superclass stands before its subclasses.
use Rattle.std.proofs.Common.{◌≡◌, ℕ, zero, suc, ◌<◌, ◌≤◌, Bool, true, false, cond, List, [], ◌∷◌, length, map, find, Option, Some, None, slice_get, refl, sym, ap, ◌∙◌, arith}
use Rattle.std.proofs.lemmas.Option.{slice_get_within}
use Rattle.image_model.specs.Image.{ClassOf}
use Rattle.image_model.specs.Chain.{class_of_name, superclass_of, chain_from}
use Rattle.image_model.specs.Valid.{SuperclassesStandBefore}
use Rattle.image_model.proofs.UpwardsLemmas.{upwards-whole}

-- what is found stands no later than any item that passes
find-early : {X : Type 0} (p : X → Bool) (xs : List X) (i : ℕ) (x y : X) → slice_get xs i ≡ Some x → p x ≡ true → find p xs ≡ Some y → (j : ℕ) × (j ≤ i) × (slice_get xs j ≡ Some y)
find-early p [] i x y at h e = absurd (cc)
find-early p (z ∷ zs) zero x y at h e =
    let same : z ≡ x = cc in
    let passes : p z ≡ true = ap p same ∙ h in
    (0, omega arith, sym (ap (λ b. cond b (Some z) (find p zs)) passes) ∙ e)
find-early p (z ∷ zs) (suc i) x y at h e = by (p z) refl e (find-early p zs i x y at h)
  where
    by : (b : Bool) → p z ≡ b → cond b (Some z) (find p zs) ≡ Some y → (find p zs ≡ Some y → (j : ℕ) × (j ≤ i) × (slice_get zs j ≡ Some y)) → (j : ℕ) × (j ≤ suc i) × (slice_get (z ∷ zs) j ≡ Some y)
    by true q r rest = (0, omega arith, r)
    by false q r rest = let found = rest r in (suc found.0, (let less : found.0 ≤ i = found.1 in omega arith), found.2)

-- the item whose value stands at a place of a mapped list
pub slice_get-map : {X Y : Type 0} (f : X → Y) (xs : List X) (i : ℕ) (y : Y) → slice_get (map f xs) i ≡ Some y → (x : X) × (slice_get xs i ≡ Some x) × (f x ≡ y)
slice_get-map f [] i y e = absurd (cc)
slice_get-map f (x ∷ xs) zero y e = let same : f x ≡ y = cc in (x, refl, same)
slice_get-map f (x ∷ xs) (suc i) y e = slice_get-map f xs i y e

module _ {N : Type 0} (same : N → N → Bool) (reflexive : (n : N) → same n n ≡ true) (classes : List (ClassOf N)) (before : SuperclassesStandBefore classes) where
  -- the superclass of a class stands before it
  pub superclass_before : (j : ℕ) (c d : ClassOf N) → slice_get classes j ≡ Some c → superclass_of same classes c ≡ Some d → (i : ℕ) × (i < j) × (slice_get classes i ≡ Some d)
  superclass_before j c d at e = by c.superclass refl e
    where
      by : (o : Option N) → c.superclass ≡ o → class_of_name same classes o ≡ Some d → (i : ℕ) × (i < j) × (slice_get classes i ≡ Some d)
      by None q r = absurd (cc)
      by (Some n) q r =
          let named = before j c n at q in
          let other = slice_get-map (λ (x : ClassOf N). x.name) classes named.0 n named.2 in
          let found = find-early (λ x. same n x.name) classes named.0 other.0 d other.1 (ap (same n) other.2 ∙ reflexive n) r in
          (found.0, (let first : found.0 ≤ named.0 = found.1 in let less : named.0 < j = named.1 in omega arith), found.2)

  -- the chain of a class is the class and then the chain of its superclass
  pub chain_from-step : (j : ℕ) (c : ClassOf N) → slice_get classes j ≡ Some c → chain_from same classes (Some c) ≡ c ∷ chain_from same classes (superclass_of same classes c)
  chain_from-step j c at =
      upwards-whole (superclass_of same classes) (λ k d. slice_get classes k ≡ Some d) superclass_before (length classes) j c (slice_get_within classes j c at) at
