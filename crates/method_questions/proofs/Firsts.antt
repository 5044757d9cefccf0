-- Searches for the first slot that passes one of two tests, and searches in changed lists.
use Rattle.std.proofs.Common.{◌≡◌, ◌⊎◌, inl, inr, ℕ, Bool, true, false, cond, ◌||◌, List, [], ◌∷◌, map, find, Option, Some, None, option_map, refl, sym, ap, ◌∙◌, true≢false}
use Rattle.std.specs.Prelude.{nat_eq}
use Rattle.std.specs.Option.{option_map_or}
use Rattle.std.proofs.Math.Bool.{or-true}
use Rattle.class_table.proofs.Live.{eqb-refl, eqb-equal, find-passes, or_true}
use Rattle.method_questions.specs.Moves.{comes_first}

-- what is found in a changed list
pub find-mapped : {X Y : Type 0} (f : X → Y) (t : Y → Bool) (xs : List X) → find t (map f xs) ≡ option_map f (find (λ x. t (f x)) xs)
find-mapped f t [] = refl
find-mapped f t (x ∷ xs) = by (t (f x)) (find-mapped f t xs)
  where
    by : (b : Bool) → find t (map f xs) ≡ option_map f (find (λ x. t (f x)) xs) → cond b (Some (f x)) (find t (map f xs)) ≡ option_map f (cond b (Some x) (find (λ x. t (f x)) xs))
    by true rest = refl
    by false rest = rest

-- what is found is the same where the test is, and what passes does not change
pub find-unchanged : {X : Type 0} (f : X → X) (t : X → Bool) → ((x : X) → t (f x) ≡ t x) → ((x : X) → t x ≡ true → f x ≡ x) → (xs : List X) → find t (map f xs) ≡ find t xs
find-unchanged f t same kept [] = refl
find-unchanged f t same kept (x ∷ xs) = by (t x) refl (find-unchanged f t same kept xs)
  where
    by : (b : Bool) → t x ≡ b → find t (map f xs) ≡ find t xs → cond (t (f x)) (Some (f x)) (find t (map f xs)) ≡ cond (t x) (Some x) (find t xs)
    by true e rest = ap (λ (b : Bool). cond b (Some (f x)) (find t (map f xs))) (same x ∙ e) ∙ (ap Some (kept x e) ∙ sym (ap (λ (b : Bool). cond b (Some x) (find t xs)) e))
    by false e rest = ap (λ (b : Bool). cond b (Some (f x)) (find t (map f xs))) (same x ∙ e) ∙ (rest ∙ sym (ap (λ (b : Bool). cond b (Some x) (find t xs)) e))

-- two tests of slots
module _ (p q : ℕ → Bool) where
  -- where none passes the second
  pub one-alone : (order : List ℕ) (y : ℕ) → find p order ≡ Some y → find q order ≡ None → find (λ a. p a || q a) order ≡ Some y
  one-alone [] y e n = absurd (cc)
  one-alone (a ∷ ks) y e n = by (p a) (q a) e n (one-alone ks y)
    where
      by : (b c : Bool) → cond b (Some a) (find p ks) ≡ Some y → cond c (Some a) (find q ks) ≡ None → (find p ks ≡ Some y → find q ks ≡ None → find (λ j. p j || q j) ks ≡ Some y) → cond (b || c) (Some a) (find (λ j. p j || q j) ks) ≡ Some y
      by true c h n rest = h
      by false true h n rest = absurd (cc)
      by false false h n rest = rest h n

  -- the first of the two that pass
  of-both : (order : List ℕ) (y z : ℕ) → find p order ≡ Some y → find q order ≡ Some z → find (λ a. p a || q a) order ≡ find (λ a. nat_eq a y || nat_eq a z) order
  of-both [] y z e h = absurd (cc)
  of-both (a ∷ ks) y z e h = by (p a) refl (q a) refl e h (of-both ks y z)
    where
      fails : (t : ℕ → Bool) (x : ℕ) → t a ≡ false → find t ks ≡ Some x → (b : Bool) → nat_eq a x ≡ b → b ≡ false
      fails t x n f false r = refl
      fails t x n f true r = absurd (true≢false (sym (find-passes t ks x f).0 ∙ (ap t (sym (eqb-equal a x r)) ∙ n)))

      by : (b : Bool) → p a ≡ b → (c : Bool) → q a ≡ c → cond b (Some a) (find p ks) ≡ Some y → cond c (Some a) (find q ks) ≡ Some z
          → (find p ks ≡ Some y → find q ks ≡ Some z → find (λ j. p j || q j) ks ≡ find (λ j. nat_eq j y || nat_eq j z) ks)
          → cond (b || c) (Some a) (find (λ j. p j || q j) ks) ≡ cond (nat_eq a y || nat_eq a z) (Some a) (find (λ j. nat_eq j y || nat_eq j z) ks)
      by true s c r f g rest =
          let same : a ≡ y = cc in
          sym (ap (λ (b : Bool). cond (b || nat_eq a z) (Some a) (find (λ j. nat_eq j y || nat_eq j z) ks)) (ap (nat_eq a) (sym same) ∙ eqb-refl a))
      by false s true r f g rest =
          let same : a ≡ z = cc in
          sym (ap (λ (b : Bool). cond b (Some a) (find (λ j. nat_eq j y || nat_eq j z) ks)) (ap (λ (b : Bool). nat_eq a y || b) (ap (nat_eq a) (sym same) ∙ eqb-refl a) ∙ or-true (nat_eq a y)))
      by false s false r f g rest =
          rest f g ∙ sym (λ i. cond (fails p y s f (nat_eq a y) refl i || fails q z r g (nat_eq a z) refl i) (Some a) (find (λ j. nat_eq j y || nat_eq j z) ks))

  -- what passes first and passes the first test is found by that
  first-alone : (order : List ℕ) (z : ℕ) → find (λ a. p a || q a) order ≡ Some z → p z ≡ true → find p order ≡ Some z
  first-alone [] z e t = absurd (cc)
  first-alone (a ∷ ks) z e t = by (p a) refl (q a) e (first-alone ks z)
    where
      by : (b : Bool) → p a ≡ b → (c : Bool) → cond (b || c) (Some a) (find (λ j. p j || q j) ks) ≡ Some z → (find (λ j. p j || q j) ks ≡ Some z → p z ≡ true → find p ks ≡ Some z) → cond b (Some a) (find p ks) ≡ Some z
      by true s c h rest = h
      by false s true h rest = let same : a ≡ z = cc in absurd (true≢false (sym t ∙ (ap p (sym same) ∙ s)))
      by false s false h rest = rest h t

  -- the slot that passes the first test stands first
  pub comes-first : (order : List ℕ) (y : ℕ) → find p order ≡ Some y → comes_first order y (find q order) ≡ true → find (λ a. p a || q a) order ≡ Some y
  comes-first order y e t = by (find q order) refl t
    where
      by : (o : Option ℕ) → find q order ≡ o → comes_first order y o ≡ true → find (λ a. p a || q a) order ≡ Some y
      by None h c = one-alone order y e h
      by (Some z) h c = of-both order y z e h ∙ at (find (λ a. nat_eq a y || nat_eq a z) order) c
        where
          at : (o : Option ℕ) → option_map_or (λ a. nat_eq a y) o false ≡ true → o ≡ Some y
          at None d = absurd (true≢false (sym d))
          at (Some a) d = ap Some (eqb-equal a y d)

  -- another one does
  pub record StandsFirst (order : List ℕ) : Type 0 where
    pub slot : ℕ
    pub second : find q order ≡ Some slot
    pub either : find (λ a. p a || q a) order ≡ Some slot
    pub alone : p slot ≡ false

  pub other-first : (order : List ℕ) (y : ℕ) → find p order ≡ Some y → comes_first order y (find q order) ≡ false → StandsFirst order
  other-first order y e f = by (find q order) refl f
    where
      fails : (z : ℕ) → find (λ a. p a || q a) order ≡ Some z → nat_eq z y ≡ false → (b : Bool) → p z ≡ b → b ≡ false
      fails z h n false r = refl
      fails z h n true r = let both : Some y ≡ Some z = sym e ∙ first-alone order z h r in let same : z ≡ y = cc in absurd (true≢false (sym (ap (nat_eq z) (sym same) ∙ eqb-refl z) ∙ n))

      at : (z : ℕ) → find q order ≡ Some z → (o : Option ℕ) → find (λ a. nat_eq a y || nat_eq a z) order ≡ o → option_map_or (λ a. nat_eq a y) o false ≡ false → StandsFirst order
      at z h None r d =
          let none : find (λ a. p a || q a) order ≡ None = of-both order y z e h ∙ r in
          absurd (nowhere order y e none)
        where
          nowhere : (ks : List ℕ) (x : ℕ) → find p ks ≡ Some x → find (λ a. p a || q a) ks ≡ None → ⊥
          nowhere [] x g n = cc
          nowhere (a ∷ ks) x g n = step (p a) (q a) g n (nowhere ks x)
            where
              step : (b c : Bool) → cond b (Some a) (find p ks) ≡ Some x → cond (b || c) (Some a) (find (λ j. p j || q j) ks) ≡ None → (find p ks ≡ Some x → find (λ j. p j || q j) ks ≡ None → ⊥) → ⊥
              step true c s m rest = cc
              step false true s m rest = cc
              step false false s m rest = rest s m
      at z h (Some a) r d = chosen (or_true (nat_eq a y) (nat_eq a z) (find-passes (λ j. nat_eq j y || nat_eq j z) order a r).0)
        where
          chosen : (nat_eq a y ≡ true) ⊎ (nat_eq a z ≡ true) → StandsFirst order
          chosen (inl t) = absurd (true≢false (sym t ∙ d))
          chosen (inr t) =
              let same = eqb-equal a z t in
              let found = of-both order y z e h ∙ (r ∙ ap Some same) in
              record { slot = z; second = h; either = found; alone = fails z found (ap (λ j. nat_eq j y) (sym same) ∙ d) (p z) refl }

      by : (o : Option ℕ) → find q order ≡ o → comes_first order y o ≡ false → StandsFirst order
      by None h c = absurd (true≢false c)
      by (Some z) h c = at z h (find (λ a. nat_eq a y || nat_eq a z) order) refl c
