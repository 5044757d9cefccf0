-- A name that one place of a method declares is declared at no other one.
use Rattle.std.proofs.Common.{◌≡◌, ◌≤◌, ℕ, suc, ◌+◌, List, [], ◌∷◌, ◌++◌, length, filter, Contains, Bool, true, false, not, ◌||◌, refl, sym, ap, ◌∙◌, arith, inl, inr, ◌⊎◌}
use Rattle.std.specs.Prelude.{if◌then◌else◌, flat_map}
use Rattle.std.specs.List.{list_any}
use Rattle.std.proofs.lemmas.Bool.{false≢true}
use Rattle.code_command_laws.proofs.OneNode.{cons-cases, none-there}

module _ {X : Type 0} (p : X → Bool) where
  -- how many pass
  abbrev pub passing : List X → ℕ
  passing xs = length (filter p xs)

  pub passing-append : (xs ys : List X) → passing (xs ++ ys) ≡ passing xs + passing ys
  passing-append [] ys = none (passing ys)
    where
      none : (n : ℕ) → n ≡ 0 + n
      none n = omega arith
  passing-append (x ∷ xs) ys = by (p x) (passing-append xs ys)
    where
      by : (b : Bool) → passing (xs ++ ys) ≡ passing xs + passing ys → length (if b then x ∷ filter p (xs ++ ys) else filter p (xs ++ ys)) ≡ length (if b then x ∷ filter p xs else filter p xs) + passing ys
      by true h = ap suc h ∙ next (passing xs) (passing ys)
        where
          next : (n k : ℕ) → suc (n + k) ≡ suc n + k
          next n k = omega arith
      by false h = h

  -- some item passes where one of the list does
  pub some-passes : (xs : List X) → list_any p xs ≡ true → 1 ≤ passing xs
  some-passes [] e = absurd (false≢true e)
  some-passes (x ∷ xs) e = by (p x) refl e (some-passes xs)
    where
      by : (b : Bool) → p x ≡ b → (b || list_any p xs) ≡ true → (list_any p xs ≡ true → 1 ≤ passing xs) → 1 ≤ length (if b then x ∷ filter p xs else filter p xs)
      by true q f ih = omega arith
      by false q f ih = ih f

  pub none-passing : (xs : List X) → passing xs ≡ 0 → list_any p xs ≡ false
  none-passing xs e = by (list_any p xs) refl
    where
      by : (b : Bool) → list_any p xs ≡ b → b ≡ false
      by false q = refl
      by true q = let h = some-passes xs q in absurd (omega (arith, h, e))

  -- a list in which one item passes, round it
  pub record RoundOne (xs : List X) : Type 0 where
    pub front : List X
    pub item : X
    pub back : List X
    pub same : xs ≡ front ++ item ∷ back
    pub passes : p item ≡ true
    pub front_free : list_any p front ≡ false
    pub back_free : list_any p back ≡ false
    pub rest : filter (λ x. not (p x)) xs ≡ front ++ back

  pub all-stay : (xs : List X) → passing xs ≡ 0 → filter (λ x. not (p x)) xs ≡ xs
  all-stay [] e = refl
  all-stay (x ∷ xs) e = by (p x) e (all-stay xs)
    where
      by : (b : Bool) → length (if b then x ∷ filter p xs else filter p xs) ≡ 0 → (passing xs ≡ 0 → filter (λ x. not (p x)) xs ≡ xs) → (if not b then x ∷ filter (λ x. not (p x)) xs else filter (λ x. not (p x)) xs) ≡ x ∷ xs
      by true e ih = absurd (omega (arith, e))
      by false e ih = ap (λ l. x ∷ l) (ih e)

  pub round-one : (xs : List X) → passing xs ≡ 1 → RoundOne xs
  round-one [] e = absurd (omega (arith, e))
  round-one (x ∷ xs) e = by (p x) refl e (round-one xs)
    where
      less : (n : ℕ) → suc n ≡ 1 → n ≡ 0
      less n z = omega (arith, z)

      by : (b : Bool) → p x ≡ b → length (if b then x ∷ filter p xs else filter p xs) ≡ 1 → (passing xs ≡ 1 → RoundOne xs) → RoundOne (x ∷ xs)
      by true q e ih = record {
        front = [];
        item = x;
        back = xs;
        same = refl;
        passes = q;
        front_free = refl;
        back_free = none-passing xs (less (passing xs) e);
        rest = ap (λ b. if not b then x ∷ filter (λ x. not (p x)) xs else filter (λ x. not (p x)) xs) q ∙ all-stay xs (less (passing xs) e);
      }
      by false q e ih =
          let r = ih e in
          record {
            front = x ∷ r.front;
            item = r.item;
            back = r.back;
            same = ap (λ l. x ∷ l) r.same;
            passes = r.passes;
            front_free = ap (λ b. b || list_any p r.front) q ∙ r.front_free;
            back_free = r.back_free;
            rest = ap (λ b. if not b then x ∷ filter (λ x. not (p x)) xs else filter (λ x. not (p x)) xs) q ∙ ap (λ l. x ∷ l) r.rest;
          }

  module _ {Y : Type 0} (g : Y → List X) where
    -- how many pass of what the items of a list give
    pub one-gives : (ys : List Y) (y : Y) → Contains ys y → passing (g y) ≤ passing (flat_map g ys)
    one-gives [] y c = absurd (none-there y c)
    one-gives (z ∷ ys) y c = by (cons-cases z ys y c) (one-gives ys y)
      where
        more : (a b c : ℕ) → a ≡ b + c → b ≤ a
        more a b c e = omega (arith, e)

        further : (a b c d : ℕ) → a ≡ b + c → d ≤ c → d ≤ a
        further a b c d e h = omega (arith, e, h)

        by : (z ≡ y) ⊎ Contains ys y → (Contains ys y → passing (g y) ≤ passing (flat_map g ys)) → passing (g y) ≤ passing (g z ++ flat_map g ys)
        by (inl s) ih = more _ (passing (g y)) (passing (flat_map g ys)) (passing-append (g z) (flat_map g ys) ∙ ap (λ w. passing (g w) + passing (flat_map g ys)) s)
        by (inr k) ih = further _ (passing (g z)) (passing (flat_map g ys)) (passing (g y)) (passing-append (g z) (flat_map g ys)) (ih k)

    -- of what two different items give as many pass as of each together
    pub two-give : (ys : List Y) (y z : Y) → Contains ys y → Contains ys z → (y ≡ z → ⊥) → passing (g y) + passing (g z) ≤ passing (flat_map g ys)
    two-give [] y z c d n = absurd (none-there y c)
    two-give (w ∷ ys) y z c d n = by (cons-cases w ys y c) (cons-cases w ys z d) (λ c d. two-give ys y z c d n)
      where
        both : (a b c d e : ℕ) → a ≡ b + c → d ≤ c → b ≡ e → e + d ≤ a
        both a b c d e q h k = omega (arith, q, h, k)

        other : (a b c d e : ℕ) → a ≡ b + c → d ≤ c → b ≡ e → d + e ≤ a
        other a b c d e q h k = omega (arith, q, h, k)

        further : (a b c d : ℕ) → a ≡ b + c → d ≤ c → d ≤ a
        further a b c d e h = omega (arith, e, h)

        total : passing (g w ++ flat_map g ys) ≡ passing (g w) + passing (flat_map g ys)
        total = passing-append (g w) (flat_map g ys)

        by : (w ≡ y) ⊎ Contains ys y → (w ≡ z) ⊎ Contains ys z → (Contains ys y → Contains ys z → passing (g y) + passing (g z) ≤ passing (flat_map g ys)) → passing (g y) + passing (g z) ≤ passing (g w ++ flat_map g ys)
        by (inl s) (inl t) ih = absurd (n (sym s ∙ t))
        by (inl s) (inr t) ih = both _ (passing (g w)) (passing (flat_map g ys)) (passing (g z)) (passing (g y)) total (one-gives ys z t) (ap (λ v. passing (g v)) s)
        by (inr s) (inl t) ih = other _ (passing (g w)) (passing (flat_map g ys)) (passing (g y)) (passing (g z)) total (one-gives ys y s) (ap (λ v. passing (g v)) t)
        by (inr s) (inr t) ih = further _ (passing (g w)) (passing (flat_map g ys)) (passing (g y) + passing (g z)) total (ih s t)
