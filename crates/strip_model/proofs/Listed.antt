-- Members of lists by a test of equality, and how many of them pass.
use Rattle.std.proofs.Common.{◌≡◌, suc, ◌<◌, ◌≤◌, List, [], ◌∷◌, ◌++◌, length, refl, sym, ap, ◌∙◌, arith}
use Rattle.std.specs.Prelude.{Bool, true, false, not, ◌&&◌, ◌||◌, cond, filter, flat_map}
use Rattle.std.specs.List.{list_any, list_all}
use Rattle.std.proofs.lemmas.Bool.{false≢true, and_parts, and_from}
use Rattle.std.proofs.lemmas.List.Folds.{list_any-append}

-- either, and both
pub or-either : (a b c d : Bool) → (a ≡ true → c ≡ true) → (b ≡ true → d ≡ true) → (a || b) ≡ true → (c || d) ≡ true
or-either true b c d f g h = ap (λ x. x || d) (f refl)
or-either false b true d f g h = refl
or-either false b false d f g h = g h

pub and-both : (a b c d : Bool) → (a ≡ true → c ≡ true) → (b ≡ true → d ≡ true) → (a && b) ≡ true → (c && d) ≡ true
and-both true b c d f g h = ap (λ x. x && d) (f refl) ∙ g h
and-both false b c d f g h = absurd (false≢true h)

-- one in the parts of a list
pub any-parts : {X : Type 0} (g : X → Bool) (xs ys us vs : List X) → (list_any g xs ≡ true → list_any g us ≡ true) → (list_any g ys ≡ true → list_any g vs ≡ true) → list_any g (xs ++ ys) ≡ true → list_any g (us ++ vs) ≡ true
any-parts g xs ys us vs p q h = list_any-append g us vs ∙ or-either (list_any g xs) (list_any g ys) (list_any g us) (list_any g vs) p q (sym (list_any-append g xs ys) ∙ h)

-- one of those that a function gives for what passes
pub any-given : {X Y : Type 0} (g : Y → Bool) (f : X → List Y) (p q : X → Bool) → ((x : X) → p x ≡ true → q x ≡ true) → (xs : List X) → list_any g (flat_map f (filter p xs)) ≡ true → list_any g (flat_map f (filter q xs)) ≡ true
any-given g f p q k [] h = h
any-given {X} g f p q k (x ∷ xs) h = by (p x) (q x) (k x) h (any-given g f p q k xs)
  where
    by : (a b : Bool) → (a ≡ true → b ≡ true) → list_any g (flat_map f (cond a (x ∷ filter p xs) (filter p xs))) ≡ true → (list_any g (flat_map f (filter p xs)) ≡ true → list_any g (flat_map f (filter q xs)) ≡ true) →
        list_any g (flat_map f (cond b (x ∷ filter q xs) (filter q xs))) ≡ true
    by true true e h rest = any-parts g (f x) (flat_map f (filter p xs)) (f x) (flat_map f (filter q xs)) (λ o. o) rest h
    by true false e h rest = absurd (false≢true (e refl))
    by false true e h rest = list_any-append g (f x) (flat_map f (filter q xs)) ∙ last (list_any g (f x)) (rest h)
      where
        last : (a : Bool) → list_any g (flat_map f (filter q xs)) ≡ true → (a || list_any g (flat_map f (filter q xs))) ≡ true
        last true e = refl
        last false e = e
    by false false e h rest = rest h

module _ {X : Type 0} (same : X → X → Bool) (exact : (x y : X) → same x y ≡ true → x ≡ y) (p : X → Bool) where
  -- what holds of all holds of a member
  pub all-member : (ds : List X) (n : X) → list_all p ds ≡ true → list_any (same n) ds ≡ true → p n ≡ true
  all-member [] n a h = absurd (false≢true h)
  all-member (d ∷ ds) n a h = by (same n d) refl h (all-member ds n (and_parts (p d) _ a).1)
    where
      by : (b : Bool) → same n d ≡ b → (b || list_any (same n) ds) ≡ true → (list_any (same n) ds ≡ true → p n ≡ true) → p n ≡ true
      by true e h rest = ap p (exact n d e) ∙ (and_parts (p d) _ a).0
      by false e h rest = rest h

  -- where nothing new passes the second test, a member that passes it passes the first
  pub none-new : (q : X → Bool) (us : List X) (n : X) → list_any (λ u. q u && not (p u)) us ≡ false → list_any (same n) us ≡ true → q n ≡ true → p n ≡ true
  none-new q [] n a h t = absurd (false≢true h)
  none-new q (u ∷ us) n a h t = by (same n u) refl h (q u && not (p u)) refl a (none-new q us n)
    where
      passes : (b : Bool) → p n ≡ b → (true && not b) ≡ false → p n ≡ true
      passes true e f = e
      passes false e f = absurd (false≢true (sym f))

      by : (b : Bool) → same n u ≡ b → (b || list_any (same n) us) ≡ true → (c : Bool) → (q u && not (p u)) ≡ c → (c || list_any (λ v. q v && not (p v)) us) ≡ false →
          (list_any (λ v. q v && not (p v)) us ≡ false → list_any (same n) us ≡ true → q n ≡ true → p n ≡ true) → p n ≡ true
      by b e h true k a rest = absurd (false≢true (sym a))
      by true e h false k a rest = passes (p n) refl ((λ i. sym t i && not (p n)) ∙ ap (λ x. q x && not (p x)) (exact n u e) ∙ k)
      by false e h false k a rest = rest a h t

-- each of a list passes, where its members do
pub all-members : {X : Type 0} (same : X → X → Bool) (reflexive : (x : X) → same x x ≡ true) (p : X → Bool) (ds : List X) → ((n : X) → list_any (same n) ds ≡ true → p n ≡ true) → list_all p ds ≡ true
all-members same reflexive p [] h = refl
all-members same reflexive p (d ∷ ds) h =
    and_from (p d) _ (h d (ap (λ b. b || list_any (same d) ds) (reflexive d))) (all-members same reflexive p ds (λ n e. h n (or-either false (list_any (same n) ds) (same n d) (list_any (same n) ds) (λ f. absurd (false≢true f)) (λ x. x) e)))

-- how many pass
module _ {X : Type 0} (p q : X → Bool) (more : (x : X) → p x ≡ true → q x ≡ true) where
  pub count-least : (xs : List X) → length (filter p xs) ≤ length (filter q xs)
  count-least [] = omega arith
  count-least (x ∷ xs) = by (p x) (q x) (more x) (count-least xs)
    where
      by : (a b : Bool) → (a ≡ true → b ≡ true) → length (filter p xs) ≤ length (filter q xs) → length (cond a (x ∷ filter p xs) (filter p xs)) ≤ length (cond b (x ∷ filter q xs) (filter q xs))
      by true true e h = omega (arith, h)
      by true false e h = absurd (false≢true (e refl))
      by false true e h = omega (arith, h)
      by false false e h = h

  pub count-more : (xs : List X) → list_any (λ x. q x && not (p x)) xs ≡ true → length (filter p xs) < length (filter q xs)
  count-more [] h = absurd (false≢true h)
  count-more (x ∷ xs) h = by (p x) (q x) (more x) h (count-least xs) (count-more xs)
    where
      by : (a b : Bool) → (a ≡ true → b ≡ true) → ((b && not a) || list_any (λ y. q y && not (p y)) xs) ≡ true → length (filter p xs) ≤ length (filter q xs) →
          (list_any (λ y. q y && not (p y)) xs ≡ true → length (filter p xs) < length (filter q xs)) → length (cond a (x ∷ filter p xs) (filter p xs)) < length (cond b (x ∷ filter q xs) (filter q xs))
      by true true e h least rest = let less = rest h in omega (arith, less)
      by true false e h least rest = absurd (false≢true (e refl))
      by false true e h least rest = omega (arith, least)
      by false false e h least rest = rest h

pub count-whole : {X : Type 0} (p : X → Bool) (xs : List X) → length (filter p xs) ≤ length xs
count-whole p [] = omega arith
count-whole {X} p (x ∷ xs) = by (p x) (count-whole p xs)
  where
    by : (a : Bool) → length (filter p xs) ≤ length xs → length (cond a (x ∷ filter p xs) (filter p xs)) ≤ suc (length xs)
    by true h = omega (arith, h)
    by false h = omega (arith, h)
