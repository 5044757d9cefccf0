-- Items by ascending place: the only order in which the places ascend and those of one place keep their order.
use Rattle.std.proofs.Common.{◌≡◌, ℕ, suc, ◌<◌, ◌≤◌, Bool, true, false, not, cond, List, [], ◌∷◌, length, filter, get_or, nat_lt, refl, sym, ap, ◌∙◌, arith, true≢false}
use Rattle.std.specs.Prelude.{◌&&◌, ◌==◌}
use Rattle.std.specs.declared.cmp.Ordering.TheVariants.{Less, Equal, Greater}
use Rattle.std.specs.Ordering.{is_lt, nat_cmp}
use Rattle.std.specs.List.Sorted.{ties, IsNonDecreasingBy}
use Rattle.std.proofs.lemmas.Bool.{ltb-true, ltb-false, lt-ltb, le-ltb}
use Rattle.file_model.specs.Places.{PlacedOf, put_among, by_place}

-- whether two items have one place
abbrev pub tie : {X : Type 0} → PlacedOf X → PlacedOf X → Bool
tie p q = ties (λ (x y : PlacedOf _). is_lt (nat_cmp x.place y.place)) p q

-- each place is at least a number
abbrev pub AllFrom : {X : Type 0} → ℕ → List (PlacedOf X) → Type 0
AllFrom n [] = Unit {0}
AllFrom n (p ∷ ps) = (n ≤ p.place) × AllFrom n ps

-- the places ascend
abbrev pub Up : {X : Type 0} → List (PlacedOf X) → Type 0
Up [] = Unit {0}
Up (p ∷ ps) = AllFrom p.place ps × Up ps

less_is : (a b : ℕ) → is_lt (nat_cmp a b) ≡ nat_lt a b
less_is a b = by (nat_lt a b) (a == b)
  where
    by : (l e : Bool) → is_lt (cond l Less (cond e Equal Greater)) ≡ l
    by true e = refl
    by false true = refl
    by false false = refl

tie_is : {X : Type 0} (p q : PlacedOf X) → tie p q ≡ (not (nat_lt p.place q.place) && not (nat_lt q.place p.place))
tie_is p q = λ i. not (less_is p.place q.place i) && not (less_is q.place p.place i)

tie_equal : {X : Type 0} (p q : PlacedOf X) → p.place ≡ q.place → tie p q ≡ true
tie_equal p q e = tie_is p q ∙ (λ i. not (le-ltb p.place q.place (omega arith) i) && not (le-ltb q.place p.place (omega arith) i))

tie_below : {X : Type 0} (p q : PlacedOf X) → p.place < q.place → tie p q ≡ false
tie_below p q h = tie_is p q ∙ (λ i. not (lt-ltb p.place q.place h i) && not (nat_lt q.place p.place))

and_false : (b : Bool) → (b && false) ≡ false
and_false true = refl
and_false false = refl

tie_above : {X : Type 0} (p q : PlacedOf X) → q.place < p.place → tie p q ≡ false
tie_above p q h = tie_is p q ∙ (λ i. not (nat_lt p.place q.place) && not (lt-ltb q.place p.place h i)) ∙ and_false (not (nat_lt p.place q.place))

-- of two items with different places one is not tied with a third
not_both : {X : Type 0} (x p q : PlacedOf X) → q.place < p.place → tie x p ≡ true → tie x q ≡ true → ⊥
not_both x p q h s t = by (nat_lt x.place q.place) refl
  where
    by : (b : Bool) → nat_lt x.place q.place ≡ b → ⊥
    by true e = true≢false (sym s ∙ tie_below x p (omega (arith, ltb-true x.place q.place e)))
    by false e = other (nat_lt q.place x.place) refl
      where
        other : (b : Bool) → nat_lt q.place x.place ≡ b → ⊥
        other true k = true≢false (sym t ∙ tie_above x q (ltb-true q.place x.place k))
        other false k = true≢false (sym s ∙ tie_below x p (omega (arith, ltb-false x.place q.place e, ltb-false q.place x.place k)))

-- ascending places of items that are put among others
from_less : {X : Type 0} (m n : ℕ) (ps : List (PlacedOf X)) → m ≤ n → AllFrom n ps → AllFrom m ps
from_less m n [] h a = tt
from_less m n (p ∷ ps) h a = (omega arith, from_less m n ps h a.1)

from_put : {X : Type 0} (n : ℕ) (p : PlacedOf X) (qs : List (PlacedOf X)) → n ≤ p.place → AllFrom n qs → AllFrom n (put_among p qs)
from_put n p [] h a = (h, tt)
from_put {X} n p (q ∷ qs) h a = by (nat_lt q.place p.place) (from_put n p qs h a.1)
  where
    by : (b : Bool) → AllFrom n (put_among p qs) → AllFrom n (cond b (q ∷ put_among p qs) (p ∷ q ∷ qs))
    by true more = (a.0, more)
    by false more = (h, a)

up_put : {X : Type 0} (p : PlacedOf X) (qs : List (PlacedOf X)) → Up qs → Up (put_among p qs)
up_put p [] u = (tt, tt)
up_put p (q ∷ qs) u = by (nat_lt q.place p.place) refl (up_put p qs u.1)
  where
    by : (b : Bool) → nat_lt q.place p.place ≡ b → Up (put_among p qs) → Up (cond b (q ∷ put_among p qs) (p ∷ q ∷ qs))
    by true e more = (from_put q.place p qs (omega (arith, ltb-true q.place p.place e)) u.0, more)
    by false e more =
        let h : p.place ≤ q.place = ltb-false q.place p.place e in
        ((h, from_less p.place q.place qs h u.0), u)

up_by_place : {X : Type 0} (ps : List (PlacedOf X)) → Up (by_place ps)
up_by_place [] = tt
up_by_place (p ∷ ps) = up_put p (by_place ps) (up_by_place ps)

-- those of one place keep their order
stable_put : {X : Type 0} (x p : PlacedOf X) (qs : List (PlacedOf X)) → filter (tie x) (put_among p qs) ≡ filter (tie x) (p ∷ qs)
stable_put x p [] = refl
stable_put {X} x p (q ∷ qs) = by (nat_lt q.place p.place) refl (stable_put x p qs)
  where
    swap : (s t : Bool) → (s ≡ true → t ≡ true → ⊥) → (rest : List (PlacedOf X)) → cond t (q ∷ cond s (p ∷ rest) rest) (cond s (p ∷ rest) rest) ≡ cond s (p ∷ cond t (q ∷ rest) rest) (cond t (q ∷ rest) rest)
    swap true true h rest = absurd (h refl refl)
    swap true false h rest = refl
    swap false true h rest = refl
    swap false false h rest = refl

    by : (b : Bool) → nat_lt q.place p.place ≡ b → filter (tie x) (put_among p qs) ≡ filter (tie x) (p ∷ qs) → filter (tie x) (cond b (q ∷ put_among p qs) (p ∷ q ∷ qs)) ≡ filter (tie x) (p ∷ q ∷ qs)
    by true e more =
        ap (λ (r : List (PlacedOf X)). cond (tie x q) (q ∷ r) r) more
        ∙ swap (tie x p) (tie x q) (not_both x p q (ltb-true q.place p.place e)) (filter (tie x) qs)
    by false e more = refl

stable_by_place : {X : Type 0} (x : PlacedOf X) (ps : List (PlacedOf X)) → filter (tie x) (by_place ps) ≡ filter (tie x) ps
stable_by_place x [] = refl
stable_by_place {X} x (p ∷ ps) = stable_put x p (by_place ps) ∙ ap (λ (r : List (PlacedOf X)). cond (tie x p) (p ∷ r) r) (stable_by_place x ps)

-- no item that is tied stands among greater ones
none_tied : {X : Type 0} (x : PlacedOf X) (n : ℕ) (ps : List (PlacedOf X)) → x.place < n → AllFrom n ps → filter (tie x) ps ≡ []
none_tied x n [] h a = refl
none_tied {X} x n (p ∷ ps) h a =
    ap (λ (b : Bool). cond b (p ∷ filter (tie x) ps) (filter (tie x) ps)) (tie_below x p (omega arith)) ∙ none_tied x n ps h a.1

-- an item itself is tied
first_tied : {X : Type 0} (x y : PlacedOf X) (ps : List (PlacedOf X)) → x.place ≡ y.place → filter (tie x) (y ∷ ps) ≡ y ∷ filter (tie x) ps
first_tied {X} x y ps e = ap (λ (b : Bool). cond b (y ∷ filter (tie x) ps) (filter (tie x) ps)) (tie_equal x y e)

head_is : {X : Type 0} (x y : X) (xs ys : List X) → x ∷ xs ≡ y ∷ ys → x ≡ y
head_is x y xs ys e = cc

rest_is : {X : Type 0} (x y : X) (xs ys : List X) → x ∷ xs ≡ y ∷ ys → xs ≡ ys
rest_is x y xs ys e = cc

not_empty : {X : Type 0} (x : X) (xs : List X) → x ∷ xs ≡ [] → ⊥
not_empty x xs e = cc

-- two lists are one if the places ascend in both and those of one place are the same, in the same order
pub one_order : {X : Type 0} (xs ys : List (PlacedOf X)) → Up xs → Up ys → ((z : PlacedOf X) → filter (tie z) xs ≡ filter (tie z) ys) → xs ≡ ys
one_order [] [] u v h = refl
one_order [] (y ∷ ys) u v h = absurd (not_empty y (filter (tie y) ys) (sym (h y ∙ first_tied y y ys refl)))
one_order (x ∷ xs) [] u v h = absurd (not_empty x (filter (tie x) xs) (sym (first_tied x x xs refl) ∙ h x))
one_order {X} (x ∷ xs) (y ∷ ys) u v h = by (nat_lt x.place y.place) (nat_lt y.place x.place) refl refl (one_order xs ys u.1 v.1)
  where
    peel : (b : Bool) (r s : List (PlacedOf X)) → cond b (x ∷ r) r ≡ cond b (x ∷ s) s → r ≡ s
    peel true r s e = rest_is x x r s e
    peel false r s e = e

    same : x.place ≡ y.place → (((z : PlacedOf X) → filter (tie z) xs ≡ filter (tie z) ys) → xs ≡ ys) → x ∷ xs ≡ y ∷ ys
    same e more =
        let both : x ∷ filter (tie x) xs ≡ y ∷ filter (tie x) ys = sym (first_tied x x xs refl) ∙ h x ∙ first_tied x y ys e in
        let first : x ≡ y = head_is x y (filter (tie x) xs) (filter (tie x) ys) both in
        let tails : (z : PlacedOf X) → filter (tie z) xs ≡ filter (tie z) ys =
        λ z. peel (tie z x) (filter (tie z) xs) (filter (tie z) ys) (h z ∙ ap (λ (w : PlacedOf X). cond (tie z w) (w ∷ filter (tie z) ys) (filter (tie z) ys)) (sym first)) in
        λ i. first i ∷ more tails i

    by : (s t : Bool) → nat_lt x.place y.place ≡ s → nat_lt y.place x.place ≡ t → (((z : PlacedOf X) → filter (tie z) xs ≡ filter (tie z) ys) → xs ≡ ys) → x ∷ xs ≡ y ∷ ys
    by true t e f more =
        let below : x.place < y.place = ltb-true x.place y.place e in
        absurd (not_empty x (filter (tie x) xs) (sym (first_tied x x xs refl) ∙ h x ∙ none_tied x y.place (y ∷ ys) below (omega arith, v.0)))
    by false true e f more =
        let below : y.place < x.place = ltb-true y.place x.place f in
        absurd (not_empty y (filter (tie y) ys) (sym (first_tied y y ys refl) ∙ sym (h y) ∙ none_tied y x.place (x ∷ xs) below (omega arith, u.0)))
    by false false e f more = same (omega (arith, ltb-false x.place y.place e, ltb-false y.place x.place f)) more

-- the recursive form of ascending places
from_each : {X : Type 0} (n : ℕ) (ps : List (PlacedOf X)) → ((k : ℕ) (d : PlacedOf X) → k < length ps → n ≤ (get_or ps k d).place) → AllFrom n ps
from_each n [] h = tt
from_each n (p ∷ ps) h = (h 0 p (omega arith), from_each n ps (λ k d l. h (suc k) d (omega arith)))

up_from : {X : Type 0} (ps : List (PlacedOf X)) → IsNonDecreasingBy (λ (p : PlacedOf X). p.place) ps → Up ps
up_from [] h = tt
up_from {X} (p ∷ ps) h = (
  from_each p.place ps (λ k d l. h 0 (suc k) d (omega arith) (omega arith)),
  up_from ps (λ i j d l m. h (suc i) (suc j) d (omega arith) (omega arith)),
)

-- what a stable sort by place makes
pub sorted_is : {X : Type 0} (xs ys : List (PlacedOf X)) → IsNonDecreasingBy (λ (p : PlacedOf X). p.place) ys → ((z : PlacedOf X) → filter (tie z) ys ≡ filter (tie z) xs) → ys ≡ by_place xs
sorted_is xs ys up stable = one_order ys (by_place xs) (up_from ys up) (up_by_place xs) (λ z. stable z ∙ sym (stable_by_place z xs))
