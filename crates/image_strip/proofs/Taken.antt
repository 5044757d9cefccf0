-- Orders from which slots are taken out, from the end.
use Rattle.std.proofs.Common.{◌≡◌, ℕ, zero, suc, ◌<◌, ◌≤◌, ◌&&◌, Bool, true, false, cond, List, [], ◌∷◌, length, filter, drop, get_or, Some, slice_get, refl, sym, ap, subst, ◌∙◌, arith, true≢false}
use Rattle.std.specs.Prelude.{if◌then◌else◌}
use Rattle.std.specs.List.{list_all}
use Rattle.std.proofs.Math.Dec.{eqb}
use Rattle.std.proofs.lemmas.Option.{slice_get_read}
use Rattle.class_table.specs.Order.{without}
use Rattle.class_table.proofs.Live.{eqb-refl, eqb-equal}

-- all that passes is still there, and all passes from a place on
pub record IsTaken (p : ℕ → Bool) (old new : List ℕ) (left : ℕ) : Type 0 where
  pub kept : filter p new ≡ filter p old
  pub behind : list_all p (drop left new) ≡ true
  pub within : left ≤ length new

module _ (p : ℕ → Bool) where
  -- one that does not pass is taken out
  filter-without : (x : ℕ) (xs : List ℕ) → p x ≡ false → filter p (without x xs) ≡ filter p xs
  filter-without x [] h = refl
  filter-without x (y ∷ ys) h = by (eqb x y) refl (filter-without x ys h)
    where
      by : (b : Bool) → eqb x y ≡ b → filter p (without x ys) ≡ filter p ys → filter p (if b then ys else y ∷ without x ys) ≡ cond (p y) (y ∷ filter p ys) (filter p ys)
      by true e rest = ap (λ (b : Bool). cond b (y ∷ filter p ys) (filter p ys)) (sym h ∙ ap p (eqb-equal x y e))
      by false e rest = ap (λ (zs : List ℕ). cond (p y) (y ∷ zs) zs) rest

  -- what stands behind one that is taken out
  drop-without : (k : ℕ) (x : ℕ) (xs : List ℕ) → slice_get xs k ≡ Some x → drop k (without x xs) ≡ drop (suc k) xs
  drop-without k x [] e = absurd (cc)
  drop-without zero x (y ∷ ys) e =
      let same : y ≡ x = cc in
      ap (λ (b : Bool). if b then ys else y ∷ without x ys) (ap (eqb x) same ∙ eqb-refl x)
  drop-without (suc k) x (y ∷ ys) e = by (eqb x y) (drop-without k x ys e)
    where
      by : (b : Bool) → drop k (without x ys) ≡ drop (suc k) ys → drop (suc k) (if b then ys else y ∷ without x ys) ≡ drop (suc k) ys
      by true rest = refl
      by false rest = rest

  length-without : (k : ℕ) (x : ℕ) (xs : List ℕ) → slice_get xs k ≡ Some x → k ≤ length (without x xs)
  length-without k x [] e = absurd (cc)
  length-without zero x (y ∷ ys) e = omega arith
  length-without (suc k) x (y ∷ ys) e = by (eqb x y) (length-without k x ys e) (within k ys e)
    where
      within : (j : ℕ) (zs : List ℕ) → slice_get zs j ≡ Some x → suc j ≤ length zs
      within j [] q = absurd (cc)
      within zero (z ∷ zs) q = omega arith
      within (suc j) (z ∷ zs) q = let rest = within j zs q in omega (arith, rest)

      by : (b : Bool) → k ≤ length (without x ys) → suc k ≤ length ys → suc k ≤ length (if b then ys else y ∷ without x ys)
      by true rest h = h
      by false rest h = omega (arith, rest)

  drop-at : (k x : ℕ) (xs : List ℕ) → slice_get xs k ≡ Some x → drop k xs ≡ x ∷ drop (suc k) xs
  drop-at k x [] e = absurd (cc)
  drop-at zero x (y ∷ ys) e = let same : y ≡ x = cc in ap (λ (z : ℕ). z ∷ ys) same
  drop-at (suc k) x (y ∷ ys) e = drop-at k x ys e

  all-kept : (xs : List ℕ) → list_all p xs ≡ true → filter p xs ≡ xs
  all-kept [] h = refl
  all-kept (x ∷ xs) h = by (p x) h (all-kept xs)
    where
      by : (b : Bool) → (b && list_all p xs) ≡ true → (list_all p xs ≡ true → filter p xs ≡ xs) → cond b (x ∷ filter p xs) (filter p xs) ≡ x ∷ xs
      by true t rest = ap (λ (zs : List ℕ). x ∷ zs) (rest t)
      by false t rest = absurd (true≢false (sym t))

  pub taken-first : (xs : List ℕ) → IsTaken p xs xs (length xs)
  taken-first xs = record { kept = refl; behind = none xs; within = omega arith }
    where
      none : (ys : List ℕ) → list_all p (drop (length ys) ys) ≡ true
      none [] = refl
      none (y ∷ ys) = none ys

  module _ (old xs : List ℕ) (left k x : ℕ) (one : left ≡ suc k) (at : slice_get xs k ≡ Some x) (taken : IsTaken p old xs left) where
    rest : list_all p (drop (suc k) xs) ≡ true
    rest = subst (λ (n : ℕ). list_all p (drop n xs) ≡ true) one taken.behind

    pub taken-kept : p x ≡ true → IsTaken p old xs k
    taken-kept h = record {
      kept = taken.kept;
      behind = ap (list_all p) (drop-at k x xs at) ∙ (λ i. h i && rest i);
      within = omega (arith, taken.within, one);
    }

    pub taken-out : p x ≡ false → IsTaken p old (without x xs) k
    taken-out h = record {
      kept = filter-without x xs h ∙ taken.kept;
      behind = ap (list_all p) (drop-without k x xs at) ∙ rest;
      within = length-without k x xs at;
    }

  pub taken-last : (old xs : List ℕ) → IsTaken p old xs 0 → xs ≡ filter p old
  taken-last old xs taken = sym (all-kept xs taken.behind) ∙ taken.kept

-- what is read at a place stands there
pub stands-at : (xs ys : List ℕ) (k x : ℕ) → xs ≡ ys → k < length ys → x ≡ get_or xs k x → slice_get ys k ≡ Some x
stands-at xs ys k x e h read = slice_get_read ys (length ys) k x refl h (read ∙ ap (λ (zs : List ℕ). get_or zs k x) e)
