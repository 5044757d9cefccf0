-- The classes below a class, found in one walk over the order of the live classes.
use Rattle.std.proofs.Common.{◌≡◌, ◌≢◌, ◌⊎◌, inl, inr, ℕ, zero, suc, ◌+◌, ◌<◌, Bool, true, false, cond, ◌&&◌, ◌||◌, List, [], ◌∷◌, ◌++◌, length, take, get_or, filter, unwrap_or, replicate, Option, Some, None, slice_get, refl, sym, ap, subst, ◌∙◌, arith}
use Rattle.std.specs.Prelude.{nat_eq}
use Rattle.std.specs.List.{list_any}
use Rattle.std.specs.Option.{option_map_or, option_and_then}
use Rattle.std.proofs.Math.ListN.{set}
use Rattle.std.proofs.Math.Dec.{eqb}
use Rattle.std.proofs.lemmas.Bool.Decides.{eqb_tells}
use Rattle.std.proofs.lemmas.List.Folds.{list_any_more}
use Rattle.std.proofs.lemmas.List.Elements.{filter_more}
use Rattle.std.proofs.lemmas.Option.{slice_get_within, slice_get-get_or}
use Rattle.image_model.specs.Upwards.{upwards}
use Rattle.image_model.proofs.UpwardsLemmas.{upwards-none, upwards-whole}
use Rattle.class_table.specs.declared.record.ClassRec.{ClassRec}
use Rattle.class_table.specs.Order.{IsOrderOf}
use Rattle.class_table.specs.Valid.{IsLive, SuperclassesFirst}
use Rattle.class_table.specs.Finding.{only_live, above, is_on_chain, superclass_in}
use Rattle.class_table.proofs.Live.{eqb-refl}
use Rattle.class_table.proofs.OrderLemmas.{get-set_same, get-set_other, length-set}

-- what stands at a place is live
live-at : (order : List ℕ) (p k : ℕ) → slice_get order p ≡ Some k → IsLive order k
live-at [] p k e = absurd (cc)
live-at (x ∷ xs) zero k e = let same : x ≡ k = cc in ap (λ b. b || list_any (eqb k) xs) (subst (λ (m : ℕ). eqb k m ≡ true) (sym same) (eqb-refl k))
live-at (x ∷ xs) (suc p) k e = by (eqb k x) (live-at xs p k e)
  where
    by : (b : Bool) → list_any (eqb k) xs ≡ true → (b || list_any (eqb k) xs) ≡ true
    by true h = refl
    by false h = h

-- what stands at an earlier place is among the first
among-first : (order : List ℕ) (q i k : ℕ) → q < i → slice_get order q ≡ Some k → list_any (eqb k) (take i order) ≡ true
among-first [] q i k h e = absurd (cc)
among-first (x ∷ xs) q zero k h e = absurd (omega arith)
among-first (x ∷ xs) zero (suc i) k h e = let same : x ≡ k = cc in ap (λ b. b || list_any (eqb k) (take i xs)) (subst (λ (m : ℕ). eqb k m ≡ true) (sym same) (eqb-refl k))
among-first (x ∷ xs) (suc q) (suc i) k h e = by (eqb k x) (among-first xs q i k (omega arith) e)
  where
    by : (b : Bool) → list_any (eqb k) (take i xs) ≡ true → (b || list_any (eqb k) (take i xs)) ≡ true
    by true r = refl
    by false r = r

-- what stands among equal items
slice_get-replicate : {X : Type 0} (n : ℕ) (x : X) (k : ℕ) → k < n → slice_get (replicate n x) k ≡ Some x
slice_get-replicate zero x k h = absurd (omega arith)
slice_get-replicate (suc n) x zero h = refl
slice_get-replicate (suc n) x (suc k) h = slice_get-replicate n x k (omega arith)

-- how many equal items there are
length-replicate : {X : Type 0} (n : ℕ) (x : X) → length (replicate n x) ≡ n
length-replicate zero x = refl
length-replicate (suc n) x = omega (arith, length-replicate n x)

-- the flags of the classes that the walk has passed, and the classes found there
pub record SoFar (classes : List ClassRec) (order : List ℕ) (class i : ℕ) (flags : List Bool) (found : List ℕ) : Type 0 where
  pub as_many : length flags ≡ length classes
  pub passed : (j : ℕ) → j < length classes → slice_get flags j ≡ Some (list_any (nat_eq j) (take i order) && is_on_chain classes order class j)
  pub tree : found ≡ filter (is_on_chain classes order class) (take i order)

-- before the walk
pub SoFar-start : (classes : List ClassRec) (order : List ℕ) (class : ℕ) (flags : List Bool) → flags ≡ replicate (length classes) false → SoFar classes order class 0 flags []
SoFar-start classes order class flags e = record {
  as_many = ap length e ∙ length-replicate (length classes) false;
  passed = λ j h. ap (λ (fs : List Bool). slice_get fs j) e ∙ slice_get-replicate (length classes) false j h;
  tree = refl;
}

module _ (classes : List ClassRec) (order : List ℕ) (class : ℕ) (first : SuperclassesFirst classes order) (is_order : IsOrderOf (record { items = order; slots = length classes })) where
  abbrev up : ℕ → Option ℕ
  up = above classes order

  abbrev on : ℕ → Bool
  on = is_on_chain classes order class

  -- what is above a slot stands before it
  above-before : (p k j : ℕ) → slice_get order p ≡ Some k → up k ≡ Some j → (q : ℕ) × (q < p) × (slice_get order q ≡ Some j)
  above-before p k j at e = by (slice_get classes k) refl e
    where
      only : (s : ℕ) (b : Bool) → cond b (Some s) None ≡ Some j → Some s ≡ Some j
      only s true q = q
      only s false q = absurd (cc)

      then : (o : Option ℕ) → option_and_then (only_live order) o ≡ Some j → o ≡ Some j
      then None q = absurd (cc)
      then (Some s) q = only s (list_any (nat_eq s) order) q

      by : (o : Option ClassRec) → slice_get classes k ≡ o → option_and_then (λ (c : ClassRec). option_and_then (only_live order) c.superclass) o ≡ Some j → (q : ℕ) × (q < p) × (slice_get order q ≡ Some j)
      by None t q = absurd (cc)
      by (Some c) t q = first p k j c at t (then c.superclass q)

  -- a class is on the chain of another where it is that one, or on the chain of the one above it
  on-step : (p k : ℕ) → slice_get order p ≡ Some k → on k ≡ (nat_eq class k || list_any (nat_eq class) (upwards up (length order) (up k)))
  on-step p k at =
      ap (λ b. list_any (nat_eq class) (upwards up (length order) (cond b (Some k) None))) (live-at order p k at)
      ∙ ap (list_any (nat_eq class)) (upwards-whole up (λ q x. slice_get order q ≡ Some x) above-before (length order) p k (slice_get_within order p k at) at)

  module _ (i k : ℕ) (flags : List Bool) (found : List ℕ) (h : i < length order) (is : k ≡ get_or order i k) (so_far : SoFar classes order class i flags found) where
    -- what stands at the place of the walk
    at : slice_get order i ≡ Some k
    at = slice_get-get_or order i k h ∙ ap Some (sym is)

    -- the flag of the superclass tells
    pub tells : (nat_eq class k || option_map_or (λ j. unwrap_or (slice_get flags j) false) (superclass_in classes k) false) ≡ on k
    tells = ap (λ b. nat_eq class k || b) (by (slice_get classes k) refl) ∙ sym (on-step i k at)
      where
        none : list_any (nat_eq class) (upwards up (length order) None) ≡ false
        none = ap (list_any (nat_eq class)) (upwards-none up (length order))

        some : (c : ClassRec) → slice_get classes k ≡ Some c → (o : Option ℕ) → c.superclass ≡ o
            → option_map_or (λ j. unwrap_or (slice_get flags j) false) o false ≡ list_any (nat_eq class) (upwards up (length order) (option_and_then (only_live order) o))
        some c t None q = sym none
        some c t (Some j) q =
            let before = first i k j c at t q in
            let live : IsLive order j = live-at order before.0 j before.2 in
            ap (λ o. unwrap_or o false) (so_far.passed j (is_order.below j live)) ∙ ap (λ b. b && on j) (among-first order before.0 i j before.1 before.2)

        by : (o : Option ClassRec) → slice_get classes k ≡ o
            → option_map_or (λ j. unwrap_or (slice_get flags j) false) (option_and_then (λ (c : ClassRec). c.superclass) o) false ≡ list_any (nat_eq class) (upwards up (length order) (option_and_then (λ (c : ClassRec). option_and_then (only_live order) c.superclass) o))
        by None t = sym none
        by (Some c) t = some c t c.superclass refl

    -- the slot is there
    pub within : k < length classes
    within = is_order.below k (live-at order i k at)

    -- what stands among one more of the first
    one_more : (j : ℕ) → list_any (nat_eq j) (take (i + 1) order) ≡ (list_any (nat_eq j) (take i order) || nat_eq j k)
    one_more j = list_any_more (nat_eq j) order i k h ∙ ap (λ (m : ℕ). list_any (nat_eq j) (take i order) || nat_eq j m) (sym is)

    -- the classes found among one more of the first
    next : filter on (take (i + 1) order) ≡ found ++ cond (on k) (k ∷ []) []
    next = filter_more on order i k h ∙ ap (λ (m : ℕ). filter on (take i order) ++ cond (on m) (m ∷ []) []) (sym is) ∙ ap (λ (xs : List ℕ). xs ++ cond (on k) (k ∷ []) []) (sym so_far.tree)

    -- one test passes
    or-true : (b : Bool) → (b || true) ≡ true
    or-true true = refl
    or-true false = refl

    -- one test fails
    or-false : (b : Bool) → (b || false) ≡ b
    or-false true = refl
    or-false false = refl

    -- nothing is appended
    append-nil : (xs : List ℕ) → xs ++ [] ≡ xs
    append-nil [] = refl
    append-nil (x ∷ xs) = ap (λ (ys : List ℕ). x ∷ ys) (append-nil xs)

    -- a class that is below
    pub SoFar-found : on k ≡ true → SoFar classes order class (i + 1) (set flags k true) (found ++ k ∷ [])
    SoFar-found below = record {
      as_many = length-set flags k true ∙ so_far.as_many;
      passed = λ j less. by j less (eqb_tells j k);
      tree = sym (next ∙ ap (λ b. found ++ cond b (k ∷ []) []) below);
    }
      where
        by : (j : ℕ) → j < length classes → ((eqb j k ≡ true) × (j ≡ k)) ⊎ ((eqb j k ≡ false) × (j ≢ k)) → slice_get (set flags k true) j ≡ Some (list_any (nat_eq j) (take (i + 1) order) && on j)
        by j less (inl s) =
            ap (slice_get (set flags k true)) s.1 ∙ get-set_same flags k true (let many : length flags ≡ length classes = so_far.as_many in let here : k < length classes = within in omega arith)
            ∙ ap Some (sym ((λ t. (one_more j ∙ ap (λ b. list_any (nat_eq j) (take i order) || b) s.0 ∙ or-true (list_any (nat_eq j) (take i order))) t && (ap on s.1 ∙ below) t)))
        by j less (inr s) =
            get-set_other flags k j true (λ e. s.1 (sym e)) ∙ so_far.passed j less
            ∙ ap (λ b. Some (b && on j)) (sym (one_more j ∙ ap (λ b. list_any (nat_eq j) (take i order) || b) s.0 ∙ or-false (list_any (nat_eq j) (take i order))))

    -- a class that is not below
    pub SoFar-passed : on k ≡ false → SoFar classes order class (i + 1) flags found
    SoFar-passed other = record {
      as_many = so_far.as_many;
      passed = λ j less. so_far.passed j less ∙ ap Some (by j (eqb_tells j k));
      tree = sym (next ∙ ap (λ b. found ++ cond b (k ∷ []) []) other ∙ append-nil found);
    }
      where
        and-false : (b : Bool) → (b && false) ≡ false
        and-false true = refl
        and-false false = refl

        by : (j : ℕ) → ((eqb j k ≡ true) × (j ≡ k)) ⊎ ((eqb j k ≡ false) × (j ≢ k)) → (list_any (nat_eq j) (take i order) && on j) ≡ (list_any (nat_eq j) (take (i + 1) order) && on j)
        by j (inl s) =
            let off : on j ≡ false = ap on s.1 ∙ other in
            ap (λ b. list_any (nat_eq j) (take i order) && b) off ∙ and-false (list_any (nat_eq j) (take i order)) ∙ sym (ap (λ b. list_any (nat_eq j) (take (i + 1) order) && b) off ∙ and-false (list_any (nat_eq j) (take (i + 1) order)))
        by j (inr s) = ap (λ b. b && on j) (sym (one_more j ∙ ap (λ b. list_any (nat_eq j) (take i order) || b) s.0 ∙ or-false (list_any (nat_eq j) (take i order))))

-- the same of equal flags and classes found
pub SoFar-moved : (classes : List ClassRec) (order : List ℕ) (class i : ℕ) (flags flags' : List Bool) (found found' : List ℕ) → flags' ≡ flags → found' ≡ found → SoFar classes order class i flags found → SoFar classes order class i flags' found'
SoFar-moved classes order class i flags flags' found found' p q s =
    subst (λ (fs : List Bool). SoFar classes order class i fs found') (sym p) (subst (λ (ks : List ℕ). SoFar classes order class i flags ks) (sym q) s)

-- the same of equal classes and orders
pub SuperclassesFirst-moved : (classes classes' : List ClassRec) (order order' : List ℕ) → classes' ≡ classes → order' ≡ order → SuperclassesFirst classes order → SuperclassesFirst classes' order'
SuperclassesFirst-moved classes classes' order order' p q s =
    subst (λ (cs : List ClassRec). SuperclassesFirst cs order') (sym p) (subst (λ (ks : List ℕ). SuperclassesFirst classes ks) (sym q) s)

-- one class that has no superclass
pub SuperclassesFirst-root : (root : ClassRec) (order : List ℕ) → root.superclass ≡ None → SuperclassesFirst (root ∷ []) order
SuperclassesFirst-root root order none p zero j c at is above = let same : root ≡ c = cc in let bad : None ≡ Some j = sym none ∙ ap (λ (x : ClassRec). x.superclass) same ∙ above in cc
SuperclassesFirst-root root order none p (suc k) j c at is above = absurd (cc)
