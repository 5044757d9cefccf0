-- Classes of which some order is in order are all taken when they are put in order.
use Rattle.std.proofs.Common.{◌≡◌, ◌⊎◌, inl, inr, ℕ, zero, suc, ◌≤◌, Bool, true, false, cond, List, [], ◌∷◌, ◌++◌, length, find, Option, Some, None, slice_get, Contains, refl, sym, ap, subst, ◌∙◌, true≢false, append_assoc, arith, length-append}
use Rattle.std.specs.Prelude.{if◌then◌else◌}
use Rattle.std.specs.List.{AllByRecursion}
use Rattle.std.specs.List.Sorted.{IsPermutation}
use Rattle.std.specs.Option.{option_map_or}
use Rattle.std.proofs.lemmas.List.{append-nil}
use Rattle.std.proofs.lemmas.List.Elements.{All-contains, All-from_recursion, recursion_from_All, All-contains_itself}
use Rattle.std.proofs.lemmas.List.Sorted.{IsPermutation-refl, IsPermutation-sym, IsPermutation-trans, IsPermutation-middle, IsPermutation-append_right, All-permutation, Contains-permutation}
use Rattle.image_model.specs.Image.{ClassOf}
use Rattle.image_model.specs.Valid.{SuperclassesStandBefore}
use Rattle.image_model.proofs.Ends.{contains-place, place-contains}
use Rattle.file_model.specs.Hierarchy.{stands_in, can_follow, without_first, settle_behind, settled}
use Rattle.file_laws.specs.Settling.{IsTakenInTurn}
use Rattle.file_laws.proofs.Settled.{turn_of}
use Rattle.file_laws.proofs.Moves.{All-weaker, stands_either, stands_left, stands_right, stands_alone, its_name, follows_more, turn_both}
use Rattle.file_laws.proofs.Redefined.{in_order}

-- a list in which the first item that passes is given: those before it fail
pub record IsSplit {X : Type 0} (p : X → Bool) (xs : List X) (x : X) : Type 0 where
  pub front : List X
  pub back : List X
  pub whole : xs ≡ front ++ (x ∷ back)
  pub without : without_first p xs ≡ front ++ back
  pub fail : AllByRecursion (λ y. p y ≡ false) front
  pub passes : p x ≡ true

pub split : {X : Type 0} (p : X → Bool) (xs : List X) (x : X) → find p xs ≡ Some x → IsSplit p xs x
split p [] x e = absurd (cc)
split {X} p (y ∷ ys) x e = by (p y) refl e (split p ys x)
  where
    by : (b : Bool) → p y ≡ b → cond b (Some y) (find p ys) ≡ Some x → (find p ys ≡ Some x → IsSplit p ys x) → IsSplit p (y ∷ ys) x
    by true q h rest =
        let same : y ≡ x = cc in
        record {
          front = [];
          back = ys;
          whole = ap (λ z. z ∷ ys) same;
          without = ap (λ (b : Bool). if b then ys else y ∷ without_first p ys) q;
          fail = tt;
          passes = ap p (sym same) ∙ q;
        }
    by false q h rest =
        let r = rest h in
        record {
          front = y ∷ r.front;
          back = r.back;
          whole = ap (λ (zs : List X). y ∷ zs) r.whole;
          without = ap (λ (b : Bool). if b then ys else y ∷ without_first p ys) q ∙ ap (λ (zs : List X). y ∷ zs) r.without;
          fail = (q, r.fail);
          passes = r.passes;
        }

-- where nothing is found each item fails
pub none_found : {X : Type 0} (p : X → Bool) (xs : List X) → find p xs ≡ None → AllByRecursion (λ y. p y ≡ false) xs
none_found p [] e = tt
none_found {X} p (y ∷ ys) e = by (p y) refl e (none_found p ys)
  where
    by : (b : Bool) → p y ≡ b → cond b (Some y) (find p ys) ≡ None → (find p ys ≡ None → AllByRecursion (λ z. p z ≡ false) ys) → (p y ≡ false) × AllByRecursion (λ z. p z ≡ false) ys
    by true q h rest = absurd (cc)
    by false q h rest = (q, rest h)

-- a fact of each item holds in every order of them
pub All-reordered : {X : Type 0} (P : X → Type 0) (xs ys : List X) → IsPermutation xs ys → AllByRecursion P xs → AllByRecursion P ys
All-reordered P xs ys same all = recursion_from_All P ys (All-permutation P xs ys same (All-from_recursion P xs all))

-- an item of a list is the first one or one of the others
contains_either : {X : Type 0} (y : X) (ys : List X) (x : X) → Contains (y ∷ ys) x → (y ≡ x) ⊎ Contains ys x
contains_either {X} y ys x h = by (contains-place (y ∷ ys) x h).0 (contains-place (y ∷ ys) x h).1
  where
    by : (k : ℕ) → slice_get (y ∷ ys) k ≡ Some x → (y ≡ x) ⊎ Contains ys x
    by zero e = let same : y ≡ x = cc in inl same
    by (suc k) e = inr (place-contains ys k x e)

-- the item that is taken out, and the others
pub taken_out : {X : Type 0} (p : X → Bool) (xs : List X) (x : X) → IsSplit p xs x → IsPermutation xs (x ∷ without_first p xs)
taken_out p xs x s =
    subst (λ (ys : List _). IsPermutation xs (x ∷ ys)) (sym s.without)
    (subst (λ (ys : List _). IsPermutation ys (x ∷ (s.front ++ s.back))) (sym s.whole) (IsPermutation-middle s.front x s.back))

-- over names that a test tells apart
module _ {N : Type 0} (is_same : N → N → Bool) (reflexive : (n : N) → is_same n n ≡ true) (equal : (s t : N) → is_same s t ≡ true → s ≡ t) where
  -- where a class is left, the first one that is left can be taken
  some_follows : (taken left seen rest : List (ClassOf N)) → ((s : N) → stands_in is_same s seen ≡ true → stands_in is_same s taken ≡ true) → IsTakenInTurn is_same seen rest
      → AllByRecursion (λ (d : ClassOf N). (stands_in is_same d.name taken ≡ true) ⊎ Contains left d) rest → (c : ClassOf N) → Contains left c → (k : ℕ) → slice_get rest k ≡ Some c
      → (e : ClassOf N) × Contains left e × (can_follow is_same taken e ≡ true)
  some_follows taken left seen [] covers turn all c has k at = absurd (cc)
  some_follows taken left seen (x ∷ xs) covers turn all c has zero at =
      let same : x ≡ c = cc in
      (c, has, subst (λ (y : ClassOf N). can_follow is_same taken y ≡ true) same (follows_more is_same reflexive equal seen taken x (λ s e h. covers s h) turn.0))
  some_follows taken left seen (x ∷ xs) covers turn all c has (suc k) at = by all.0 (λ more. some_follows taken left (seen ++ x ∷ []) xs more turn.1 all.1 c has k at)
    where
      by : (stands_in is_same x.name taken ≡ true) ⊎ Contains left x
          → (((s : N) → stands_in is_same s (seen ++ x ∷ []) ≡ true → stands_in is_same s taken ≡ true) → (e : ClassOf N) × Contains left e × (can_follow is_same taken e ≡ true))
          → (e : ClassOf N) × Contains left e × (can_follow is_same taken e ≡ true)
      by (inl named) next = next (λ s h. one s (stands_either is_same reflexive equal s seen (x ∷ []) h))
        where
          one : (s : N) → (stands_in is_same s seen ≡ true) ⊎ (stands_in is_same s (x ∷ []) ≡ true) → stands_in is_same s taken ≡ true
          one s (inl k) = covers s k
          one s (inr k) = subst (λ (t : N). stands_in is_same t taken ≡ true) (sym (stands_alone is_same reflexive equal s x k)) named
      by (inr here) next = (x, here, follows_more is_same reflexive equal seen taken x (λ s e h. covers s h) turn.0)

  -- each class is taken: those that are left are some of an order in which each can be taken in turn
  settle_all : (k : ℕ) (taken left ds : List (ClassOf N)) → length left ≤ k → IsTakenInTurn is_same [] taken → IsTakenInTurn is_same [] ds
      → AllByRecursion (λ (d : ClassOf N). (stands_in is_same d.name taken ≡ true) ⊎ Contains left d) ds → AllByRecursion (Contains ds) left
      → IsTakenInTurn is_same [] (settle_behind is_same k taken left) × IsPermutation (taken ++ left) (settle_behind is_same k taken left)
  settle_all zero taken [] ds few turn order all these = (turn, subst (λ (ys : List (ClassOf N)). IsPermutation (taken ++ []) ys) (append-nil taken) (IsPermutation-refl (taken ++ [])))
  settle_all zero taken (c ∷ cs) ds few turn order all these = absurd (omega (arith, few))
  settle_all (suc k) taken [] ds few turn order all these = (turn, subst (λ (ys : List (ClassOf N)). IsPermutation (taken ++ []) ys) (append-nil taken) (IsPermutation-refl (taken ++ [])))
  settle_all (suc k) taken (c ∷ cs) ds few turn order all these = by (find (can_follow is_same taken) (c ∷ cs)) refl (λ x t l u v w. settle_all k (taken ++ x ∷ []) t ds l u order v w)
    where
      some : (e : ClassOf N) × Contains (c ∷ cs) e × (can_follow is_same taken e ≡ true)
      some =
          let place = contains-place ds c these.0 in
          some_follows taken (c ∷ cs) [] ds (λ s h. absurd (true≢false (sym h))) order all c (place-contains (c ∷ cs) 0 c refl) place.0 place.1

      taken_or_left : (x : ClassOf N) (rest : List (ClassOf N)) → IsPermutation (c ∷ cs) (x ∷ rest) → (d : ClassOf N) → (stands_in is_same d.name taken ≡ true) ⊎ Contains (c ∷ cs) d → (stands_in is_same d.name (taken ++ x ∷ []) ≡ true) ⊎ Contains rest d
      taken_or_left x rest same d (inl named) = inl (stands_left is_same reflexive equal d.name taken (x ∷ []) named)
      taken_or_left x rest same d (inr has) = one (contains_either x rest d (Contains-permutation (c ∷ cs) (x ∷ rest) d same has))
        where
          one : (x ≡ d) ⊎ Contains rest d → (stands_in is_same d.name (taken ++ x ∷ []) ≡ true) ⊎ Contains rest d
          one (inl e) = inl (stands_right is_same reflexive equal d.name taken (x ∷ []) (subst (λ (y : ClassOf N). stands_in is_same y.name (x ∷ []) ≡ true) e (its_name is_same reflexive equal x [])))
          one (inr h) = inr h

      fewer : (x : ClassOf N) → IsSplit (can_follow is_same taken) (c ∷ cs) x → length (without_first (can_follow is_same taken) (c ∷ cs)) ≤ k
      fewer x s = omega (arith, few, ap length s.whole, ap length s.without, length-append s.front (x ∷ s.back), length-append s.front s.back)

      by : (o : Option (ClassOf N)) → find (can_follow is_same taken) (c ∷ cs) ≡ o
          → ((x : ClassOf N) (t : List (ClassOf N)) → length t ≤ k → IsTakenInTurn is_same [] (taken ++ x ∷ []) → AllByRecursion (λ (d : ClassOf N). (stands_in is_same d.name (taken ++ x ∷ []) ≡ true) ⊎ Contains t d) ds → AllByRecursion (Contains ds) t
          → IsTakenInTurn is_same [] (settle_behind is_same k (taken ++ x ∷ []) t) × IsPermutation ((taken ++ x ∷ []) ++ t) (settle_behind is_same k (taken ++ x ∷ []) t))
          → IsTakenInTurn is_same [] (option_map_or (λ x. settle_behind is_same k (taken ++ x ∷ []) (without_first (can_follow is_same taken) (c ∷ cs))) o taken)
          × IsPermutation (taken ++ c ∷ cs) (option_map_or (λ x. settle_behind is_same k (taken ++ x ∷ []) (without_first (can_follow is_same taken) (c ∷ cs))) o taken)
      by None e next =
          absurd (true≢false (sym some.2 ∙ All-contains (λ (y : ClassOf N). can_follow is_same taken y ≡ false) (c ∷ cs) some.0 (All-from_recursion (λ (y : ClassOf N). can_follow is_same taken y ≡ false) (c ∷ cs) (none_found (can_follow is_same taken) (c ∷ cs) e)) some.1))
      by (Some x) e next =
          let rest = without_first (can_follow is_same taken) (c ∷ cs) in
          let s = split (can_follow is_same taken) (c ∷ cs) x e in
          let same = taken_out (can_follow is_same taken) (c ∷ cs) x s in
          let r =
          next x rest (fewer x s) (turn_both is_same reflexive equal [] taken (x ∷ []) turn (s.passes, tt))
          (All-weaker (λ (d : ClassOf N). (stands_in is_same d.name taken ≡ true) ⊎ Contains (c ∷ cs) d) (λ (d : ClassOf N). (stands_in is_same d.name (taken ++ x ∷ []) ≡ true) ⊎ Contains rest d) ds (taken_or_left x rest same) all)
          (All-reordered (Contains ds) (c ∷ cs) (x ∷ rest) same these).1 in
          let moved : IsPermutation (taken ++ c ∷ cs) ((taken ++ x ∷ []) ++ rest) =
          subst (λ (ys : List (ClassOf N)). IsPermutation (taken ++ c ∷ cs) ys) (sym (append_assoc taken (x ∷ []) rest)) (IsPermutation-append_right taken (c ∷ cs) (x ∷ rest) same) in
          (r.0, IsPermutation-trans (taken ++ c ∷ cs) ((taken ++ x ∷ []) ++ rest) (settle_behind is_same k (taken ++ x ∷ []) rest) moved r.1)

  -- classes of which some order is in order are put in order, and none is lost
  pub settled_in_order : (cs ds : List (ClassOf N)) → IsPermutation cs ds → SuperclassesStandBefore ds → SuperclassesStandBefore (settled is_same cs) × IsPermutation cs (settled is_same cs)
  settled_in_order cs ds same before =
      let back = IsPermutation-sym cs ds same in
      let r =
      settle_all (length cs) [] cs ds (omega arith) tt (turn_of is_same reflexive equal [] ds before)
      (All-reordered (λ (d : ClassOf N). (stands_in is_same d.name [] ≡ true) ⊎ Contains cs d) cs ds same (All-weaker (Contains cs) (λ (d : ClassOf N). (stands_in is_same d.name [] ≡ true) ⊎ Contains cs d) cs (λ d h. inr h) (recursion_from_All (Contains cs) cs (All-contains_itself cs))))
      (All-reordered (Contains ds) ds cs back (recursion_from_All (Contains ds) ds (All-contains_itself ds))) in
      (in_order is_same reflexive equal (settled is_same cs) r.0, r.1)
