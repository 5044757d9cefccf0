-- Slots that tables hold under their keys.
use Rattle.std.proofs.Common.{◌≡◌, ◌≢◌, ◌⊎◌, inl, inr, ℕ, zero, suc, ◌+◌, ◌<◌, ◌≤◌, Bool, true, false, cond, ◌&&◌, ◌||◌, if◌then◌else◌, List, [], ◌∷◌, length, take, get_or, find, Option, Some, None, refl, sym, ap, subst, ◌∙◌, arith, add-one, true≢false}
use Rattle.std.specs.Prelude.{nat_eq}
use Rattle.std.specs.List.{list_any}
use Rattle.std.specs.Option.{option_map_or, option_and_then}
use Rattle.std.proofs.Math.Dec.{eqb}
use Rattle.std.proofs.lemmas.Bool.Decides.{eqb_tells}
use Rattle.class_table.specs.Tables.{known_at, IsAmongAnd, HoldsSlots, key_with}
use Rattle.class_table.proofs.TableLemmas.{Tells}
use Rattle.class_table.proofs.Live.{or_true, eqb-equal, find-only, find-passes}

-- an option has one item
pub Some-one : {X : Type 0} (x y : X) → Some x ≡ Some y → x ≡ y
Some-one x y e = cc

pub None-Some : {X : Type 0} {A : Type 0} (x : X) → None ≡ Some x → A
None-Some x e = absurd (cc)

-- what is known at a slot is that slot, which is live and passes
known-there : (test : ℕ → Bool) (order : List ℕ) (s k : ℕ) → known_at test order s ≡ Some k → (s ≡ k) × (list_any (nat_eq k) order ≡ true) × (test k ≡ true)
known-there test order s k h = by (list_any (nat_eq s) order) (test s) refl refl h
  where
    by : (b c : Bool) → list_any (nat_eq s) order ≡ b → test s ≡ c → (if b && c then Some s else None) ≡ Some k → (s ≡ k) × (list_any (nat_eq k) order ≡ true) × (test k ≡ true)
    by true true l t e = let same : s ≡ k = Some-one s k e in (same, subst (λ (j : ℕ). list_any (nat_eq j) order ≡ true) same l, subst (λ (j : ℕ). test j ≡ true) same t)
    by true false l t e = None-Some k e
    by false c l t e = None-Some k e

-- a slot that is live and passes is known
known-here : (test : ℕ → Bool) (order : List ℕ) (k : ℕ) → list_any (nat_eq k) order ≡ true → test k ≡ true → known_at test order k ≡ Some k
known-here test order k l t = λ i. if l i && t i then Some k else None

-- the same for a slot that is given
known-given : (test : ℕ → Bool) (order : List ℕ) (o : Option ℕ) (k : ℕ) → option_and_then (known_at test order) o ≡ Some k → (o ≡ Some k) × (list_any (nat_eq k) order ≡ true) × (test k ≡ true)
known-given test order None k h = None-Some k h
known-given test order (Some s) k h = let it = known-there test order s k h in (ap Some it.0, it.1, it.2)

module _ {K : Type 0} (same : K → K → Bool) (tells : Tells same) where
  same-refl : (q : K) → same q q ≡ true
  same-refl q = by (tells q q)
    where
      by : ((same q q ≡ true) × (q ≡ q)) ⊎ ((same q q ≡ false) × (q ≢ q)) → same q q ≡ true
      by (inl s) = s.0
      by (inr s) = absurd (s.1 refl)

  same-one : (p q : K) → same p q ≡ true → p ≡ q
  same-one p q h = by (tells p q)
    where
      by : ((same p q ≡ true) × (p ≡ q)) ⊎ ((same p q ≡ false) × (p ≢ q)) → p ≡ q
      by (inl s) = s.1
      by (inr s) = absurd (true≢false (sym h ∙ s.0))

  module _ (key : ℕ → Option K) where
    -- whether a slot has a key
    abbrev pub has : K → ℕ → Bool
    has q k = option_map_or (same q) (key k) false

    has-key : (q : K) (k : ℕ) → has q k ≡ true → key k ≡ Some q
    has-key q k h = by (key k) h
      where
        by : (o : Option K) → option_map_or (same q) o false ≡ true → o ≡ Some q
        by None e = absurd (true≢false (sym e))
        by (Some n) e = ap Some (sym (same-one q n e))

    key-has : (q : K) (k : ℕ) → key k ≡ Some q → has q k ≡ true
    key-has q k e = ap (λ o. option_map_or (same q) o false) e ∙ same-refl q

    module _ (at : K → Option ℕ) (order : List ℕ) (except : Option ℕ) (holds : HoldsSlots at key order except) (q : K) where
      abbrev known : Option ℕ
      known = option_and_then (known_at (has q) order) (at q)

      -- a live slot with the key is known
      known-is : (k : ℕ) → list_any (nat_eq k) order ≡ true → (except ≡ Some k → ⊥) → has q k ≡ true → known ≡ Some k
      known-is k l ne h = ap (option_and_then (known_at (has q) order)) (holds k q l ne (has-key q k h)) ∙ known-here (has q) order k l h

      -- what is known is what a search finds, where the excepted slot is not live or has another key
      pub found : option_and_then (known_at (has q) order) except ≡ None → known ≡ find (has q) order
      found none = by known refl
        where
          apart : (j : ℕ) → list_any (nat_eq j) order ≡ true → has q j ≡ true → except ≡ Some j → ⊥
          apart j l h e = None-Some j (sym none ∙ ap (option_and_then (known_at (has q) order)) e ∙ known-here (has q) order j l h)

          nothing : (o : Option ℕ) → known ≡ None → find (has q) order ≡ o → None ≡ o
          nothing None e f = refl
          nothing (Some j) e f = let it = find-passes (has q) order j f in None-Some j (sym e ∙ known-is j it.1 (apart j it.1 it.0) it.0)

          by : (o : Option ℕ) → known ≡ o → o ≡ find (has q) order
          by None e = nothing (find (has q) order) e refl
          by (Some k) e =
              let it = known-given (has q) order (at q) k e in
              sym (find-only (has q) order k it.1 it.2 (λ j l h. Some-one j k (sym (known-is j l (apart j l h) h) ∙ e)))

      -- the excepted slot is found, where it is live and has the key, and no other slot is known
      pub found-excepted : (s : ℕ) → option_and_then (known_at (has q) order) except ≡ Some s → ((k : ℕ) → known ≡ Some k → k ≡ s) → Some s ≡ find (has q) order
      found-excepted s e only =
          let it = known-given (has q) order except s e in
          sym (find-only (has q) order s it.1 it.2 (λ j l h. by j l h (eqb_tells j s)))
        where
          by : (j : ℕ) → list_any (nat_eq j) order ≡ true → has q j ≡ true → ((eqb j s ≡ true) × (j ≡ s)) ⊎ ((eqb j s ≡ false) × (j ≢ s)) → j ≡ s
          by j l h (inl t) = t.1
          by j l h (inr t) = only j (known-is j l (λ x. t.1 (sym (Some-one s j (sym (known-given (has q) order except s e).0 ∙ x)))) h)

      -- one slot is entered at a key which no other live slot has
      module _ (slot : ℕ) (excepted : (k : ℕ) → except ≡ Some k → k ≡ slot) (free : (k : ℕ) → known ≡ Some k → k ≡ slot) (after : K → Option ℕ) (put : (p : K) → after p ≡ cond (same q p) (Some slot) (at p)) where
        pub entered : (later : List ℕ) → IsAmongAnd later order slot → HoldsSlots after (key_with key slot q) later None
        entered later among k p l _ e = by (eqb_tells k slot)
          where
            mine : key_with key slot q k ≡ Some q → k ≡ slot → after p ≡ Some k
            mine m s = let one : q ≡ p = Some-one q p (sym m ∙ e) in put p ∙ ap (λ b. cond b (Some slot) (at p)) (ap (λ r. same q r) (sym one) ∙ same-refl q) ∙ ap Some (sym s)

            other : key k ≡ Some p → (k ≢ slot) → ((same q p ≡ true) × (q ≡ p)) ⊎ ((same q p ≡ false) × (q ≢ p)) → after p ≡ Some k
            other m ne (inl t) = absurd (ne (free k (known-is k (among k l ne) (λ x. ne (excepted k x)) (key-has q k (m ∙ ap Some (sym t.1))))))
            other m ne (inr t) = put p ∙ ap (λ b. cond b (Some slot) (at p)) t.0 ∙ holds k p (among k l ne) (λ x. ne (excepted k x)) m

            by : ((eqb k slot ≡ true) × (k ≡ slot)) ⊎ ((eqb k slot ≡ false) × (k ≢ slot)) → after p ≡ Some k
            by (inl s) = mine (ap (λ b. if b then Some q else key k) s.0) s.1
            by (inr s) = other (sym (ap (λ b. if b then Some q else key k) s.0) ∙ e) s.1 (tells q p)

    module _ (order : List ℕ) (i s : ℕ) (h : i < length order) (r : s ≡ get_or order i s) where
      -- what is in one more of an order is in the part before it, or is the next
      turn : (xs : List ℕ) (n j : ℕ) → n < length xs → s ≡ get_or xs n s → (j ≢ s) → list_any (nat_eq j) (take (suc n) xs) ≡ true → list_any (nat_eq j) (take n xs) ≡ true
      turn [] n j m e ne l = absurd (omega arith)
      turn (x ∷ xs) zero j m e ne l = by (or_true (nat_eq j x) false l)
        where
          by : (nat_eq j x ≡ true) ⊎ (false ≡ true) → false ≡ true
          by (inl t) = absurd (ne (eqb-equal j x t ∙ sym e))
          by (inr t) = t
      turn (x ∷ xs) (suc n) j m e ne l = by (nat_eq j x) (turn xs n j (omega arith) e ne) l
        where
          by : (b : Bool) → (list_any (nat_eq j) (take (suc n) xs) ≡ true → list_any (nat_eq j) (take n xs) ≡ true) → (b || list_any (nat_eq j) (take (suc n) xs)) ≡ true → (b || list_any (nat_eq j) (take n xs)) ≡ true
          by true rest t = refl
          by false rest t = rest t

      before : (j : ℕ) → (j ≢ s) → list_any (nat_eq j) (take (i + 1) order) ≡ true → list_any (nat_eq j) (take i order) ≡ true
      before j ne l = turn order i j h r ne (rw add-one at l)

      module _ (at : K → Option ℕ) (holds : HoldsSlots at key (take i order) None) where
        -- the next slot has no key
        pub passed : key s ≡ None → HoldsSlots at key (take (i + 1) order) None
        passed none k q l x e = holds k q (before k (λ (t : k ≡ s). None-Some q (sym none ∙ ap key (sym t) ∙ e)) l) x e

        -- the next slot is put in at its key, at which there was none
        pub filled : (q : K) → key s ≡ Some q → at q ≡ None → (after : K → Option ℕ) → ((p : K) → after p ≡ cond (same q p) (Some s) (at p)) → HoldsSlots after key (take (i + 1) order) None
        filled q is none after put k p l x e = by (eqb_tells k s) (tells q p)
          where
            by : ((eqb k s ≡ true) × (k ≡ s)) ⊎ ((eqb k s ≡ false) × (k ≢ s)) → ((same q p ≡ true) × (q ≡ p)) ⊎ ((same q p ≡ false) × (q ≢ p)) → after p ≡ Some k
            by (inl t) (inl b) = put p ∙ ap (λ c. cond c (Some s) (at p)) b.0 ∙ ap Some (sym t.1)
            by (inl t) (inr b) = absurd (b.1 (Some-one q p (sym is ∙ ap key (sym t.1) ∙ e)))
            by (inr t) (inl b) = None-Some k (sym none ∙ ap at b.1 ∙ holds k p (before k t.1 l) x e)
            by (inr t) (inr b) = put p ∙ ap (λ c. cond c (Some s) (at p)) b.0 ∙ holds k p (before k t.1 l) x e

-- slots are held where they were, and have their keys
pub held-on : {K : Type 0} (at : K → Option ℕ) (key key' : ℕ → Option K) (order later : List ℕ) (except except' : Option ℕ) → HoldsSlots at key order except
    → ((k : ℕ) → list_any (nat_eq k) later ≡ true → (except' ≡ Some k → ⊥) → (list_any (nat_eq k) order ≡ true) × (except ≡ Some k → ⊥) × (key' k ≡ key k)) → HoldsSlots at key' later except'
held-on at key key' order later except except' holds same k q l x e = let it = same k l x in holds k q it.0 it.1 (sym it.2 ∙ e)

-- a list is all of it from its front
pub take-whole : {X : Type 0} (xs : List X) (n : ℕ) → length xs ≤ n → take n xs ≡ xs
take-whole [] zero h = refl
take-whole [] (suc n) h = refl
take-whole (x ∷ xs) zero h = absurd (omega arith)
take-whole (x ∷ xs) (suc n) h = ap (λ l. x ∷ l) (take-whole xs n (omega arith))
