-- The slots after changes that places give, each of its own code.
use Rattle.std.proofs.Common.{◌≡◌, ◌⊎◌, inl, inr, ℕ, zero, suc, ◌<◌, true, false, List, [], ◌∷◌, ◌++◌, length, Option, None, Some, slice_get, refl, sym, ap, subst, ◌∙◌, arith}
use Rattle.std.specs.Prelude.{Contains}
use Rattle.std.specs.List.{filter_map, cons_option, AllByRecursion}
use Rattle.std.proofs.Math.Dec.{eqb}
use Rattle.std.proofs.lemmas.Bool.Decides.{eqb_tells}
use Rattle.class_table.specs.declared.record.MethodRec.{MethodRec}
use Rattle.class_table.specs.declared.record.DoIt.{DoIt}
use Rattle.class_table.specs.declared.record.Place.{Place}
use Rattle.class_table.specs.declared.record.Place.TheVariants as place
use Rattle.class_table.specs.Slots.{Slots}
use Rattle.class_table.proofs.OrderLemmas.{get-set_same, get-set_other, length-set}
use Rattle.change_set.specs.declared.change.Change.{Change}
use Rattle.change_set.specs.declared.change.Change.TheVariants as change
use Rattle.change_set.specs.Change.{applied, CanApply}
use Rattle.change_set.specs.Changes.{all_applied, CanApplyAll}
use Rattle.mentions.proofs.Lists.{Contains-first, Contains-later}

-- an item is the first, or behind it
pub Contains-cases : {X : Type 0} (x y : X) (xs : List X) → Contains (x ∷ xs) y → (x ≡ y) ⊎ Contains xs y
Contains-cases x y xs (zero, lt, e) = inl e
Contains-cases x y xs (suc k, lt, e) = inr (k, omega arith, e)

-- what stands at a place
abbrev pub RecAt : Place → Type 0
RecAt (place.Method k) = MethodRec
RecAt (place.DoIt n) = DoIt

abbrev pub get_at : Slots → (p : Place) → Option (RecAt p)
get_at s (place.Method k) = slice_get s.methods k
get_at s (place.DoIt n) = slice_get s.doits n

-- the change by which something else stands there
abbrev pub change_of : (p : Place) → RecAt p → Change
change_of (place.Method k) r = change.Method k r
change_of (place.DoIt n) d = change.DoIt n d

-- the place is one of so many methods and do-its
abbrev pub IsWithin : ℕ → ℕ → Place → Type 0
IsWithin m n (place.Method k) = k < m
IsWithin m n (place.DoIt j) = j < n

-- the same names, orders and heads, and as many slots
pub record Keeps (s t : Slots) : Type 0 where
  pub names : t.names ≡ s.names
  pub class_order : t.class_order ≡ s.class_order
  pub method_order : t.method_order ≡ s.method_order
  pub heads : t.heads ≡ s.heads
  pub classes : length t.classes ≡ length s.classes
  pub methods : length t.methods ≡ length s.methods
  pub doits : length t.doits ≡ length s.doits

pub keeps-same : (s : Slots) → Keeps s s
keeps-same s = record { names = refl; class_order = refl; method_order = refl; heads = refl; classes = refl; methods = refl; doits = refl }

pub keeps-both : (s t u : Slots) → Keeps s t → Keeps t u → Keeps s u
keeps-both s t u a b = record {
  names = b.names ∙ a.names;
  class_order = b.class_order ∙ a.class_order;
  method_order = b.method_order ∙ a.method_order;
  heads = b.heads ∙ a.heads;
  classes = b.classes ∙ a.classes;
  methods = b.methods ∙ a.methods;
  doits = b.doits ∙ a.doits;
}

-- two places are one or two
pub one_or_two : (p q : Place) → (p ≡ q) ⊎ (p ≡ q → ⊥)
one_or_two (place.Method j) (place.Method k) = by (eqb_tells j k)
  where
    back : place.Method j ≡ place.Method k → j ≡ k
    back e = cc

    by : ((eqb j k ≡ true) × (j ≡ k)) ⊎ ((eqb j k ≡ false) × (j ≡ k → ⊥)) → (place.Method j ≡ place.Method k) ⊎ (place.Method j ≡ place.Method k → ⊥)
    by (inl t) = inl (ap place.Method t.1)
    by (inr t) = inr (λ e. t.1 (back e))
one_or_two (place.Method j) (place.DoIt n) = inr (λ e. cc)
one_or_two (place.DoIt n) (place.Method k) = inr (λ e. cc)
one_or_two (place.DoIt j) (place.DoIt k) = by (eqb_tells j k)
  where
    back : place.DoIt j ≡ place.DoIt k → j ≡ k
    back e = cc

    by : ((eqb j k ≡ true) × (j ≡ k)) ⊎ ((eqb j k ≡ false) × (j ≡ k → ⊥)) → (place.DoIt j ≡ place.DoIt k) ⊎ (place.DoIt j ≡ place.DoIt k → ⊥)
    by (inl t) = inl (ap place.DoIt t.1)
    by (inr t) = inr (λ e. t.1 (back e))

-- one change of what stands at a place
module _ (s : Slots) where
  one-keeps : (p : Place) (r : RecAt p) → Keeps s (applied s (change_of p r))
  one-keeps (place.Method k) r = record { names = refl; class_order = refl; method_order = refl; heads = refl; classes = refl; methods = length-set s.methods k r; doits = refl }
  one-keeps (place.DoIt n) d = record { names = refl; class_order = refl; method_order = refl; heads = refl; classes = refl; methods = refl; doits = length-set s.doits n d }

  one-classes : (p : Place) (r : RecAt p) → (applied s (change_of p r)).classes ≡ s.classes
  one-classes (place.Method k) r = refl
  one-classes (place.DoIt n) d = refl

  one-there : (p : Place) (r : RecAt p) → IsWithin (length s.methods) (length s.doits) p → get_at (applied s (change_of p r)) p ≡ Some r
  one-there (place.Method k) r h = get-set_same s.methods k r h
  one-there (place.DoIt n) d h = get-set_same s.doits n d h

  one-other : (p q : Place) (r : RecAt p) → (p ≡ q → ⊥) → get_at (applied s (change_of p r)) q ≡ get_at s q
  one-other (place.Method j) (place.Method k) r ne = get-set_other s.methods j k r (λ e. ne (ap place.Method e))
  one-other (place.Method j) (place.DoIt n) r ne = refl
  one-other (place.DoIt n) (place.Method k) r ne = refl
  one-other (place.DoIt j) (place.DoIt k) r ne = get-set_other s.doits j k r (λ e. ne (ap place.DoIt e))

  one-can : (p : Place) (r : RecAt p) → IsWithin (length s.methods) (length s.doits) p → CanApply s (change_of p r)
  one-can (place.Method k) r h = h
  one-can (place.DoIt n) d h = h

-- a change of the code at a place that is there
abbrev pub IsOf : ℕ → ℕ → Place → Change → Type 0
IsOf m n p c = (r : RecAt p) × IsWithin m n p × (c ≡ change_of p r)

-- each place gives a change of its own code
module _ (f : Place → Option Change) (m n : ℕ) (own : (p : Place) (c : Change) → f p ≡ Some c → IsOf m n p c) where
  abbrev after : Slots → List Place → Slots
  after s ps = all_applied s (filter_map f ps)

  within : (s : Slots) (p : Place) → length s.methods ≡ m → length s.doits ≡ n → IsWithin m n p → IsWithin (length s.methods) (length s.doits) p
  within s p a b h = subst (λ (i : ℕ). IsWithin i (length s.doits) p) (sym a) (subst (λ (j : ℕ). IsWithin m j p) (sym b) h)

  -- names, orders, heads, classes and how many slots there are stay
  pub all-keep : (ps : List Place) (s : Slots) → Keeps s (after s ps)
  all-keep [] s = keeps-same s
  all-keep (p ∷ ps) s = by (f p) refl (λ t. all-keep ps t)
    where
      by : (o : Option Change) → f p ≡ o → ((t : Slots) → Keeps t (after t ps)) → Keeps s (all_applied s (cons_option o (filter_map f ps)))
      by None e rest = rest s
      by (Some c) e rest =
          let is = own p c e in
          keeps-both s (applied s c) (after (applied s c) ps) (subst (λ (d : Change). Keeps s (applied s d)) (sym is.2) (one-keeps s p is.0)) (rest (applied s c))

  pub all-classes : (ps : List Place) (s : Slots) → (after s ps).classes ≡ s.classes
  all-classes [] s = refl
  all-classes (p ∷ ps) s = by (f p) refl (λ t. all-classes ps t)
    where
      by : (o : Option Change) → f p ≡ o → ((t : Slots) → (after t ps).classes ≡ t.classes) → (all_applied s (cons_option o (filter_map f ps))).classes ≡ s.classes
      by None e rest = rest s
      by (Some c) e rest = let is = own p c e in rest (applied s c) ∙ ap (λ (d : Change). (applied s d).classes) is.2 ∙ one-classes s p is.0

  -- where no change is given for a place, what stands there stays
  pub all-other : (q : Place) (ps : List Place) (s : Slots) → ((p : Place) (c : Change) → Contains ps p → f p ≡ Some c → p ≡ q → ⊥) → get_at (after s ps) q ≡ get_at s q
  all-other q [] s h = refl
  all-other q (p ∷ ps) s h = by (f p) refl (λ t. all-other q ps t (λ x c k e. h x c (Contains-later p x ps k) e))
    where
      by : (o : Option Change) → f p ≡ o → ((t : Slots) → get_at (after t ps) q ≡ get_at t q) → get_at (all_applied s (cons_option o (filter_map f ps))) q ≡ get_at s q
      by None e rest = rest s
      by (Some c) e rest =
          let is = own p c e in
          rest (applied s c) ∙ ap (λ (d : Change). get_at (applied s d) q) is.2 ∙ one-other s p q is.0 (h p c (Contains-first p p ps refl) e)

  -- what a place gives stands there
  module _ (q : Place) (r : RecAt q) (gives : f q ≡ Some (change_of q r)) (there : IsWithin m n q) where
    pub all-there : (ps : List Place) (s : Slots) → length s.methods ≡ m → length s.doits ≡ n → Contains ps q ⊎ (get_at s q ≡ Some r) → get_at (after s ps) q ≡ Some r
    all-there [] s a b (inl h) = absurd (let lt = h.1 in omega arith)
    all-there [] s a b (inr h) = h
    all-there (p ∷ ps) s a b h = by (f p) refl (λ t k g. all-there ps t (k.methods ∙ a) (k.doits ∙ b) g)
      where
        none : Option Change → f p ≡ None → p ≡ q → ⊥
        none o e same = let bad : None ≡ Some (change_of q r) = sym e ∙ ap f same ∙ gives in cc

        kept : f p ≡ None → Contains (p ∷ ps) q ⊎ (get_at s q ≡ Some r) → Contains ps q ⊎ (get_at s q ≡ Some r)
        kept e (inl g) = cases (Contains-cases p q ps g)
          where
            cases : (p ≡ q) ⊎ Contains ps q → Contains ps q ⊎ (get_at s q ≡ Some r)
            cases (inl same) = absurd (none None e same)
            cases (inr k) = inl k
        kept e (inr g) = inr g

        moved : (c : Change) → f p ≡ Some c → (p ≡ q) ⊎ (p ≡ q → ⊥) → Contains (p ∷ ps) q ⊎ (get_at s q ≡ Some r) → Contains ps q ⊎ (get_at (applied s c) q ≡ Some r)
        moved c e (inl same) g =
            let some : Some c ≡ Some (change_of q r) = sym e ∙ ap f same ∙ gives in
            let is : c ≡ change_of q r = cc in
            inr (ap (λ (d : Change). get_at (applied s d) q) is ∙ one-there s q r (within s q a b there))
        moved c e (inr ne) (inl g) = cases (Contains-cases p q ps g)
          where
            cases : (p ≡ q) ⊎ Contains ps q → Contains ps q ⊎ (get_at (applied s c) q ≡ Some r)
            cases (inl same) = absurd (ne same)
            cases (inr k) = inl k
        moved c e (inr ne) (inr g) =
            let is = own p c e in
            inr (ap (λ (d : Change). get_at (applied s d) q) is.2 ∙ one-other s p q is.0 ne ∙ g)

        by : (o : Option Change) → f p ≡ o → ((t : Slots) → Keeps s t → Contains ps q ⊎ (get_at t q ≡ Some r) → get_at (after t ps) q ≡ Some r) → get_at (all_applied s (cons_option o (filter_map f ps))) q ≡ Some r
        by None e next = next s (keeps-same s) (kept e h)
        by (Some c) e next =
            let is = own p c e in
            next (applied s c) (subst (λ (d : Change). Keeps s (applied s d)) (sym is.2) (one-keeps s p is.0)) (moved c e (one_or_two p q) h)

  -- each change can be applied at its turn
  pub all-can : (ps : List Place) (s : Slots) → length s.methods ≡ m → length s.doits ≡ n → CanApplyAll s (filter_map f ps)
  all-can [] s a b = tt
  all-can (p ∷ ps) s a b = by (f p) refl (λ t k. all-can ps t (k.methods ∙ a) (k.doits ∙ b))
    where
      by : (o : Option Change) → f p ≡ o → ((t : Slots) → Keeps s t → CanApplyAll t (filter_map f ps)) → CanApplyAll s (cons_option o (filter_map f ps))
      by None e rest = rest s (keeps-same s)
      by (Some c) e rest =
          let is = own p c e in
          let keeps : Keeps s (applied s c) = subst (λ (d : Change). Keeps s (applied s d)) (sym is.2) (one-keeps s p is.0) in
          (subst (CanApply s) (sym is.2) (one-can s p is.0 (within s p a b is.1)), rest (applied s c) keeps)

-- a fact of each change that places give
pub all-given : (P : Change → Type 0) (f : Place → Option Change) (ps : List Place) → ((p : Place) (c : Change) → Contains ps p → f p ≡ Some c → P c) → AllByRecursion P (filter_map f ps)
all-given P f [] h = tt
all-given P f (p ∷ ps) h = by (f p) refl (all-given P f ps (λ q c k e. h q c (Contains-later p q ps k) e))
  where
    by : (o : Option Change) → f p ≡ o → AllByRecursion P (filter_map f ps) → AllByRecursion P (cons_option o (filter_map f ps))
    by None e rest = rest
    by (Some c) e rest = (h p c (Contains-first p p ps refl) e, rest)

-- changes after changes
pub applied-both : (cs ds : List Change) (s : Slots) → all_applied s (cs ++ ds) ≡ all_applied (all_applied s cs) ds
applied-both [] ds s = refl
applied-both (c ∷ cs) ds s = applied-both cs ds (applied s c)

pub can-both : (cs ds : List Change) (s : Slots) → CanApplyAll s cs → CanApplyAll (all_applied s cs) ds → CanApplyAll s (cs ++ ds)
can-both [] ds s a b = b
can-both (c ∷ cs) ds s a b = (a.0, can-both cs ds (applied s c) a.1 b)
