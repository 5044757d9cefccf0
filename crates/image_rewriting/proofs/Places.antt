-- The changes of places that were looked at one after the other, while names came.
use Rattle.std.proofs.Common.{◌≡◌, ◌⊎◌, inl, inr, ℕ, zero, suc, ◌+◌, ◌<◌, ◌≤◌, Bool, true, false, List, [], ◌∷◌, ◌++◌, length, map, take, get_or, Option, None, Some, is_some, slice_get, refl, sym, ap, subst, ◌∙◌, arith, true≢false}
use Rattle.std.specs.Prelude.{Contains, if◌then◌else◌, nat_eq}
use Rattle.std.specs.List.{AllByRecursion, list_any}
use Rattle.std.proofs.lemmas.Bool.{cases_lt}
use Rattle.std.proofs.lemmas.List.{take_more}
use Rattle.std.proofs.lemmas.List.Elements.{Contains-append_left, Contains-append_right}
use Rattle.rb_base.specs.Names.{HasNoTwice}
use Rattle.query_model.specs.Lines.{Text}
use Rattle.event_trees.specs.Naming.{Grows}
use Rattle.event_trees.proofs.Known.{Grows-twice}
use Rattle.class_table.specs.declared.record.Place.{Place}
use Rattle.class_table.specs.declared.record.Place.TheVariants as place
use Rattle.class_table.specs.Slots.{Slots}
use Rattle.class_table.specs.Valid.{IsLive}
use Rattle.class_table.proofs.Live.{or_true, eqb-equal}
use Rattle.change_set.specs.declared.change.Change.{Change}
use Rattle.mentions.proofs.Lists.{Contains-first, Contains-later, Contains-cases}
use Rattle.patterns.specs.declared.tree.Rule.{Rule}
use Rattle.remade_plans.specs.Remade.{change_at}
use Rattle.remade_plans.proofs.SoFar.{SoFar, next-some, next-none}
use Rattle.image_rewriting.specs.Planned.{renamed, remaking, HasNumbersAt, IsFound, doit_places, places_of}

-- these are the changes of the places, whatever names come later
pub record FoundSoFar (s : Slots) (names : List Text) (r : Rule) (places : List Place) (changes : List Change) (now : List Place) : Type 0 where
  pub so_far : (later : List Text) → Grows names later → HasNoTwice later → SoFar (renamed s later) (remaking later r) places changes now
  pub numbers : (later : List Text) → Grows names later → HasNoTwice later → AllByRecursion (HasNumbersAt later r s) places

-- before the first place
pub found-none : (s : Slots) (names : List Text) (r : Rule) (changes : List Change) (now : List Place) → changes ≡ [] → now ≡ [] → FoundSoFar s names r [] changes now
found-none s names r changes now e f = record { so_far = λ later g once. record { changes_are = e; touched_are = f }; numbers = λ later g once. tt }

all_also : {X : Type 0} (P : X → Type 0) (xs : List X) (x : X) → AllByRecursion P xs → P x → AllByRecursion P (xs ++ x ∷ [])
all_also P [] x h k = (k, tt)
all_also P (y ∷ ys) x h k = (h.0, all_also P ys x h.1 k)

-- one more place
module _ (s : Slots) (names more : List Text) (r : Rule) (places : List Place) (i : ℕ) (p : Place) (lt : i < length places) (is : p ≡ get_or places i p) (changes : List Change) (now : List Place)
    (grows : Grows names more) (so : FoundSoFar s names r (take i places) changes now) where
  numbers_more : (found : Option Change) → IsFound s more r p found → (later : List Text) → Grows more later → HasNoTwice later → AllByRecursion (HasNumbersAt later r s) (take (i + 1) places)
  numbers_more found here later g once =
      subst (AllByRecursion (HasNumbersAt later r s)) (sym (take_more places i p lt ∙ ap (λ (q : Place). take i places ++ q ∷ []) (sym is)))
      (all_also (HasNumbersAt later r s) (take i places) p (so.numbers later (Grows-twice grows g) once) (here.numbers later g once))

  -- without a change
  pub found-same : IsFound s more r p None → (after : List Change) (now_after : List Place) → after ≡ changes → now_after ≡ now → FoundSoFar s more r (take (i + 1) places) after now_after
  found-same here after now_after e f = record {
    so_far = λ later g once. next-none (renamed s later) (remaking later r) places i p lt is changes now after now_after (here.change later g once) e f (so.so_far later (Grows-twice grows g) once);
    numbers = numbers_more None here;
  }

  -- with one
  pub found-more : (c : Change) → IsFound s more r p (Some c) → (after : List Change) (now_after : List Place) → after ≡ changes ++ c ∷ [] → now_after ≡ now ++ p ∷ [] → FoundSoFar s more r (take (i + 1) places) after now_after
  found-more c here after now_after e f = record {
    so_far = λ later g once. next-some (renamed s later) (remaking later r) places i p lt is changes now c after now_after (here.change later g once) e f (so.so_far later (Grows-twice grows g) once);
    numbers = numbers_more (Some c) here;
  }

-- a place among the others
live_listed : (order : List ℕ) (k : ℕ) → IsLive order k → Contains (map place.Method order) (place.Method k)
live_listed [] k l = absurd (true≢false (sym l))
live_listed (j ∷ js) k l = by (or_true (nat_eq k j) (list_any (nat_eq k) js) l) (λ m. live_listed js k m)
  where
    by : (nat_eq k j ≡ true) ⊎ (list_any (nat_eq k) js ≡ true) → (IsLive js k → Contains (map place.Method js) (place.Method k)) → Contains (map place.Method (j ∷ js)) (place.Method k)
    by (inl e) rest = Contains-first (place.Method j) (place.Method k) (map place.Method js) (ap place.Method (sym (eqb-equal k j e)))
    by (inr m) rest = Contains-later (place.Method j) (place.Method k) (map place.Method js) (rest m)

doit_listed : (count n : ℕ) → n < count → Contains (doit_places count) (place.DoIt n)
doit_listed zero n l = absurd (omega (arith, l))
doit_listed (suc m) n l = by (cases_lt n m) (λ less. doit_listed m n less)
  where
    by : (n < m) ⊎ (m ≤ n) → (n < m → Contains (doit_places m) (place.DoIt n)) → Contains (doit_places m ++ place.DoIt m ∷ []) (place.DoIt n)
    by (inl less) rest = Contains-append_left (doit_places m) (place.DoIt m ∷ []) (place.DoIt n) (rest less)
    by (inr most) rest =
        let same : m ≡ n = omega (arith, l, most) in
        Contains-append_right (doit_places m) (place.DoIt m ∷ []) (place.DoIt n) (Contains-first (place.DoIt m) (place.DoIt n) [] (ap place.DoIt same))

pub method-listed : (s : Slots) (k : ℕ) → IsLive s.method_order k → Contains (places_of s) (place.Method k)
method-listed s k l = Contains-append_left (map place.Method s.method_order) (doit_places (length s.doits)) (place.Method k) (live_listed s.method_order k l)

pub doit-listed : (s : Slots) (n : ℕ) → n < length s.doits → Contains (places_of s) (place.DoIt n)
doit-listed s n l = Contains-append_right (map place.Method s.method_order) (doit_places (length s.doits)) (place.DoIt n) (doit_listed (length s.doits) n l)

-- what holds at each place holds at one of them
pub all-listed : (P : Place → Type 0) (places : List Place) (p : Place) → AllByRecursion P places → Contains places p → P p
all-listed P [] p h c = absurd (none c)
  where
    none : Contains [] p → ⊥
    none d = let lt = d.1 in omega arith
all-listed P (q ∷ qs) p h c = by (Contains-cases q p qs c) (λ g. all-listed P qs p h.1 g)
  where
    by : (q ≡ p) ⊎ Contains qs p → (Contains qs p → P p) → P p
    by (inl same) rest = subst P same h.0
    by (inr g) rest = rest g

-- what is found in slots that have further names is found in those from before
pub found-in : (s t : Slots) (names : List Text) (r : Rule) (p : Place) (found : Option Change) → t ≡ renamed s t.names → IsFound t names r p found → IsFound s names r p found
found-in s t names r p found rest here = record {
  change = λ later g once. here.change later g once ∙ ap (λ (u : Slots). change_at (renamed u later) (remaking later r) p) rest;
  numbers = λ later g once. subst (λ (u : Slots). HasNumbersAt later r u p) rest (here.numbers later g once);
}
