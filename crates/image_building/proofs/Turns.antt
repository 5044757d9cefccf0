-- A list of which some items were taken, and what is known of the next one.
use Rattle.std.proofs.Common.{◌≡◌, ◌⊎◌, ◌≢◌, inl, inr, ℕ, zero, suc, ◌<◌, Bool, true, false, cond, List, [], ◌∷◌, ◌++◌, length, take, get_or, map, find, is_some, Option, Some, slice_get, refl, sym, ap, subst, ◌∙◌, arith, true≢false}
use Rattle.std.specs.Prelude.{nat_eq}
use Rattle.std.specs.List.{AllByRecursion}
use Rattle.std.specs.Option.{ForSome}
use Rattle.std.proofs.lemmas.Bool.Decides.{eqb_tells}
use Rattle.image_model.specs.Image.{ClassOf, EntryOf}
use Rattle.image_model.specs.Valid.{SuperclassesStandBefore, HasClass, class_names}
use Rattle.image_model.proofs.Ends.{contains-place}
use Rattle.file_model.specs.Hierarchy.{has_class}
use Rattle.image_draft.specs.declared.method_draft.MethodDraft.{MethodDraft}
use Rattle.image_draft.specs.Entries.{entry_of}
use Rattle.image_draft.specs.MethodSlots.{those_there}
use Rattle.image_draft.specs.Names.{NamesDiffer}

-- the items that were taken, the next one, and those that are left
pub at_turn : {X : Type 0} (all xs : List X) (x : X) → xs ≡ take (length xs) all → length xs < length all → x ≡ get_or all (length xs) x → (rest : List X) × (all ≡ xs ++ x ∷ rest)
at_turn [] xs x e less at = absurd (omega (arith, less))
at_turn (y ∷ ys) [] x e less at = (ys, ap (λ z. z ∷ ys) (sym at))
at_turn {X} (y ∷ ys) (z ∷ zs) x e less at =
    let first : z ≡ y = cc in
    let others : zs ≡ take (length zs) ys = cc in
    let next = at_turn ys zs x others (omega (arith, less)) at in
    (next.0, (λ i. sym first i ∷ next.1 i))

-- what holds of all holds of the next
pub all_next : {X : Type 0} (P : X → Type 0) (xs : List X) (x : X) (rest : List X) → AllByRecursion P (xs ++ x ∷ rest) → P x
all_next P [] x rest all = all.0
all_next P (y ∷ ys) x rest all = all_next P ys x rest all.1

pub all_next_mapped : {X Y : Type 0} (P : Y → Type 0) (f : X → Y) (xs : List X) (x : X) (rest : List X) → AllByRecursion P (map f (xs ++ x ∷ rest)) → P (f x)
all_next_mapped P f [] x rest all = all.0
all_next_mapped P f (y ∷ ys) x rest all = all_next_mapped P f ys x rest all.1

-- what holds of all methods holds of that of the next slot, if it has one
pub all_next_slot : (P : EntryOf ℕ → Type 0) (before : List (EntryOf ℕ)) (all slots rest : List (Option MethodDraft)) (slot : Option MethodDraft) (m : MethodDraft)
    → before ++ map entry_of (those_there slots) ≡ map entry_of (those_there all) → slots ≡ slot ∷ rest → slot ≡ Some m → AllByRecursion P (map entry_of (those_there all)) → P (entry_of m)
all_next_slot P before all slots rest slot m seen next is each =
    let one : slots ≡ Some m ∷ rest = next ∙ ap (λ (o : Option MethodDraft). o ∷ rest) is in
    let split = sym seen ∙ ap (λ (os : List (Option MethodDraft)). before ++ map entry_of (those_there os)) one in
    all_next P before (entry_of m) (map entry_of (those_there rest)) (subst (AllByRecursion P) split each)

-- a number is equal to itself
nat_eq-refl : (k : ℕ) → nat_eq k k ≡ true
nat_eq-refl k = by (eqb_tells k k)
  where
    by : ((nat_eq k k ≡ true) × (k ≡ k)) ⊎ ((nat_eq k k ≡ false) × (k ≢ k)) → nat_eq k k ≡ true
    by (inl s) = s.0
    by (inr s) = absurd (s.1 refl)

-- two numbers that differ do so the other way round
differ-back : (m n : ℕ) → nat_eq m n ≡ false → nat_eq n m ≡ false
differ-back m n h = by (eqb_tells n m)
  where
    by : ((nat_eq n m ≡ true) × (n ≡ m)) ⊎ ((nat_eq n m ≡ false) × (n ≢ m)) → nat_eq n m ≡ false
    by (inl t) = absurd (true≢false (sym (nat_eq-refl n) ∙ ap (λ (k : ℕ). nat_eq k n) t.1 ∙ h))
    by (inr t) = t.0

-- a name that no class has is not that of the next
other_name : (cs : List (ClassOf ℕ)) (c : ClassOf ℕ) (rest : List (ClassOf ℕ)) (n : ℕ) → has_class nat_eq (cs ++ c ∷ rest) n ≡ false → nat_eq n c.name ≡ false
other_name [] c rest n h = by (nat_eq n c.name) refl h
  where
    by : (b : Bool) → nat_eq n c.name ≡ b → is_some (cond b (Some c) (find (λ (x : ClassOf ℕ). nat_eq n x.name) rest)) ≡ false → nat_eq n c.name ≡ false
    by true e k = absurd (true≢false k)
    by false e k = e
other_name (d ∷ ds) c rest n h = by (nat_eq n d.name) h (λ k. other_name ds c rest n k)
  where
    by : (b : Bool) → is_some (cond b (Some d) (find (λ (x : ClassOf ℕ). nat_eq n x.name) (ds ++ c ∷ rest))) ≡ false → (has_class nat_eq (ds ++ c ∷ rest) n ≡ false → nat_eq n c.name ≡ false) → nat_eq n c.name ≡ false
    by true k next = absurd (true≢false k)
    by false k next = next k

-- no class before the next has its name
pub name_next : (cs : List (ClassOf ℕ)) (c : ClassOf ℕ) (rest : List (ClassOf ℕ)) → NamesDiffer (cs ++ c ∷ rest) → has_class nat_eq cs c.name ≡ false
name_next [] c rest h = refl
name_next (d ∷ ds) c rest h =
    ap (λ (b : Bool). is_some (cond b (Some d) (find (λ (x : ClassOf ℕ). nat_eq c.name x.name) ds))) (differ-back d.name c.name (other_name ds c rest d.name h.0)) ∙ name_next ds c rest h.1

-- a class whose name stands at a place is there
named_there : (cs : List (ClassOf ℕ)) (rest : List (ClassOf ℕ)) (j n : ℕ) → j < length cs → slice_get (class_names (cs ++ rest)) j ≡ Some n → has_class nat_eq cs n ≡ true
named_there [] rest j n less e = absurd (omega (arith, less))
named_there (d ∷ ds) rest zero n less e =
    let same : d.name ≡ n = cc in
    ap (λ (b : Bool). is_some (cond b (Some d) (find (λ (x : ClassOf ℕ). nat_eq n x.name) ds))) (ap (nat_eq n) same ∙ nat_eq-refl n)
named_there (d ∷ ds) rest (suc j) n less e = by (nat_eq n d.name) (named_there ds rest j n (omega (arith, less)) e)
  where
    by : (b : Bool) → has_class nat_eq ds n ≡ true → is_some (cond b (Some d) (find (λ (x : ClassOf ℕ). nat_eq n x.name) ds)) ≡ true
    by true k = refl
    by false k = k

next_at : {X : Type 0} (xs : List X) (x : X) (rest : List X) → slice_get (xs ++ x ∷ rest) (length xs) ≡ Some x
next_at [] x rest = refl
next_at (y ∷ ys) x rest = next_at ys x rest

-- the superclass of the next class is there
pub superclass_next : (cs : List (ClassOf ℕ)) (c : ClassOf ℕ) (rest : List (ClassOf ℕ)) → SuperclassesStandBefore (cs ++ c ∷ rest) → ForSome c.superclass (λ n. has_class nat_eq cs n ≡ true)
superclass_next cs c rest before n e =
    let named = before (length cs) c n (next_at cs c rest) e in
    named_there cs (c ∷ rest) named.0 n named.1 named.2

-- the class of a method is there
names_there : (cs : List (ClassOf ℕ)) (j n : ℕ) → slice_get (class_names cs) j ≡ Some n → has_class nat_eq cs n ≡ true
names_there [] j n e = absurd (cc)
names_there (d ∷ ds) zero n e =
    let same : d.name ≡ n = cc in
    ap (λ (b : Bool). is_some (cond b (Some d) (find (λ (x : ClassOf ℕ). nat_eq n x.name) ds))) (ap (nat_eq n) same ∙ nat_eq-refl n)
names_there (d ∷ ds) (suc j) n e = by (nat_eq n d.name) (names_there ds j n e)
  where
    by : (b : Bool) → has_class nat_eq ds n ≡ true → is_some (cond b (Some d) (find (λ (x : ClassOf ℕ). nat_eq n x.name) ds)) ≡ true
    by true k = refl
    by false k = k

pub class_of_next : (cs : List (ClassOf ℕ)) (m : MethodDraft) → HasClass cs (entry_of m) → has_class nat_eq cs m.class ≡ true
class_of_next cs m h =
    let same : m.class ≡ h.0 = some h.1 in
    let at = contains-place (class_names cs) h.0 h.2 in
    ap (has_class nat_eq cs) same ∙ names_there cs at.0 h.0 at.1
  where
    some : {a b : ℕ} → Some a ≡ Some b → a ≡ b
    some e = cc
