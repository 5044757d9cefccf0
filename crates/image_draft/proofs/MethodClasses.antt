-- What keeps the class of each method there.
use Rattle.std.proofs.Common.{◌≡◌, ℕ, zero, suc, Bool, true, false, not, cond, List, [], ◌∷◌, ◌++◌, map, filter, find, is_some, Contains, Option, Some, slice_get, nat_eq, refl, sym, ap, subst, true≢false}
use Rattle.std.specs.List.{AllByRecursion}
use Rattle.std.specs.Option.{option_map_or}
use Rattle.std.proofs.lemmas.Bool.{eqb-true, eq-eqb}
use Rattle.tree_model.specs.Tree.{MethodOf}
use Rattle.image_model.specs.Image.{ClassOf, EntryOf}
use Rattle.image_model.specs.Lookup.{is_method}
use Rattle.image_model.specs.Valid.{class_names, HasClass}
use Rattle.image_model.proofs.Ends.{contains-place, place-contains, all-end, all-at}
use Rattle.file_model.specs.Changes.{RunOf}
use Rattle.file_model.specs.Hierarchy.{has_class}
use Rattle.file_model.specs.Refusals.{has_method}
use Rattle.file_model.specs.Applied.{entry_in, with_method}
use Rattle.file_numbers.proofs.Mapped.{all-changed}
use Rattle.image_draft.specs.declared.method_draft.MethodDraft.{MethodDraft}
use Rattle.image_draft.specs.Entries.{entry_of}

-- a name is one of those of the classes where there is a class of it
pub named : (cs : List (ClassOf ℕ)) (n : ℕ) → has_class nat_eq cs n ≡ true → Contains (class_names cs) n
named [] n h = absurd (true≢false (sym h))
named (x ∷ xs) n h = by (nat_eq n x.name) refl h (named xs n)
  where
    by : (b : Bool) → nat_eq n x.name ≡ b → is_some (cond b (Some x) (find (λ (c : ClassOf ℕ). nat_eq n c.name) xs)) ≡ true → (has_class nat_eq xs n ≡ true → Contains (class_names xs) n) → Contains (class_names (x ∷ xs)) n
    by true e k rest = place-contains (class_names (x ∷ xs)) zero n (ap Some (sym (eqb-true n x.name e)))
    by false e k rest = let at = contains-place (class_names xs) n (rest k) in place-contains (class_names (x ∷ xs)) (suc at.0) n at.1

there_at : (cs : List (ClassOf ℕ)) (j n : ℕ) → slice_get (class_names cs) j ≡ Some n → has_class nat_eq cs n ≡ true
there_at [] j n e = absurd (cc)
there_at (x ∷ xs) zero n e =
    let same : n ≡ x.name = cc in
    ap (λ (b : Bool). is_some (cond b (Some x) (find (λ (c : ClassOf ℕ). nat_eq n c.name) xs))) (eq-eqb n x.name same)
there_at (x ∷ xs) (suc j) n e = by (nat_eq n x.name) (there_at xs j n e)
  where
    by : (b : Bool) → has_class nat_eq xs n ≡ true → is_some (cond b (Some x) (find (λ (c : ClassOf ℕ). nat_eq n c.name) xs)) ≡ true
    by true rest = refl
    by false rest = rest

there : (cs : List (ClassOf ℕ)) (n : ℕ) → Contains (class_names cs) n → has_class nat_eq cs n ≡ true
there cs n h = let at = contains-place (class_names cs) n h in there_at cs at.0 n at.1

-- where the classes that were there are there still
pub all_kept : (old new : List (ClassOf ℕ)) → ((n : ℕ) → has_class nat_eq old n ≡ true → has_class nat_eq new n ≡ true) → (es : List (EntryOf ℕ)) → AllByRecursion (HasClass old) es → AllByRecursion (HasClass new) es
all_kept old new kept es a = all-at (HasClass old) (HasClass new) es (λ j e at h. (h.0, h.1, named new h.0 (kept h.0 (there old h.0 h.2)))) a

-- where one class is gone, and its methods with it
pub all_left : (old new : List (ClassOf ℕ)) (name : ℕ) → ((n : ℕ) → nat_eq name n ≡ false → has_class nat_eq old n ≡ true → has_class nat_eq new n ≡ true) → (ms : List MethodDraft)
    → AllByRecursion (HasClass old) (map entry_of ms) → AllByRecursion (HasClass new) (map entry_of (filter (λ (m : MethodDraft). not (nat_eq name m.class)) ms))
all_left old new name kept [] a = tt
all_left old new name kept (m ∷ ms) a = by (nat_eq name m.class) refl (all_left old new name kept ms a.1)
  where
    its : HasClass old (entry_of m) → has_class nat_eq old m.class ≡ true
    its h = there old m.class (subst (Contains (class_names old)) (sym (ap (λ (o : Option ℕ). option_map_or (λ (n : ℕ). n) o 0) h.1)) h.2)

    by : (b : Bool) → nat_eq name m.class ≡ b → AllByRecursion (HasClass new) (map entry_of (filter (λ (e : MethodDraft). not (nat_eq name e.class)) ms))
        → AllByRecursion (HasClass new) (map entry_of (cond (not b) (m ∷ filter (λ (e : MethodDraft). not (nat_eq name e.class)) ms) (filter (λ (e : MethodDraft). not (nat_eq name e.class)) ms)))
    by true e rest = rest
    by false e rest = ((m.class, refl, named new m.class (kept m.class e (its a.0))), rest)

-- where methods are gone
pub all_of_filter : {X Y : Type 0} (P : Y → Type 0) (f : X → Y) (p : X → Bool) (xs : List X) → AllByRecursion P (map f xs) → AllByRecursion P (map f (filter p xs))
all_of_filter P f p [] a = tt
all_of_filter P f p (x ∷ xs) a = by (p x) (all_of_filter P f p xs a.1)
  where
    by : (b : Bool) → AllByRecursion P (map f (filter p xs)) → AllByRecursion P (map f (cond b (x ∷ filter p xs) (filter p xs)))
    by true rest = (a.0, rest)
    by false rest = rest

-- with a method of a class that is there
pub all_with_method : (cs : List (ClassOf ℕ)) (kernel : Bool) (r : RunOf ℕ) (source : List ℕ) (m : MethodOf ℕ) (es : List (EntryOf ℕ)) → has_class nat_eq cs r.class ≡ true → AllByRecursion (HasClass cs) es
    → AllByRecursion (HasClass cs) (with_method nat_eq kernel r source m es)
all_with_method cs kernel r source m es here a = by (has_method nat_eq es r.class r.meta m.selector)
  where
    new : HasClass cs (entry_in kernel r source m)
    new = (r.class, refl, named cs r.class here)

    by : (b : Bool) → AllByRecursion (HasClass cs) (cond b (map (λ (e : EntryOf ℕ). cond (is_method nat_eq r.class r.meta m.selector e) (entry_in kernel r source m) e) es) (es ++ entry_in kernel r source m ∷ []))
    by true = all-changed (HasClass cs) (is_method nat_eq r.class r.meta m.selector) (λ (e : EntryOf ℕ). entry_in kernel r source m) es (λ e h. new) a
    by false = all-end (HasClass cs) es (entry_in kernel r source m) a new
