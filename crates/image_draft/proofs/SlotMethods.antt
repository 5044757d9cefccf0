-- What is asked of methods in slots, and what changes make of them.
use Rattle.std.proofs.Common.{◌≡◌, ℕ, Bool, true, false, not, cond, ◌&&◌, List, [], ◌∷◌, ◌++◌, length, map, filter, find, is_some, Option, Some, None, slice_get, slice_set, IfSome, nat_eq, nat_le, refl, sym, ap, subst, ◌∙◌}
use Rattle.std.specs.Option.{option_map_or, option_and_then}
use Rattle.std.proofs.lemmas.List.{map-append}
use Rattle.image_model.proofs.Lists.{length-map}
use Rattle.std.specs.HashMap.{get}
use Rattle.st_tree.specs.View.{method_of}
use Rattle.image_model.specs.Image.{EntryOf}
use Rattle.image_model.specs.Lookup.{is_method}
use Rattle.file_model.specs.Causes.{first_cause, KernelReplaced, TooMany}
use Rattle.file_model.specs.Changes.{RunOf}
use Rattle.file_model.specs.Refusals.{has_method, is_kernel_method, is_one_method_too_many, method_limit, method_refusals}
use Rattle.file_model.specs.Applied.{with_method}
use Rattle.image_draft.specs.declared.method_draft.MethodDraft.{MethodDraft}
use Rattle.image_draft.specs.declared.method_slots.MethodKey.{MethodKey}
use Rattle.image_draft.specs.declared.method_slots.MethodSlots.{MethodSlots}
use Rattle.image_draft.specs.Entries.{entry_of, run_of}
use Rattle.image_draft.specs.MethodSlots.{same_key, key_of, those_there, without_its, KeepsMethods}
use Rattle.image_draft.proofs.Entries.{has_method_found, kernel_found}
use Rattle.image_draft.proofs.SlotLists.{find-none, find-only, there-replaced, there-emptied, set-same}
use Rattle.image_draft.proofs.SlotTables.{is_its, is_its-key, none-unlisted, only-listed}

-- the methods that are there, over numbers of names
abbrev pub entries_in : MethodSlots → List (EntryOf ℕ)
entries_in s = map entry_of (those_there s.slots.items)

module _ (s : MethodSlots) (keeps : KeepsMethods s) (key : MethodKey) where
  module _ (absent : get same_key s.places key ≡ None) where
    nothing : find (is_its key) (those_there s.slots.items) ≡ None
    nothing = find-none (is_its key) s.slots.items (none-unlisted s keeps key absent)

    pub kernel-unlisted : is_kernel_method nat_eq (entries_in s) key.class key.meta key.selector ≡ false
    kernel-unlisted = sym (kernel_found (those_there s.slots.items) key.class key.meta key.selector) ∙ ap (λ (o : Option MethodDraft). option_map_or (λ (m : MethodDraft). m.kernel) o false) nothing

    pub has-unlisted : has_method nat_eq (entries_in s) key.class key.meta key.selector ≡ false
    has-unlisted = sym (has_method_found (those_there s.slots.items) key.class key.meta key.selector) ∙ ap is_some nothing

  module _ (k : ℕ) (m : MethodDraft) (place : get same_key s.places key ≡ Some k) (at : slice_get s.slots.items k ≡ Some (Some m)) (its : key_of m ≡ key) where
    one : find (is_its key) (those_there s.slots.items) ≡ Some m
    one = find-only (is_its key) s.slots.items k m at (is_its-key key m its) (only-listed s keeps key k place)

    pub kernel-listed : is_kernel_method nat_eq (entries_in s) key.class key.meta key.selector ≡ m.kernel
    kernel-listed = sym (kernel_found (those_there s.slots.items) key.class key.meta key.selector) ∙ ap (λ (o : Option MethodDraft). option_map_or (λ (m : MethodDraft). m.kernel) o false) one

    pub has-listed : has_method nat_eq (entries_in s) key.class key.meta key.selector ≡ true
    has-listed = sym (has_method_found (those_there s.slots.items) key.class key.meta key.selector) ∙ ap is_some one

    pub emptied : those_there (slice_set s.slots.items k None) ≡ filter (λ (e : MethodDraft). not (is_its key e)) (those_there s.slots.items)
    emptied = there-emptied (is_its key) s.slots.items k m at (is_its-key key m its) (only-listed s keeps key k place)

    pub replaced : (new : MethodDraft) → map entry_of (those_there (slice_set s.slots.items k (Some new)))
        ≡ map (λ (e : EntryOf ℕ). cond (is_method nat_eq key.class key.meta key.selector e) (entry_of new) e) (entries_in s)
    replaced new = there-replaced entry_of (is_method nat_eq key.class key.meta key.selector) new s.slots.items k m at (is_its-key key m its) (only-listed s keeps key k place)

-- a new method is refused where there are too many, and one that is there where it is one of the kernel
pub refusals-new : (es : List (EntryOf ℕ)) (r : RunOf ℕ) (s : ℕ) → is_kernel_method nat_eq es r.class r.meta s ≡ false → has_method nat_eq es r.class r.meta s ≡ false
    → first_cause (method_refusals nat_eq es r s) ≡ cond (nat_le method_limit (length es)) (Some TooMany) None
refusals-new es r s k h =
    ap (λ (b : Bool). cond b (Some KernelReplaced) (cond (is_one_method_too_many nat_eq es r.class r.meta s) (Some TooMany) None)) k
    ∙ ap (λ (b : Bool). cond (not b && nat_le method_limit (length es)) (Some TooMany) None) h

pub refusals-again : (es : List (EntryOf ℕ)) (r : RunOf ℕ) (s : ℕ) (kernel : Bool) → is_kernel_method nat_eq es r.class r.meta s ≡ kernel → has_method nat_eq es r.class r.meta s ≡ true
    → first_cause (method_refusals nat_eq es r s) ≡ cond kernel (Some KernelReplaced) None
refusals-again es r s kernel k h =
    (λ i. cond (k i) (Some KernelReplaced) (cond (not (h i) && nat_le method_limit (length es)) (Some TooMany) None))

-- the methods with one that is new
pub with-new : (m : MethodDraft) (ms new : List MethodDraft) → has_method nat_eq (map entry_of ms) m.class m.meta m.tree.selector ≡ false → new ≡ ms ++ m ∷ []
    → map entry_of new ≡ with_method nat_eq m.kernel (run_of m) m.source (method_of m.tree) (map entry_of ms)
with-new m ms new absent e =
    ap (map entry_of) e ∙ map-append entry_of ms (m ∷ [])
    ∙ sym (ap (λ (b : Bool). cond b (map (λ (y : EntryOf ℕ). cond (is_method nat_eq m.class m.meta m.tree.selector y) (entry_of m) y) (map entry_of ms)) (map entry_of ms ++ entry_of m ∷ [])) absent)

pub with-again : (m : MethodDraft) (es new : List (EntryOf ℕ)) → has_method nat_eq es m.class m.meta m.tree.selector ≡ true
    → new ≡ map (λ (y : EntryOf ℕ). cond (is_method nat_eq m.class m.meta m.tree.selector y) (entry_of m) y) es
    → new ≡ with_method nat_eq m.kernel (run_of m) m.source (method_of m.tree) es
with-again m es new there e =
    e ∙ sym (ap (λ (b : Bool). cond b (map (λ (y : EntryOf ℕ). cond (is_method nat_eq m.class m.meta m.tree.selector y) (entry_of m) y) es) (es ++ entry_of m ∷ [])) there)

-- what is said of the method at a place
pub at_slot : (slots : List (Option MethodDraft)) (k : ℕ) (m : MethodDraft) (P : MethodDraft → Type 0) → slice_get slots k ≡ Some (Some m) → IfSome (slice_get slots k) (λ slot. IfSome slot P) → P m
at_slot slots k m P at h = subst (λ (o : Option (Option MethodDraft)). IfSome o (λ slot. IfSome slot P)) at h

-- a method whose key is listed is refused where that of the place is one of the kernel
pub refusals-at : (s : MethodSlots) → KeepsMethods s → (m : MethodDraft) (k : ℕ) → get same_key s.places (key_of m) ≡ Some k → (kernel : Bool) → IfSome (slice_get s.slots.items k) (λ slot. IfSome slot (λ e. kernel ≡ e.kernel))
    → first_cause (method_refusals nat_eq (entries_in s) (run_of m) m.tree.selector) ≡ cond kernel (Some KernelReplaced) None
refusals-at s keeps m k place kernel says =
    let f = keeps.found (key_of m) k place in
    refusals-again (entries_in s) (run_of m) m.tree.selector kernel
    (kernel-listed s keeps (key_of m) k f.0 place f.1 f.2 ∙ sym (at_slot s.slots.items k f.0 (λ (e : MethodDraft). kernel ≡ e.kernel) f.1 says))
    (has-listed s keeps (key_of m) k f.0 place f.1 f.2)

-- one whose key is not listed is refused where there are too many
pub refusals-last : (s : MethodSlots) → KeepsMethods s → (m : MethodDraft) → get same_key s.places (key_of m) ≡ None
    → first_cause (method_refusals nat_eq (entries_in s) (run_of m) m.tree.selector) ≡ cond (nat_le method_limit s.count) (Some TooMany) None
refusals-last s keeps m absent =
    refusals-new (entries_in s) (run_of m) m.tree.selector (kernel-unlisted s keeps (key_of m) absent) (has-unlisted s keeps (key_of m) absent)
    ∙ ap (λ (n : ℕ). cond (nat_le method_limit n) (Some TooMany) None) (length-map entry_of (those_there s.slots.items) ∙ sym keeps.counted)

-- a slot whose method is one of a class is emptied, and another stays
abbrev pub key_if_its : ℕ → Option MethodDraft → Option MethodKey
key_if_its class slot = option_and_then (λ (m : MethodDraft). cond (nat_eq class m.class) (Some (key_of m)) None) slot

no_key : (key : MethodKey) → ◌≡◌ {A = Option MethodKey} (Some key) None → ⊥
no_key key e = cc

one_key : (a b : MethodKey) → ◌≡◌ {A = Option MethodKey} (Some a) (Some b) → a ≡ b
one_key a b e = cc

pub cleared-some : (s : MethodSlots) → KeepsMethods s → (place class : ℕ) (key : MethodKey) (new : List (Option MethodDraft)) → IfSome (slice_get s.slots.items place) (λ slot. Some key ≡ key_if_its class slot)
    → IfSome (get same_key s.places key) (λ k. new ≡ slice_set s.slots.items k None) → IfSome (slice_get s.slots.items place) (λ slot. new ≡ slice_set s.slots.items place (without_its class slot))
cleared-some s keeps place class key new says made = by (slice_get s.slots.items place) refl says
  where
    written : (m : MethodDraft) (b : Bool) → nat_eq class m.class ≡ b → slice_get s.slots.items place ≡ Some (Some m) → Some key ≡ cond b (Some (key_of m)) None → new ≡ slice_set s.slots.items place (cond b None (Some m))
    written m true q at h =
        let listed : get same_key s.places key ≡ Some place = ap (get same_key s.places) (one_key key (key_of m) h) ∙ keeps.listed place m at in
        subst (λ (o : Option ℕ). IfSome o (λ k. new ≡ slice_set s.slots.items k None)) listed made
    written m false q at h = absurd (no_key key h)

    by : (o : Option (Option MethodDraft)) → slice_get s.slots.items place ≡ o → IfSome o (λ slot. Some key ≡ key_if_its class slot) → IfSome o (λ slot. new ≡ slice_set s.slots.items place (without_its class slot))
    by None at h = tt
    by (Some None) at h = absurd (no_key key h)
    by (Some (Some m)) at h = written m (nat_eq class m.class) refl at h

pub cleared-none : (slots : List (Option MethodDraft)) (place class : ℕ) → IfSome (slice_get slots place) (λ slot. ◌≡◌ {A = Option MethodKey} None (key_if_its class slot)) → IfSome (slice_get slots place) (λ slot. slots ≡ slice_set slots place (without_its class slot))
cleared-none slots place class says = by (slice_get slots place) refl says
  where
    kept : (m : MethodDraft) (b : Bool) → slice_get slots place ≡ Some (Some m) → ◌≡◌ {A = Option MethodKey} None (cond b (Some (key_of m)) None) → slots ≡ slice_set slots place (cond b None (Some m))
    kept m true at h = absurd (no_key (key_of m) (sym h))
    kept m false at h = set-same slots place (Some m) at

    by : (o : Option (Option MethodDraft)) → slice_get slots place ≡ o → IfSome o (λ slot. ◌≡◌ {A = Option MethodKey} None (key_if_its class slot)) → IfSome o (λ slot. slots ≡ slice_set slots place (without_its class slot))
    by None at h = tt
    by (Some None) at h = set-same slots place None at
    by (Some (Some m)) at h = kept m (nat_eq class m.class) at h

-- the methods that are left where those of a class are gone
pub those-without : (class : ℕ) (slots : List (Option MethodDraft)) → those_there (map (without_its class) slots) ≡ filter (λ (m : MethodDraft). not (nat_eq class m.class)) (those_there slots)
those-without class [] = refl
those-without class (None ∷ slots) = those-without class slots
those-without class (Some m ∷ slots) = by (nat_eq class m.class) (those-without class slots)
  where
    by : (b : Bool) → those_there (map (without_its class) slots) ≡ filter (λ (e : MethodDraft). not (nat_eq class e.class)) (those_there slots)
        → those_there (cond b None (Some m) ∷ map (without_its class) slots) ≡ cond (not b) (m ∷ filter (λ (e : MethodDraft). not (nat_eq class e.class)) (those_there slots)) (filter (λ (e : MethodDraft). not (nat_eq class e.class)) (those_there slots))
    by true rest = rest
    by false rest = ap (λ (ms : List MethodDraft). m ∷ ms) rest
