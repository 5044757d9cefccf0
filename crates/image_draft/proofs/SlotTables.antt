-- What keeps methods in slots, and the table by which they are found.
use Rattle.std.proofs.Common.{◌≡◌, ◌≢◌, ◌⊎◌, inl, inr, ℕ, ◌+◌, Bool, true, false, cond, ◌&&◌, List, [], ◌∷◌, ◌++◌, length, Option, Some, None, slice_get, slice_set, nat_eq, refl, sym, ap, ◌∙◌, subst, arith, true≢false}
use Rattle.std.specs.Bool.{beq}
use Rattle.std.specs.Option.{option_map_or}
use Rattle.std.proofs.lemmas.Bool.{eqb-true, eq-eqb, and_parts}
use Rattle.std.proofs.lemmas.Bool.Decides.{eqb_tells}
use Rattle.std.proofs.lemmas.Option.{slice_get_within}
use Rattle.std.specs.HashMap.{get}
use Rattle.class_table.proofs.TableLemmas.{beq_tells}
use Rattle.class_table.proofs.OrderLemmas.{get-set_same, get-set_other}
use Rattle.image_model.specs.Image.{EntryOf}
use Rattle.image_model.specs.Lookup.{is_method}
use Rattle.image_model.proofs.Ends.{slice_get-end, slice_get-front, length-end}
use Rattle.image_draft.specs.declared.method_draft.MethodDraft.{MethodDraft}
use Rattle.image_draft.specs.declared.method_slots.MethodKey.{MethodKey}
use Rattle.image_draft.specs.declared.method_slots.MethodSlots.{MethodSlots}
use Rattle.image_draft.specs.Entries.{entry_of}
use Rattle.image_draft.specs.MethodSlots.{same_key, key_of, those_there, KeepsMethods}
use Rattle.image_draft.proofs.SlotLists.{NonePasses, OnlyAt, length-emptied, length-replaced, there-last}

-- keys of methods are told apart
same_key_tells : (a b : MethodKey) → ((same_key a b ≡ true) × (a ≡ b)) ⊎ ((same_key a b ≡ false) × (a ≢ b))
same_key_tells a b = by (eqb_tells a.class b.class) (beq_tells a.meta b.meta) (eqb_tells a.selector b.selector)
  where
    by : ((nat_eq a.class b.class ≡ true) × (a.class ≡ b.class)) ⊎ ((nat_eq a.class b.class ≡ false) × (a.class ≢ b.class))
        → ((beq a.meta b.meta ≡ true) × (a.meta ≡ b.meta)) ⊎ ((beq a.meta b.meta ≡ false) × (a.meta ≢ b.meta))
        → ((nat_eq a.selector b.selector ≡ true) × (a.selector ≡ b.selector)) ⊎ ((nat_eq a.selector b.selector ≡ false) × (a.selector ≢ b.selector))
        → ((same_key a b ≡ true) × (a ≡ b)) ⊎ ((same_key a b ≡ false) × (a ≢ b))
    by (inl c) (inl m) (inl s) = inl ((λ i. c.0 i && (m.0 i && s.0 i)), λ i. record { class = c.1 i; meta = m.1 i; selector = s.1 i })
    by (inl c) (inl m) (inr s) = inr ((λ i. c.0 i && (m.0 i && s.0 i)), λ e. s.1 (ap (λ (k : MethodKey). k.selector) e))
    by (inl c) (inr m) s = inr ((λ i. c.0 i && (m.0 i && nat_eq a.selector b.selector)), λ e. m.1 (ap (λ (k : MethodKey). k.meta) e))
    by (inr c) m s = inr ((λ i. c.0 i && (beq a.meta b.meta && nat_eq a.selector b.selector)), λ e. c.1 (ap (λ (k : MethodKey). k.class) e))

-- the method of a class, a side and a selector has them
beq_equal : (a b : Bool) → beq a b ≡ true → a ≡ b
beq_equal true true h = refl
beq_equal true false h = absurd (true≢false (sym h))
beq_equal false true h = absurd (true≢false (sym h))
beq_equal false false h = refl

is_method-parts : (c : ℕ) (meta : Bool) (s : ℕ) (m : EntryOf ℕ) → is_method nat_eq c meta s m ≡ true → (option_map_or (nat_eq c) m.class false ≡ true) × (meta ≡ m.meta) × (s ≡ m.tree.selector)
is_method-parts c meta s m h =
    let last = and_parts (option_map_or (nat_eq c) m.class false && beq meta m.meta) (nat_eq s m.tree.selector) h in
    let first = and_parts (option_map_or (nat_eq c) m.class false) (beq meta m.meta) last.0 in
    (first.0, beq_equal meta m.meta first.1, eqb-true s m.tree.selector last.1)

-- whether a method is that of a key
abbrev pub is_its : MethodKey → MethodDraft → Bool
is_its key m = is_method nat_eq key.class key.meta key.selector (entry_of m)

pub its_key : (key : MethodKey) (m : MethodDraft) → is_its key m ≡ true → key_of m ≡ key
its_key key m h =
    let parts = is_method-parts key.class key.meta key.selector (entry_of m) h in
    let class : key.class ≡ m.class = eqb-true key.class m.class parts.0 in
    λ i. record { class = sym class i; meta = sym parts.1 i; selector = sym parts.2 i }

pub is_its-key : (key : MethodKey) (m : MethodDraft) → key_of m ≡ key → is_its key m ≡ true
is_its-key key m e = subst (λ (k : MethodKey). is_its k m ≡ true) e own
  where
    side : (b : Bool) → beq b b ≡ true
    side true = refl
    side false = refl

    own : is_its (key_of m) m ≡ true
    own = λ i. eq-eqb m.class m.class refl i && side m.meta i && eq-eqb m.tree.selector m.tree.selector refl i

one_place : (j k : ℕ) → ◌≡◌ {A = Option ℕ} (Some j) (Some k) → j ≡ k
one_place j k e = cc

no_place : (j : ℕ) → ◌≡◌ {A = Option ℕ} None (Some j) → ⊥
no_place j e = cc

one_method : (m n : MethodDraft) → ◌≡◌ {A = Option MethodDraft} (Some m) (Some n) → m ≡ n
one_method m n e = cc

one_slot : (m n : MethodDraft) → ◌≡◌ {A = Option (Option MethodDraft)} (Some (Some m)) (Some (Some n)) → m ≡ n
one_slot m n e = cc

empty_slot : (m : MethodDraft) → ◌≡◌ {A = Option (Option MethodDraft)} (Some None) (Some (Some m)) → ⊥
empty_slot m e = cc

last_slot : {X : Type 0} (xs : List X) (x : X) → slice_get (xs ++ x ∷ []) (length xs) ≡ Some x
last_slot [] x = refl
last_slot (y ∷ ys) x = last_slot ys x

module _ (s : MethodSlots) (keeps : KeepsMethods s) (key : MethodKey) where
  -- a key that is not listed has no method
  pub none-unlisted : get same_key s.places key ≡ None → NonePasses (is_its key) s.slots.items
  none-unlisted none j m at = by (is_its key m) refl
    where
      by : (b : Bool) → is_its key m ≡ b → b ≡ false
      by true h = absurd (no_place j (sym none ∙ ap (get same_key s.places) (sym (its_key key m h)) ∙ keeps.listed j m at))
      by false h = refl

  -- a key that is listed has its method there alone
  pub only-listed : (k : ℕ) → get same_key s.places key ≡ Some k → OnlyAt (is_its key) s.slots.items k
  only-listed k there j m at h = one_place j k (sym (keeps.listed j m at) ∙ ap (get same_key s.places) (its_key key m h) ∙ there)

-- a method in the place of another of the same key
pub keeps-replaced : (s t : MethodSlots) (k : ℕ) (m new : MethodDraft) → KeepsMethods s → slice_get s.slots.items k ≡ Some (Some m) → key_of new ≡ key_of m
    → t.slots.items ≡ slice_set s.slots.items k (Some new) → t.places ≡ s.places → t.count ≡ s.count → KeepsMethods t
keeps-replaced s t k m new keeps at same slots places count = record {
  listed = λ j x there. ap (λ p. get same_key p (key_of x)) places ∙ listed j x (eqb_tells k j) (subst (λ (os : List (Option MethodDraft)). slice_get os j ≡ Some (Some x)) slots there);
  found = λ key j e. found key j (eqb_tells k j) (keeps.found key j (ap (λ p. get same_key p key) (sym places) ∙ e));
  counted = count ∙ keeps.counted ∙ sym (ap (λ (os : List (Option MethodDraft)). length (those_there os)) slots ∙ length-replaced s.slots.items k m new at);
}
  where
    written : slice_get (slice_set s.slots.items k (Some new)) k ≡ Some (Some new)
    written = get-set_same s.slots.items k (Some new) (slice_get_within s.slots.items k (Some m) at)

    listed : (j : ℕ) (x : MethodDraft) → ((nat_eq k j ≡ true) × (k ≡ j)) ⊎ ((nat_eq k j ≡ false) × (k ≢ j)) → slice_get (slice_set s.slots.items k (Some new)) j ≡ Some (Some x) → get same_key s.places (key_of x) ≡ Some j
    listed j x (inl e) there =
        let one : new ≡ x = one_slot new x (sym written ∙ ap (slice_get (slice_set s.slots.items k (Some new))) e.1 ∙ there) in
        ap (get same_key s.places) (sym (ap key_of one) ∙ same) ∙ keeps.listed k m at ∙ ap (λ (n : ℕ). Some n) e.1
    listed j x (inr e) there = keeps.listed j x (sym (get-set_other s.slots.items k j (Some new) e.1) ∙ there)

    found : (key : MethodKey) (j : ℕ) → ((nat_eq k j ≡ true) × (k ≡ j)) ⊎ ((nat_eq k j ≡ false) × (k ≢ j)) → (x : MethodDraft) × (slice_get s.slots.items j ≡ Some (Some x)) × (key_of x ≡ key)
        → (x : MethodDraft) × (slice_get t.slots.items j ≡ Some (Some x)) × (key_of x ≡ key)
    found key j (inl e) f =
        let one : m ≡ f.0 = one_slot m f.0 (sym at ∙ ap (slice_get s.slots.items) e.1 ∙ f.1) in
        (new, ap (λ (os : List (Option MethodDraft)). slice_get os j) slots ∙ sym (ap (slice_get (slice_set s.slots.items k (Some new))) e.1) ∙ written, same ∙ ap key_of one ∙ f.2)
    found key j (inr e) f = (f.0, ap (λ (os : List (Option MethodDraft)). slice_get os j) slots ∙ get-set_other s.slots.items k j (Some new) e.1 ∙ f.1, f.2)

-- an emptied slot whose key is no more listed
pub keeps-emptied : (s t : MethodSlots) (key : MethodKey) (k : ℕ) → KeepsMethods s → get same_key s.places key ≡ Some k
    → t.slots.items ≡ slice_set s.slots.items k None → ((q : MethodKey) → get same_key t.places q ≡ cond (same_key key q) None (get same_key s.places q)) → t.count + 1 ≡ s.count → KeepsMethods t
keeps-emptied s t key k keeps at slots places count = record {
  listed = λ j x there. listed j x (eqb_tells k j) (subst (λ (os : List (Option MethodDraft)). slice_get os j ≡ Some (Some x)) slots there);
  found = λ q j e. found q j (same_key_tells key q) (sym (places q) ∙ e);
  counted = omega (arith, count, keeps.counted, length-emptied s.slots.items k its.0 its.1, ap (λ (os : List (Option MethodDraft)). length (those_there os)) slots);
}
  where
    its : (m : MethodDraft) × (slice_get s.slots.items k ≡ Some (Some m)) × (key_of m ≡ key)
    its = keeps.found key k at

    emptied : slice_get (slice_set s.slots.items k None) k ≡ Some None
    emptied = get-set_same s.slots.items k None (slice_get_within s.slots.items k (Some its.0) its.1)

    listed : (j : ℕ) (x : MethodDraft) → ((nat_eq k j ≡ true) × (k ≡ j)) ⊎ ((nat_eq k j ≡ false) × (k ≢ j)) → slice_get (slice_set s.slots.items k None) j ≡ Some (Some x) → get same_key t.places (key_of x) ≡ Some j
    listed j x (inl e) there = absurd (empty_slot x (sym emptied ∙ ap (slice_get (slice_set s.slots.items k None)) e.1 ∙ there))
    listed j x (inr e) there = places (key_of x) ∙ by (same_key_tells key (key_of x)) (keeps.listed j x (sym (get-set_other s.slots.items k j None e.1) ∙ there))
      where
        by : ((same_key key (key_of x) ≡ true) × (key ≡ key_of x)) ⊎ ((same_key key (key_of x) ≡ false) × (key ≢ key_of x)) → get same_key s.places (key_of x) ≡ Some j
            → cond (same_key key (key_of x)) None (get same_key s.places (key_of x)) ≡ Some j
        by (inl same) old = absurd (e.1 (one_place k j (sym at ∙ ap (get same_key s.places) same.1 ∙ old)))
        by (inr differ) old = ap (λ (b : Bool). cond b None (get same_key s.places (key_of x))) differ.0 ∙ old

    found : (q : MethodKey) (j : ℕ) → ((same_key key q ≡ true) × (key ≡ q)) ⊎ ((same_key key q ≡ false) × (key ≢ q)) → cond (same_key key q) None (get same_key s.places q) ≡ Some j
        → (x : MethodDraft) × (slice_get t.slots.items j ≡ Some (Some x)) × (key_of x ≡ q)
    found q j (inl same) e = absurd (no_place j (sym (ap (λ (b : Bool). cond b None (get same_key s.places q)) same.0) ∙ e))
    found q j (inr differ) e = by (keeps.found q j (sym (ap (λ (b : Bool). cond b None (get same_key s.places q)) differ.0) ∙ e)) (eqb_tells k j)
      where
        by : (x : MethodDraft) × (slice_get s.slots.items j ≡ Some (Some x)) × (key_of x ≡ q) → ((nat_eq k j ≡ true) × (k ≡ j)) ⊎ ((nat_eq k j ≡ false) × (k ≢ j))
            → (x : MethodDraft) × (slice_get t.slots.items j ≡ Some (Some x)) × (key_of x ≡ q)
        by f (inl i) =
            let one : its.0 ≡ f.0 = one_slot its.0 f.0 (sym its.1 ∙ ap (slice_get s.slots.items) i.1 ∙ f.1) in
            absurd (differ.1 (sym its.2 ∙ ap key_of one ∙ f.2))
        by f (inr i) = (f.0, ap (λ (os : List (Option MethodDraft)). slice_get os j) slots ∙ get-set_other s.slots.items k j None i.1 ∙ f.1, f.2)

-- one more slot, whose key was not listed
pub keeps-last : (s t : MethodSlots) (key : MethodKey) (new : MethodDraft) → KeepsMethods s → get same_key s.places key ≡ None → key_of new ≡ key
    → t.slots.items ≡ s.slots.items ++ Some new ∷ [] → ((q : MethodKey) → get same_key t.places q ≡ cond (same_key key q) (Some (length s.slots.items)) (get same_key s.places q)) → t.count ≡ s.count + 1 → KeepsMethods t
keeps-last s t key new keeps absent its slots places count = record {
  listed = λ j x there. listed j x (slice_get-end s.slots.items (Some new) (Some x) j (subst (λ (os : List (Option MethodDraft)). slice_get os j ≡ Some (Some x)) slots there));
  found = λ q j e. found q j (same_key_tells key q) (sym (places q) ∙ e);
  counted = omega (arith, count, keeps.counted, ap length (ap those_there slots ∙ there-last s.slots.items new), length-end (those_there s.slots.items) new);
}
  where
    listed : (j : ℕ) (x : MethodDraft) → (slice_get s.slots.items j ≡ Some (Some x)) ⊎ ((j ≡ length s.slots.items) × (Some new ≡ Some x)) → get same_key t.places (key_of x) ≡ Some j
    listed j x (inl there) = places (key_of x) ∙ by (same_key_tells key (key_of x)) (keeps.listed j x there)
      where
        by : ((same_key key (key_of x) ≡ true) × (key ≡ key_of x)) ⊎ ((same_key key (key_of x) ≡ false) × (key ≢ key_of x)) → get same_key s.places (key_of x) ≡ Some j
            → cond (same_key key (key_of x)) (Some (length s.slots.items)) (get same_key s.places (key_of x)) ≡ Some j
        by (inl same) old = absurd (no_place j (sym absent ∙ ap (get same_key s.places) same.1 ∙ old))
        by (inr differ) old = ap (λ (b : Bool). cond b (Some (length s.slots.items)) (get same_key s.places (key_of x))) differ.0 ∙ old
    listed j x (inr last) = places (key_of x) ∙ by (same_key_tells key (key_of x))
      where
        its_own : key ≡ key_of x
        its_own = sym its ∙ ap key_of (one_method new x last.1)

        by : ((same_key key (key_of x) ≡ true) × (key ≡ key_of x)) ⊎ ((same_key key (key_of x) ≡ false) × (key ≢ key_of x)) → cond (same_key key (key_of x)) (Some (length s.slots.items)) (get same_key s.places (key_of x)) ≡ Some j
        by (inl same) = ap (λ (b : Bool). cond b (Some (length s.slots.items)) (get same_key s.places (key_of x))) same.0 ∙ ap (λ (n : ℕ). Some n) (sym last.0)
        by (inr differ) = absurd (differ.1 its_own)

    found : (q : MethodKey) (j : ℕ) → ((same_key key q ≡ true) × (key ≡ q)) ⊎ ((same_key key q ≡ false) × (key ≢ q)) → cond (same_key key q) (Some (length s.slots.items)) (get same_key s.places q) ≡ Some j
        → (x : MethodDraft) × (slice_get t.slots.items j ≡ Some (Some x)) × (key_of x ≡ q)
    found q j (inl same) e =
        let place : length s.slots.items ≡ j = one_place (length s.slots.items) j (sym (ap (λ (b : Bool). cond b (Some (length s.slots.items)) (get same_key s.places q)) same.0) ∙ e) in
        (new, ap (λ (os : List (Option MethodDraft)). slice_get os j) slots ∙ sym (ap (slice_get (s.slots.items ++ Some new ∷ [])) place) ∙ last_slot s.slots.items (Some new), its ∙ same.1)
    found q j (inr differ) e =
        let f = keeps.found q j (sym (ap (λ (b : Bool). cond b (Some (length s.slots.items)) (get same_key s.places q)) differ.0) ∙ e) in
        (f.0, ap (λ (os : List (Option MethodDraft)). slice_get os j) slots ∙ slice_get-front s.slots.items (Some new ∷ []) j (Some f.0) f.1, f.2)
