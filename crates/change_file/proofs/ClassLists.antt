-- The classes of the user in an image, slot by slot.
use Rattle.std.proofs.Common.{◌≡◌, ℕ, zero, suc, ◌+◌, ◌<◌, ◌≤◌, Bool, true, false, cond, not, List, [], ◌∷◌, ◌++◌, length, map, filter, drop, get_or, Option, None, Some, slice_get, refl, sym, ap, subst, ◌∙◌, arith, append-nil}
use Rattle.std.specs.Prelude.{◌||◌, if◌then◌else◌, is_some, find}
use Rattle.std.specs.Borrow.{Bor}
use Rattle.std.specs.List.{cons_option}
use Rattle.rb_base.specs.Names.{text_eq, name_at, interned}
use Rattle.image_model.specs.Image.{ClassOf, map_class}
use Rattle.image_model.specs.ImageNames.{ClassNames}
use Rattle.class_table.specs.declared.record.ClassRec.{ClassRec}
use Rattle.class_table.specs.Slots.{Slots}
use Rattle.class_table.specs.View.{live, live_at, class_of}
use Rattle.class_table.specs.Valid.{IsLive, IsOrderly}
use Rattle.class_table.proofs.Live.{live-fact, IsLive-first, IsLive-rest}
use Rattle.file_model.specs.Filing.{Text}
use Rattle.file_model.specs.Hierarchy.{has_class}
use Rattle.image_file.specs.Writable.{IsWritableClass, text_class}
use Rattle.change_file.specs.Partners.{is_listed}
use Rattle.change_file.specs.Shown.{class_texts, AreWritable}
use Rattle.change_file.proofs.KeyWalks.{drop_item, drop_end, moved, interned_listed}

-- an item of an order is live
pub IsLive-at : (order : List ℕ) (i k : ℕ) → slice_get order i ≡ Some k → IsLive order k
IsLive-at [] i k e = absurd (cc)
IsLive-at (j ∷ js) zero k e = let same : j ≡ k = cc in subst (λ (n : ℕ). IsLive (j ∷ js) n) same (IsLive-first j js)
IsLive-at (j ∷ js) (suc i) k e = IsLive-rest k j js (IsLive-at js i k e)

-- the item at a place
pub item_at : {X : Type 0} (xs : List X) (i : ℕ) (x : X) → i < length xs → x ≡ get_or xs i x → slice_get xs i ≡ Some x
item_at [] i x l e = absurd (omega arith)
item_at (y ∷ ys) zero x l e = ap Some (sym e)
item_at (y ∷ ys) (suc i) x l e = item_at ys i x (omega arith) e

-- what a live slot holds is there
pub live_at-live : {X : Type 0} (xs : List X) (order : List ℕ) (k : ℕ) → IsLive order k → live_at xs order k ≡ slice_get xs k
live_at-live xs order k l = ap (λ (b : Bool). if b then slice_get xs k else None) l

-- a class in a live slot can be written
pub writable_class : (s : Slots) (k : ℕ) (c : ClassRec) → IsOrderly s → IsLive s.class_order k → slice_get s.classes k ≡ Some c → IsWritableClass s c
writable_class s k c o l e = record {
  names = live-fact (ClassNames (λ n. n < length s.names)) (class_of s.classes) s.classes s.class_order k c o.names_known.classes l e;
  above = λ j h. o.superclasses_live j k c l e h;
}

-- all classes in the slots of an order, and those of the user
abbrev pub all_texts : Slots → List ℕ → List (ClassOf Text)
all_texts s order = map (map_class (name_at s.names)) (map (class_of s.classes) (live s.classes order))

abbrev pub user_texts : Slots → List ℕ → List (ClassOf Text)
user_texts s order = filter (λ (c : ClassOf Text). not c.kernel) (all_texts s order)

module _ (s : Slots) (k : ℕ) (ks : List ℕ) where
  user_first : (c : ClassRec) (b : Bool) → slice_get s.classes k ≡ Some c → c.kernel ≡ b → user_texts s (k ∷ ks) ≡ (if b then user_texts s ks else text_class s c ∷ user_texts s ks)
  user_first c true e kernel =
      ap (λ (o : Option ClassRec). filter (λ (c : ClassOf Text). not c.kernel) (map (map_class (name_at s.names)) (map (class_of s.classes) (cons_option o (live s.classes ks))))) e
      ∙ ap (λ (b : Bool). cond (not b) (text_class s c ∷ user_texts s ks) (user_texts s ks)) kernel
  user_first c false e kernel =
      ap (λ (o : Option ClassRec). filter (λ (c : ClassOf Text). not c.kernel) (map (map_class (name_at s.names)) (map (class_of s.classes) (cons_option o (live s.classes ks))))) e
      ∙ ap (λ (b : Bool). cond (not b) (text_class s c ∷ user_texts s ks) (user_texts s ks)) kernel

  none_first : slice_get s.classes k ≡ None → all_texts s (k ∷ ks) ≡ all_texts s ks
  none_first e = ap (λ (o : Option ClassRec). map (map_class (name_at s.names)) (map (class_of s.classes) (cons_option o (live s.classes ks)))) e

  some_first : (c : ClassRec) → slice_get s.classes k ≡ Some c → all_texts s (k ∷ ks) ≡ text_class s c ∷ all_texts s ks
  some_first c e = ap (λ (o : Option ClassRec). map (map_class (name_at s.names)) (map (class_of s.classes) (cons_option o (live s.classes ks)))) e

-- classes that are pointed to, one more at the end
pub texts_push : (s : Slots) (recs : List (Bor ClassRec)) (r : Bor ClassRec) → class_texts s (recs ++ r ∷ []) ≡ class_texts s recs ++ text_class s r.now ∷ []
texts_push s [] r = refl
texts_push s (q ∷ qs) r = ap (λ (cs : List (ClassOf Text)). text_class s q.now ∷ cs) (texts_push s qs r)

pub writable_push : (s : Slots) (recs : List (Bor ClassRec)) (r : Bor ClassRec) → AreWritable s recs → IsWritableClass s r.now → AreWritable s (recs ++ r ∷ [])
writable_push s [] r all w = (w, tt)
writable_push s (q ∷ qs) r all w = (all.0, writable_push s qs r all.1 w)

-- one of them
pub writable_at : (s : Slots) (recs : List (Bor ClassRec)) (i : ℕ) (r : Bor ClassRec) → AreWritable s recs → slice_get recs i ≡ Some r → IsWritableClass s r.now
writable_at s [] i r all e = absurd (cc)
writable_at s (q ∷ qs) zero r all e = let same : q ≡ r = cc in subst (λ (p : Bor ClassRec). IsWritableClass s p.now) same all.0
writable_at s (q ∷ qs) (suc i) r all e = writable_at s qs i r all.1 e

module _ (s : Slots) (order : List ℕ) (i k : ℕ) (at : slice_get order i ≡ Some k) where
  front : drop i order ≡ k ∷ drop (i + 1) order
  front = drop_item order i k at

  -- a class of the user is put in
  pub user_taken : (recs : List (Bor ClassRec)) (r : Bor ClassRec) (whole : List (ClassOf Text)) → slice_get s.classes k ≡ Some r.now → (r.now).kernel ≡ false
      → class_texts s recs ++ user_texts s (drop i order) ≡ whole → class_texts s (recs ++ r ∷ []) ++ user_texts s (drop (i + 1) order) ≡ whole
  user_taken recs r whole e kernel h =
      ap (λ (cs : List (ClassOf Text)). cs ++ user_texts s (drop (i + 1) order)) (texts_push s recs r)
      ∙ moved (class_texts s recs) (user_texts s (drop (i + 1) order)) whole (text_class s r.now)
      (ap (λ (cs : List (ClassOf Text)). class_texts s recs ++ cs) (sym (ap (user_texts s) front ∙ user_first s k (drop (i + 1) order) r.now false e kernel)) ∙ h)

  -- one of the kernel is not, and nothing is where no class is
  pub kernel_left : (recs : List (Bor ClassRec)) (c : ClassRec) (whole : List (ClassOf Text)) → slice_get s.classes k ≡ Some c → c.kernel ≡ true
      → class_texts s recs ++ user_texts s (drop i order) ≡ whole → class_texts s recs ++ user_texts s (drop (i + 1) order) ≡ whole
  kernel_left recs c whole e kernel h =
      ap (λ (cs : List (ClassOf Text)). class_texts s recs ++ cs) (sym (ap (user_texts s) front ∙ user_first s k (drop (i + 1) order) c true e kernel)) ∙ h

  pub none_left : (recs : List (Bor ClassRec)) (whole : List (ClassOf Text)) → slice_get s.classes k ≡ None
      → class_texts s recs ++ user_texts s (drop i order) ≡ whole → class_texts s recs ++ user_texts s (drop (i + 1) order) ≡ whole
  none_left recs whole e h =
      ap (λ (cs : List (ClassOf Text)). class_texts s recs ++ cs) (sym (ap (user_texts s) front ∙ ap (filter (λ (c : ClassOf Text). not c.kernel)) (none_first s k (drop (i + 1) order) e))) ∙ h

  -- the names so far, and the classes that are left
  has_first : (c : ClassRec) (name : Text) → slice_get s.classes k ≡ Some c → has_class text_eq (all_texts s (drop i order)) name ≡ (text_eq name (name_at s.names c.name) || has_class text_eq (all_texts s (drop (i + 1) order)) name)
  has_first c name e =
      ap (λ (cs : List (ClassOf Text)). has_class text_eq cs name) (ap (all_texts s) front ∙ some_first s k (drop (i + 1) order) c e)
      ∙ by (text_eq name (name_at s.names c.name)) (find (λ (d : ClassOf Text). text_eq name d.name) (all_texts s (drop (i + 1) order)))
    where
      by : (b : Bool) (o : Option (ClassOf Text)) → is_some (cond b (Some (text_class s c)) o) ≡ (b || is_some o)
      by true o = refl
      by false o = refl

  pub name_taken : (names : List Text) (c : ClassRec) (whole : Bool) (name : Text) → slice_get s.classes k ≡ Some c → (is_listed names name || has_class text_eq (all_texts s (drop i order)) name) ≡ whole
      → (is_listed (interned names (name_at s.names c.name)) name || has_class text_eq (all_texts s (drop (i + 1) order)) name) ≡ whole
  name_taken names c whole name e h =
      ap (λ (b : Bool). b || has_class text_eq (all_texts s (drop (i + 1) order)) name) (interned_listed names (name_at s.names c.name) name)
      ∙ grouped (is_listed names name) (text_eq name (name_at s.names c.name)) (has_class text_eq (all_texts s (drop (i + 1) order)) name)
      ∙ ap (λ (b : Bool). is_listed names name || b) (sym (has_first c name e)) ∙ h
    where
      grouped : (a b d : Bool) → (a || b || d) ≡ (a || (b || d))
      grouped true b d = refl
      grouped false b d = refl

  pub no_name : (names : List Text) (whole : Bool) (name : Text) → slice_get s.classes k ≡ None → (is_listed names name || has_class text_eq (all_texts s (drop i order)) name) ≡ whole
      → (is_listed names name || has_class text_eq (all_texts s (drop (i + 1) order)) name) ≡ whole
  no_name names whole name e h =
      ap (λ (cs : List (ClassOf Text)). is_listed names name || has_class text_eq cs name) (sym (ap (all_texts s) front ∙ none_first s k (drop (i + 1) order) e)) ∙ h

-- no slot is left
pub users_end : (s : Slots) (order : List ℕ) (i : ℕ) (recs : List (Bor ClassRec)) (whole : List (ClassOf Text)) → length order ≤ i → class_texts s recs ++ user_texts s (drop i order) ≡ whole → class_texts s recs ≡ whole
users_end s order i recs whole l h = sym (append-nil (class_texts s recs)) ∙ ap (λ (ks : List ℕ). class_texts s recs ++ user_texts s ks) (sym (drop_end order i l)) ∙ h

pub names_end : (s : Slots) (order : List ℕ) (i : ℕ) (names : List Text) (whole : Bool) (name : Text) → length order ≤ i → (is_listed names name || has_class text_eq (all_texts s (drop i order)) name) ≡ whole → is_listed names name ≡ whole
names_end s order i names whole name l h = none (is_listed names name) ∙ ap (λ (ks : List ℕ). is_listed names name || has_class text_eq (all_texts s ks) name) (sym (drop_end order i l)) ∙ h
  where
    none : (b : Bool) → b ≡ (b || false)
    none true = refl
    none false = refl
