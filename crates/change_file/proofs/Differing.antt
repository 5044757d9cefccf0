-- Members that differ, one after the other.
use Rattle.std.proofs.Common.{◌≡◌, ℕ, suc, ◌+◌, ◌≤◌, Bool, true, false, not, List, [], ◌∷◌, ◌++◌, length, map, drop, Option, None, Some, option_map, slice_get, refl, sym, ap, ◌∙◌, arith, append-nil, true≢false}
use Rattle.std.specs.Prelude.{if◌then◌else◌}
use Rattle.std.specs.Borrow.{Bor}
use Rattle.std.specs.List.{AllByRecursion}
use Rattle.std.specs.Option.{option_map_or}
use Rattle.std.proofs.lemmas.Option.{slice_get-map}
use Rattle.image_model.specs.Image.{ClassOf, EntryOf, ImageOf}
use Rattle.class_table.specs.declared.record.ClassRec.{ClassRec}
use Rattle.class_table.specs.Slots.{Slots}
use Rattle.class_table.specs.View.{image_of}
use Rattle.file_model.specs.Filing.{Text}
use Rattle.file_model.specs.Places.{PlacedOf}
use Rattle.file_model.specs.Written.{user_classes, user_methods}
use Rattle.image_file.specs.Writable.{IsWritableClass, text_class}
use Rattle.change_model.specs.Differs.{differing_from, class_stays, method_stays}
use Rattle.change_model.specs.Equal.{is_namesake, is_equal_class, is_counterpart, is_equal_method}
use Rattle.change_laws.specs.Merged.{Has, AreApart}
use Rattle.change_laws.proofs.Orders.{apart_filter, filter_has, at_has}
use Rattle.change_laws.proofs.Tests.{namesake_same, namesake_back, class_alike, method_alike}
use Rattle.change_file.specs.declared.classes.Classes.{Classes}
use Rattle.change_file.specs.declared.classes.PlacedClass.{PlacedClass}
use Rattle.change_file.specs.declared.methods.SignedMethod.{SignedMethod}
use Rattle.change_file.specs.declared.methods.Methods.{Methods}
use Rattle.change_file.specs.declared.methods.PlacedMethod.{PlacedMethod}
use Rattle.change_file.specs.Partners.{partners, partner_at, is_partner_equal}
use Rattle.change_file.specs.Shown.{IsToldApart, class_texts, AreClasses, placed_class, Shown, shown, shown_method, key_shown, is_equal_shown, AreMethods, placed_method, placed_shown}
use Rattle.change_file.proofs.KeyWalks.{drop_item, drop_end, moved}
use Rattle.change_file.proofs.MethodLists.{entry_tells, equal_users}
use Rattle.change_file.proofs.Pairs.{partner_stays}

-- the members from a place on that differ
differing_first : {X : Type 0} (stay : X → Bool) (xs : List X) (n : ℕ) (x : X) (b : Bool) → slice_get xs n ≡ Some x → stay x ≡ b
    → differing_from (n + 1) stay (drop n xs) ≡ (if b then differing_from (n + 1 + 1) stay (drop (n + 1) xs) else record { place = n + 1; item = x } ∷ differing_from (n + 1 + 1) stay (drop (n + 1) xs))
differing_first {X} stay xs n x b e f =
    let next : suc (n + 1) ≡ n + 1 + 1 = omega arith in
    ap (differing_from (n + 1) stay) (drop_item xs n x e)
    ∙ ap (λ (k : ℕ). if stay x then differing_from k stay (drop (n + 1) xs) else record { place = n + 1; item = x } ∷ differing_from k stay (drop (n + 1) xs)) next
    ∙ ap (λ (a : Bool). if a then differing_from (n + 1 + 1) stay (drop (n + 1) xs) else record { place = n + 1; item = x } ∷ differing_from (n + 1 + 1) stay (drop (n + 1) xs)) f

-- classes with places, one more at the end
placed_push : (s : Slots) (ps : List PlacedClass) (p : PlacedClass) → map (placed_class s) (ps ++ p ∷ []) ≡ map (placed_class s) ps ++ placed_class s p ∷ []
placed_push s [] p = refl
placed_push s (q ∷ qs) p = ap (λ (xs : List (PlacedOf (ClassOf Text))). placed_class s q ∷ xs) (placed_push s qs p)

pub placed_writable : (s : Slots) (ps : List PlacedClass) (p : PlacedClass) → AllByRecursion (λ (p : PlacedClass). IsWritableClass s p.rec.now) ps → IsWritableClass s p.rec.now
    → AllByRecursion (λ (p : PlacedClass). IsWritableClass s p.rec.now) (ps ++ p ∷ [])
placed_writable s [] p all w = (w, tt)
placed_writable s (q ∷ qs) p all w = (all.0, placed_writable s qs p all.1 w)

-- the class in a place of a list of classes
pub text_at : (s : Slots) (recs : List (Bor ClassRec)) (ys : List (ClassOf Text)) (n : ℕ) (r : Bor ClassRec) → class_texts s recs ≡ ys → slice_get recs n ≡ Some r → slice_get ys n ≡ Some (text_class s r.now)
text_at s recs ys n r same e =
    ap (λ (zs : List (ClassOf Text)). slice_get zs n) (sym same) ∙ slice_get-map (λ (q : Bor ClassRec). text_class s q.now) recs n ∙ ap (option_map (λ (q : Bor ClassRec). text_class s q.now)) e

-- no two classes of the user have one name
pub users_apart : (i : ImageOf Text) → IsToldApart i → AreApart is_namesake (user_classes i)
users_apart i apart = apart_filter is_namesake namesake_same namesake_back (λ (c : ClassOf Text). not c.kernel) i.classes apart.classes

-- a class stays exactly where it is equal to its partner
pub class_partner : (mine theirs : Classes) (n : ℕ) (r : Bor ClassRec) → AreClasses mine → AreClasses theirs → IsToldApart (image_of mine.image.now) → IsToldApart (image_of theirs.image.now) → slice_get mine.recs.items n ≡ Some r
    → is_partner_equal is_equal_class (class_texts theirs.image.now theirs.recs.items) (text_class mine.image.now r.now) (partner_at (partners mine.names theirs.names) n)
    ≡ class_stays (image_of mine.image.now) (image_of theirs.image.now) (text_class mine.image.now r.now)
class_partner mine theirs n r a b apart apart' e =
    let s = mine.image.now in
    let xs = user_classes (image_of s) in
    let ys = user_classes (image_of theirs.image.now) in
    (λ j. is_partner_equal is_equal_class (b.classes j) (text_class s r.now) (partner_at (partners (a.names j) (b.names j)) n))
    ∙ partner_stays (λ (c : ClassOf Text). c.name) is_namesake (λ c d. refl) is_equal_class class_alike xs ys n (text_class s r.now)
    (users_apart (image_of s) apart) (users_apart (image_of theirs.image.now) apart') (text_at s mine.recs.items xs n r a.classes e)

module _ (s : Slots) (stay : ClassOf Text → Bool) (xs : List (ClassOf Text)) (n : ℕ) (x : ClassOf Text) (at : slice_get xs n ≡ Some x) (found : List PlacedClass) (whole : List (PlacedOf (ClassOf Text)))
    (so_far : map (placed_class s) found ++ differing_from (n + 1) stay (drop n xs) ≡ whole) where
  -- one that stays is left out
  pub class_left : stay x ≡ true → map (placed_class s) found ++ differing_from (n + 1 + 1) stay (drop (n + 1) xs) ≡ whole
  class_left e = ap (λ (ps : List (PlacedOf (ClassOf Text))). map (placed_class s) found ++ ps) (sym (differing_first stay xs n x true at e)) ∙ so_far

  -- one that does not is put in
  pub class_taken : (p : PlacedClass) → p.place ≡ n + 1 → text_class s p.rec.now ≡ x → stay x ≡ false → map (placed_class s) (found ++ p ∷ []) ++ differing_from (n + 1 + 1) stay (drop (n + 1) xs) ≡ whole
  class_taken p place item e =
      let rest = differing_from (n + 1 + 1) stay (drop (n + 1) xs) in
      ap (λ (ps : List (PlacedOf (ClassOf Text))). ps ++ rest) (placed_push s found p)
      ∙ moved (map (placed_class s) found) rest whole (placed_class s p)
      ((λ j. map (placed_class s) found ++ record { place = place j; item = item j } ∷ rest)
      ∙ ap (λ (ps : List (PlacedOf (ClassOf Text))). map (placed_class s) found ++ ps) (sym (differing_first stay xs n x false at e)) ∙ so_far)

-- no class is left
pub classes_end : (s : Slots) (stay : ClassOf Text → Bool) (xs : List (ClassOf Text)) (n : ℕ) (found : List PlacedClass) (whole : List (PlacedOf (ClassOf Text))) → length xs ≤ n
    → map (placed_class s) found ++ differing_from (n + 1) stay (drop n xs) ≡ whole → map (placed_class s) found ≡ whole
classes_end s stay xs n found whole l h =
    sym (append-nil (map (placed_class s) found)) ∙ ap (λ (ys : List (ClassOf Text)). map (placed_class s) found ++ differing_from (n + 1) stay ys) (sym (drop_end xs n l)) ∙ h

-- the entry that a method shows
pub record IsEntryAt (xs : List (EntryOf Text)) (n : ℕ) (m : Shown) : Type 0 where
  pub entry : EntryOf Text
  pub at : slice_get xs n ≡ Some entry
  pub shows : shown entry ≡ m

entry_at : (items : List SignedMethod) (xs : List (EntryOf Text)) (n : ℕ) (m : SignedMethod) → map shown_method items ≡ map shown xs → slice_get items n ≡ Some m → IsEntryAt xs n (shown_method m)
entry_at items xs n m same e = by (slice_get xs n) refl (sym (ap (option_map shown_method) e) ∙ sym (slice_get-map shown_method items n) ∙ ap (λ (ms : List Shown). slice_get ms n) same ∙ slice_get-map shown xs n)
  where
    by : (o : Option (EntryOf Text)) → slice_get xs n ≡ o → Some (shown_method m) ≡ option_map shown o → IsEntryAt xs n (shown_method m)
    by None f g = absurd (cc)
    by (Some x) f g = let one : shown x ≡ shown_method m = cc in record { entry = x; at = f; shows = one }

-- a partner is equal where what is shown of it is
equal_partner : (zs : List (EntryOf Text)) (x : EntryOf Text) (o : Option ℕ) → ((z : EntryOf Text) → Has z zs → z.kernel ≡ false) → x.kernel ≡ false
    → is_partner_equal is_equal_shown (map shown zs) (shown x) o ≡ is_partner_equal is_equal_method zs x o
equal_partner zs x None users user = refl
equal_partner zs x (Some m) users user = ap (λ (p : Option Shown). option_map_or (is_equal_shown (shown x)) p false) (slice_get-map shown zs m) ∙ by (slice_get zs m) refl
  where
    by : (p : Option (EntryOf Text)) → slice_get zs m ≡ p → option_map_or (is_equal_shown (shown x)) (option_map shown p) false ≡ option_map_or (is_equal_method x) p false
    by None e = refl
    by (Some z) e = equal_users x z user (users z (at_has zs m z e))

not_kernel : (b : Bool) → not b ≡ true → b ≡ false
not_kernel true h = absurd (true≢false (sym h))
not_kernel false h = refl

users_of : (i : ImageOf Text) (m : EntryOf Text) → Has m (user_methods i) → m.kernel ≡ false
users_of i m h = not_kernel m.kernel (filter_has (λ (e : EntryOf Text). not e.kernel) i.methods m h).passes

-- a method stays exactly where it is equal to its partner
pub record StaysAs (i j : ImageOf Text) (n : ℕ) (m : Shown) (same : Bool) : Type 0 where
  pub entry : EntryOf Text
  pub at : slice_get (user_methods i) n ≡ Some entry
  pub shows : shown entry ≡ m
  pub stays : same ≡ method_stays i j entry

pub method_partner : (mine theirs : Methods) (n : ℕ) (m : SignedMethod) → AreMethods mine → AreMethods theirs → IsToldApart (image_of mine.image.now) → IsToldApart (image_of theirs.image.now) → slice_get mine.items.items n ≡ Some m
    → StaysAs (image_of mine.image.now) (image_of theirs.image.now) n (shown_method m)
    (is_partner_equal is_equal_shown (map shown_method theirs.items.items) (shown_method m) (partner_at (partners mine.keys theirs.keys) n))
method_partner mine theirs n m a b apart apart' e =
    let i = image_of mine.image.now in
    let k = image_of theirs.image.now in
    let xs = user_methods i in
    let ys = user_methods k in
    let key = λ (x : EntryOf Text). key_shown (shown x) in
    let f = entry_at mine.items.items xs n m a.items e in
    record {
      entry = f.entry;
      at = f.at;
      shows = f.shows;
      stays =
          (λ j. is_partner_equal is_equal_shown (b.items j) (sym f.shows j) (partner_at (partners (a.keys j) (b.keys j)) n))
          ∙ equal_partner ys f.entry (partner_at (partners (map key xs) (map key ys)) n) (users_of k) (users_of i f.entry (at_has xs n f.entry f.at))
          ∙ partner_stays key is_counterpart entry_tells is_equal_method method_alike xs ys n f.entry apart.methods apart'.methods f.at;
    }

method_push : (ps : List PlacedMethod) (p : PlacedMethod) → map placed_method (ps ++ p ∷ []) ≡ map placed_method ps ++ placed_method p ∷ []
method_push [] p = refl
method_push (q ∷ qs) p = ap (λ (xs : List (PlacedOf Shown)). placed_method q ∷ xs) (method_push qs p)

module _ (stay : EntryOf Text → Bool) (xs : List (EntryOf Text)) (n : ℕ) (x : EntryOf Text) (at : slice_get xs n ≡ Some x) (found : List PlacedMethod) (whole : List (PlacedOf Shown))
    (so_far : map placed_method found ++ map placed_shown (differing_from (n + 1) stay (drop n xs)) ≡ whole) where
  pub method_left : stay x ≡ true → map placed_method found ++ map placed_shown (differing_from (n + 1 + 1) stay (drop (n + 1) xs)) ≡ whole
  method_left e = ap (λ (ps : List (PlacedOf (EntryOf Text))). map placed_method found ++ map placed_shown ps) (sym (differing_first stay xs n x true at e)) ∙ so_far

  pub method_taken : (p : PlacedMethod) → p.place ≡ n + 1 → shown_method p.item ≡ shown x → stay x ≡ false
      → map placed_method (found ++ p ∷ []) ++ map placed_shown (differing_from (n + 1 + 1) stay (drop (n + 1) xs)) ≡ whole
  method_taken p place item e =
      let rest = map placed_shown (differing_from (n + 1 + 1) stay (drop (n + 1) xs)) in
      ap (λ (ps : List (PlacedOf Shown)). ps ++ rest) (method_push found p)
      ∙ moved (map placed_method found) rest whole (placed_method p)
      ((λ j. map placed_method found ++ record { place = place j; item = item j } ∷ rest)
      ∙ ap (λ (ps : List (PlacedOf (EntryOf Text))). map placed_method found ++ map placed_shown ps) (sym (differing_first stay xs n x false at e)) ∙ so_far)

pub placed_end : (stay : EntryOf Text → Bool) (xs : List (EntryOf Text)) (n : ℕ) (found : List PlacedMethod) (whole : List (PlacedOf Shown)) → length xs ≤ n
    → map placed_method found ++ map placed_shown (differing_from (n + 1) stay (drop n xs)) ≡ whole → map placed_method found ≡ whole
placed_end stay xs n found whole l h =
    sym (append-nil (map placed_method found)) ∙ ap (λ (ys : List (EntryOf Text)). map placed_method found ++ map placed_shown (differing_from (n + 1) stay ys)) (sym (drop_end xs n l)) ∙ h
