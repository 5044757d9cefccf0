-- What live slots are written as.
use Rattle.std.proofs.Common.{◌≡◌, ℕ, ◌<◌, ◌≤◌, ◌+◌, ◌-◌, zero, suc, Bool, true, false, cond, not, List, [], ◌∷◌, ◌++◌, length, map, filter, take, drop, get_or, Option, None, Some, option_map, slice_get, refl, sym, ap, subst, ◌∙◌, arith, append_assoc, append-nil, take_all, length-drop, true≢false}
use Rattle.std.specs.Prelude.{flat_map, if◌then◌else◌, is_some, MatchOption}
use Rattle.std.proofs.Math.Seq.{take-nil}
use Rattle.std.specs.List.{cons_option, list_any}
use Rattle.std.specs.Option.{option_map_or}
use Rattle.std.proofs.Math.Dec.{eqb}
use Rattle.rb_base.specs.Names.{name_at}
use Rattle.image_model.specs.Image.{ClassOf, EntryOf, DoItOf, map_class, map_entry, map_doit}
use Rattle.image_model.specs.ImageNames.{ClassNames}
use Rattle.class_table.specs.declared.record.ClassRec.{ClassRec}
use Rattle.class_table.specs.declared.record.MethodRec.{MethodRec}
use Rattle.class_table.specs.declared.record.MethodInfo.{MethodInfo}
use Rattle.class_table.specs.Slots.{Slots}
use Rattle.class_table.specs.Info.{TellsOf, IsInfoOf}
use Rattle.class_table.specs.declared.record.DoIt.{DoIt}
use Rattle.class_table.specs.View.{live, live_at, class_name, class_of, entry_of, doit_of}
use Rattle.class_table.specs.Valid.{IsLive}
use Rattle.class_table.proofs.Live.{live-fact, IsLive-first, IsLive-rest}
use Rattle.file_model.specs.Written.{paragraph, class_text, doit_text, chunk_text, run_of, run_end, method_opening, last_run_end, methods_text}
use Rattle.image_file.proofs.Joined.{left2}
use Rattle.image_file.specs.declared.method_texts.UserMethod.{UserMethod}
use Rattle.image_file.specs.Writable.{IsWritable, IsWritableClass, text_class, text_entry, class_text_at, doit_text_of}
use Rattle.image_file.specs.Runs.{run_text, user_entries, IsWrittenAs, IsAnswerFor, IsUserMethodAt}

-- what a live slot holds is there
pub live_at-live : {X : Type 0} (xs : List X) (order : List ℕ) (k : ℕ) → IsLive order k → live_at xs order k ≡ slice_get xs k
live_at-live xs order k l = ap (λ (b : Bool). if b then slice_get xs k else None) l

-- a class in a live slot can be written
pub writable_class : (s : Slots) (k : ℕ) (c : ClassRec) → IsWritable s → IsLive s.class_order k → slice_get s.classes k ≡ Some c → IsWritableClass s c
writable_class s k c w l e = record {
  names = live-fact (ClassNames (λ n. n < length s.names)) (class_of s.classes) s.classes s.class_order k c w.names l e;
  above = λ j h. w.superclasses j k c l e h;
}

-- an item of an order is live
pub IsLive-at : (order : List ℕ) (i k : ℕ) → slice_get order i ≡ Some k → IsLive order k
IsLive-at [] i k e = absurd (cc)
IsLive-at (j ∷ js) zero k e = let same : j ≡ k = cc in subst (λ (n : ℕ). IsLive (j ∷ js) n) same (IsLive-first j js)
IsLive-at (j ∷ js) (suc i) k e = IsLive-rest k j js (IsLive-at js i k e)

-- the texts of live classes, slot by slot, are those of the classes of the user
pub classes_written : (s : Slots) (order : List ℕ) → flat_map (class_text_at s) order ≡ flat_map class_text (filter (λ (c : ClassOf (List ℕ)). not c.kernel) (map (map_class (name_at s.names)) (map (class_of s.classes) (live s.classes order))))
classes_written s [] = refl
classes_written s (k ∷ ks) = by (slice_get s.classes k) (classes_written s ks)
  where
    by : (o : Option ClassRec) → flat_map (class_text_at s) ks ≡ flat_map class_text (filter (λ (c : ClassOf (List ℕ)). not c.kernel) (map (map_class (name_at s.names)) (map (class_of s.classes) (live s.classes ks))))
        → option_map_or (λ (c : ClassRec). if c.kernel then [] else class_text (text_class s c)) o [] ++ flat_map (class_text_at s) ks ≡ flat_map class_text (filter (λ (c : ClassOf (List ℕ)). not c.kernel) (map (map_class (name_at s.names)) (map (class_of s.classes) (cons_option o (live s.classes ks)))))
    by None h = h
    by (Some c) h = at c.kernel
      where
        at : (b : Bool) → (if b then [] else class_text (text_class s c)) ++ flat_map (class_text_at s) ks ≡ flat_map class_text (cond (not b) (text_class s c ∷ filter (λ (d : ClassOf (List ℕ)). not d.kernel) (map (map_class (name_at s.names)) (map (class_of s.classes) (live s.classes ks)))) (filter (λ (d : ClassOf (List ℕ)). not d.kernel) (map (map_class (name_at s.names)) (map (class_of s.classes) (live s.classes ks)))))
        at true = h
        at false = ap (λ t. class_text (text_class s c) ++ t) h

-- what is told of a method is told of one that is there
pub told : (info : MethodInfo) (o : Option MethodRec) → IsInfoOf (Some info) o → (m : MethodRec) × (o ≡ Some m) × TellsOf info m
told info None h = absurd h
told info (Some m) h = (m, refl, h)

-- nothing is told where nothing is
pub untold : (o : Option MethodRec) → IsInfoOf None o → o ≡ None
untold None h = refl
untold (Some m) h = absurd h

-- the item at a place
pub item_at : {X : Type 0} (xs : List X) (i : ℕ) (x : X) → i < length xs → x ≡ get_or xs i x → slice_get xs i ≡ Some x
item_at [] i x l e = absurd (omega arith)
item_at (y ∷ ys) zero x l e = ap Some (sym e)
item_at (y ∷ ys) (suc i) x l e = item_at ys i x (omega arith) e

-- what stands from a place on where an item is
pub drop-item : {X : Type 0} (xs : List X) (i : ℕ) (x : X) → slice_get xs i ≡ Some x → drop i xs ≡ x ∷ drop (suc i) xs
drop-item [] i x e = absurd (cc)
drop-item (y ∷ ys) zero x e = let same : y ≡ x = cc in ap (λ z. z ∷ ys) same
drop-item (y ∷ ys) (suc i) x e = drop-item ys i x e

-- nothing stands from a place on where no item is
pub drop-none : {X : Type 0} (xs : List X) (i : ℕ) → slice_get xs i ≡ None → drop i xs ≡ []
drop-none [] zero e = refl
drop-none [] (suc i) e = refl
drop-none (y ∷ ys) zero e = absurd (cc)
drop-none (y ∷ ys) (suc i) e = drop-none ys i e

-- nothing stands behind the last place
pub drop-end : {X : Type 0} (xs : List X) (i : ℕ) → length xs ≤ i → drop i xs ≡ []
drop-end [] zero l = refl
drop-end [] (suc i) l = refl
drop-end (y ∷ ys) zero l = absurd (omega arith)
drop-end (y ∷ ys) (suc i) l = drop-end ys i (omega arith)

-- the source of a do-it that is there
found_source : (xs : List DoIt) (at : ℕ) (source : List ℕ) → Some source ≡ option_map (λ (d : DoIt). d.source) (slice_get xs at) → (d : DoIt) × (slice_get xs at ≡ Some d) × (source ≡ d.source)
found_source xs at source e = by (slice_get xs at) refl e
  where
    by : (o : Option DoIt) → slice_get xs at ≡ o → Some source ≡ option_map (λ (d : DoIt). d.source) o → (d : DoIt) × (slice_get xs at ≡ Some d) × (source ≡ d.source)
    by None f h = absurd (cc)
    by (Some d) f h = (d, f, cc)

-- one more do-it is written
pub doit_step : (xs : List DoIt) (at to : ℕ) (source out new whole : List ℕ) → at < to → Some source ≡ option_map (λ (d : DoIt). d.source) (slice_get xs at)
    → out ++ flat_map doit_text_of (take (to - at) (drop at xs)) ≡ whole → new ≡ out ++ paragraph source → new ++ flat_map doit_text_of (take (to - (at + 1)) (drop (at + 1) xs)) ≡ whole
doit_step xs at to source out new whole l e h n =
    let d = found_source xs at source e in
    let count : to - at ≡ suc (to - (at + 1)) = omega arith in
    let next : suc at ≡ at + 1 = omega arith in
    let front : take (to - at) (drop at xs) ≡ d.0 ∷ take (to - (at + 1)) (drop (at + 1) xs) =
    ap (λ k. take k (drop at xs)) count ∙ ap (λ ys. take (suc (to - (at + 1))) ys) (drop-item xs at d.0 d.1) ∙ ap (λ k. d.0 ∷ take (to - (at + 1)) (drop k xs)) next in
    ap (λ t. t ++ flat_map doit_text_of (take (to - (at + 1)) (drop (at + 1) xs))) (n ∙ ap (λ t. out ++ paragraph t) d.2)
    ∙ append_assoc out (paragraph d.0.source) (flat_map doit_text_of (take (to - (at + 1)) (drop (at + 1) xs)))
    ∙ ap (λ ys. out ++ flat_map doit_text_of ys) (sym front) ∙ h

-- no do-it is left
pub doit_none : (xs : List DoIt) (at to : ℕ) (out whole : List ℕ) → None ≡ option_map (λ (d : DoIt). d.source) (slice_get xs at)
    → out ++ flat_map doit_text_of (take (to - at) (drop at xs)) ≡ whole → out ≡ whole
doit_none xs at to out whole e h = sym (append-nil out) ∙ ap (λ ys. out ++ flat_map doit_text_of ys) (sym (ap (take (to - at)) (drop-none xs at (missing (slice_get xs at) e)) ∙ take-nil (to - at))) ∙ h
  where
    missing : (o : Option DoIt) → None ≡ option_map (λ (d : DoIt). d.source) o → o ≡ None
    missing None f = refl
    missing (Some d) f = absurd (cc)

-- the first do-its, as records and over texts
pub first_doits : (f : ℕ → List ℕ) (xs : List DoIt) (n : ℕ) → flat_map doit_text_of (take n xs) ≡ flat_map doit_text (take n (map (map_doit f) (map doit_of xs)))
first_doits f [] zero = refl
first_doits f [] (suc n) = refl
first_doits f (d ∷ xs) zero = refl
first_doits f (d ∷ xs) (suc n) = ap (λ t. paragraph d.source ++ t) (first_doits f xs n)

-- all do-its, as records and over texts
all_doits : (f : ℕ → List ℕ) (xs : List DoIt) → flat_map doit_text_of xs ≡ flat_map doit_text (map (map_doit f) (map doit_of xs))
all_doits f [] = refl
all_doits f (d ∷ xs) = ap (λ t. paragraph d.source ++ t) (all_doits f xs)

-- the do-its behind the first ones, as records and over texts
other_doits : (f : ℕ → List ℕ) (xs : List DoIt) (n : ℕ) → flat_map doit_text_of (drop n xs) ≡ flat_map doit_text (drop n (map (map_doit f) (map doit_of xs)))
other_doits f [] zero = refl
other_doits f [] (suc n) = refl
other_doits f (d ∷ xs) zero = all_doits f (d ∷ xs)
other_doits f (d ∷ xs) (suc n) = other_doits f xs n

-- the do-its behind the first ones up to the last
pub last_doits : (f : ℕ → List ℕ) (xs : List DoIt) (n : ℕ) → flat_map doit_text_of (take (length xs - n) (drop n xs)) ≡ flat_map doit_text (drop n (map (map_doit f) (map doit_of xs)))
last_doits f xs n =
    let enough : length (drop n xs) ≤ length xs - n = omega (arith, length-drop n xs) in
    ap (flat_map doit_text_of) (take_all (length xs - n) (drop n xs) enough) ∙ other_doits f xs n

-- a method of the user stands first among the entries from its slot on
user_some : (s : Slots) (k : ℕ) (ks : List ℕ) (m : UserMethod) → IsUserMethodAt s k (Some m) → (e : EntryOf (List ℕ)) × (user_entries s (k ∷ ks) ≡ e ∷ user_entries s ks) × IsWrittenAs e m
user_some s k ks m h = by (slice_get s.methods k) h
  where
    by : (o : Option MethodRec) → MatchOption o (Some m ≡ None) (λ r. IsAnswerFor (text_entry s r) (Some m)) → (e : EntryOf (List ℕ)) × (filter (λ (d : EntryOf (List ℕ)). not d.kernel) (map (map_entry (name_at s.names)) (map (entry_of s.classes) (cons_option o (live s.methods ks)))) ≡ e ∷ user_entries s ks) × IsWrittenAs e m
    by None q = absurd (cc)
    by (Some r) q = (text_entry s r, ap (λ (b : Bool). cond (not b) (text_entry s r ∷ user_entries s ks) (user_entries s ks)) q.user, q)

-- a method of the kernel is not among them
user_none : (s : Slots) (k : ℕ) (ks : List ℕ) → IsUserMethodAt s k None → user_entries s (k ∷ ks) ≡ user_entries s ks
user_none s k ks h = by (slice_get s.methods k) h
  where
    nothing : Option UserMethod
    nothing = None

    by : (o : Option MethodRec) → MatchOption o (nothing ≡ nothing) (λ r. IsAnswerFor (text_entry s r) None) → filter (λ (d : EntryOf (List ℕ)). not d.kernel) (map (map_entry (name_at s.names)) (map (entry_of s.classes) (cons_option o (live s.methods ks)))) ≡ user_entries s ks
    by None q = refl
    by (Some r) q = ap (λ (b : Bool). cond (not b) (text_entry s r ∷ user_entries s ks) (user_entries s ks)) q

-- one more method is written
pub method_step : (s : Slots) (order : List ℕ) (i k : ℕ) (before : Option UserMethod) (m : UserMethod) (out opened new whole : List ℕ) → slice_get order i ≡ Some k → IsUserMethodAt s k (Some m)
    → out ++ methods_text (option_map run_text before) (user_entries s (drop i order)) ≡ whole
    → opened ≡ out ++ method_opening (option_map run_text before) (run_text m) → new ≡ opened ++ chunk_text m.source.now
    → new ++ methods_text (option_map run_text (Some m)) (user_entries s (drop (i + 1) order)) ≡ whole
method_step s order i k before m out opened new whole g h inv o n =
    let next : suc i ≡ i + 1 = omega arith in
    let rest = user_entries s (drop (i + 1) order) in
    let found = user_some s k (drop (i + 1) order) m h in
    let front : user_entries s (drop i order) ≡ found.0 ∷ rest =
    ap (user_entries s) (drop-item order i k g ∙ ap (λ j. k ∷ drop j order) next) ∙ found.1 in
    let whole_is : out ++ (method_opening (option_map run_text before) (run_of found.0) ++ chunk_text found.0.source ++ methods_text (Some (run_of found.0)) rest) ≡ whole =
    ap (λ es. out ++ methods_text (option_map run_text before) es) (sym front) ∙ inv in
    ap (λ r. new ++ methods_text (Some r) rest) found.2.run
    ∙ left2 out opened new (method_opening (option_map run_text before) (run_of found.0)) (chunk_text found.0.source) (methods_text (Some (run_of found.0)) rest) whole whole_is
    (o ∙ ap (λ r. out ++ method_opening (option_map run_text before) r) found.2.run) (n ∙ ap (λ t. opened ++ chunk_text t) found.2.source)

-- a method of the kernel is passed
pub kernel_step : (s : Slots) (order : List ℕ) (i k : ℕ) (before : Option UserMethod) (out whole : List ℕ) → slice_get order i ≡ Some k → IsUserMethodAt s k None
    → out ++ methods_text (option_map run_text before) (user_entries s (drop i order)) ≡ whole
    → out ++ methods_text (option_map run_text before) (user_entries s (drop (i + 1) order)) ≡ whole
kernel_step s order i k before out whole g h inv =
    let next : suc i ≡ i + 1 = omega arith in
    ap (λ es. out ++ methods_text (option_map run_text before) es) (sym (ap (user_entries s) (drop-item order i k g ∙ ap (λ j. k ∷ drop j order) next) ∙ user_none s k (drop (i + 1) order) h)) ∙ inv

-- no method is left
pub methods_end : (s : Slots) (order : List ℕ) (i : ℕ) (before : Option UserMethod) (out whole : List ℕ) → length order ≤ i
    → out ++ methods_text (option_map run_text before) (user_entries s (drop i order)) ≡ whole → out ++ last_run_end (option_map run_text before) ≡ whole
methods_end s order i before out whole l inv =
    ap (λ es. out ++ methods_text (option_map run_text before) es) (sym (ap (user_entries s) (drop-end order i l))) ∙ inv

-- a run was open
pub open_run : (before : Option UserMethod) → is_some before ≡ true → last_run_end (option_map run_text before) ≡ run_end
open_run None h = absurd (true≢false (sym h))
open_run (Some m) h = refl

-- no run was open
pub no_run : (before : Option UserMethod) → is_some before ≡ false → last_run_end (option_map run_text before) ≡ []
no_run None h = refl
no_run (Some m) h = absurd (true≢false h)
