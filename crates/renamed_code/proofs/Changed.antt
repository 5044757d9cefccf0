-- The change of the code at a place, from the code after.
use Rattle.std.proofs.Common.{◌≡◌, ℕ, zero, suc, ◌<◌, Bool, true, false, cond, List, [], ◌∷◌, length, map, Option, None, Some, slice_get, option_map, refl, sym, ap, subst, ◌∙◌}
use Rattle.std.specs.Prelude.{if◌then◌else◌}
use Rattle.std.proofs.Math.Dec.{eqb}
use Rattle.std.specs.Borrow.{Bor}
use Rattle.std.specs.List.{AllByRecursion, list_any}
use Rattle.std.specs.Option.{option_and_then, option_copied}
use Rattle.rb_base.specs.Names.{name_at}
use Rattle.tree_model.specs.Tree.{map_sequence, map_method}
use Rattle.tree_model.specs.AllNames.{SequenceNames, MethodNames}
use Rattle.st_tree.specs.View.{method_of, method_from, sequence_of, sequence_from}
use Rattle.st_tree.specs.declared.tree.Method.{Method}
use Rattle.st_tree.specs.declared.tree.Sequence.{Sequence}
use Rattle.st_tree.proofs.Back.{method_from-method_of, sequence_from-sequence_of}
use Rattle.text_model.specs.Whole.{canonical_method, canonical_doit}
use Rattle.image_model.specs.Image.{EntryOf, DoItOf}
use Rattle.image_model.specs.ImageNames.{EntryNames, DoItNames}
use Rattle.image_model.specs.Words.{number_words}
use Rattle.command_model.specs.Numbers.{number_writing}
use Rattle.class_table.specs.declared.record.MethodRec.{MethodRec}
use Rattle.class_table.specs.declared.record.DoIt.{DoIt}
use Rattle.class_table.specs.declared.record.MethodInfo.{MethodInfo}
use Rattle.class_table.specs.declared.record.Place.TheVariants as place
use Rattle.class_table.specs.Slots.{Slots}
use Rattle.class_table.specs.Info.{IsInfoOf}
use Rattle.class_table.specs.View.{live_at, entry_of, doit_of, number_image}
use Rattle.class_table.specs.Valid.{IsLive, IsOrderly}
use Rattle.class_table.proofs.Live.{live-fact}
use Rattle.change_set.specs.declared.change.Change.{Change}
use Rattle.change_set.specs.declared.change.Change.TheVariants as change
use Rattle.renamed_code.specs.Anew.{RenamedOf, of_a_class, of_a_variable, of_a_selector, entry_after, is_entry_changed, doit_after, is_doit_changed}
use Rattle.renamed_code.specs.ChangedCode.{method_rec_after, doit_rec_after, change_at}

-- what a live slot holds
live_at-Some : {X : Type 0} (xs : List X) (order : List ℕ) (k : ℕ) (x : X) → live_at xs order k ≡ Some x → IsLive order k × (slice_get xs k ≡ Some x)
live_at-Some xs order k x e = by (list_any (eqb k) order) refl e
  where
    by : (b : Bool) → list_any (eqb k) order ≡ b → (if b then slice_get xs k else None) ≡ Some x → (list_any (eqb k) order ≡ true) × (slice_get xs k ≡ Some x)
    by true is f = (is, f)
    by false is f = absurd (cc)

-- the method of which something is told and whose tree is lent
pub method-there : (s : Slots) (k : ℕ) (info : MethodInfo) (tree : Bor Method) → IsInfoOf (Some info) (live_at s.methods s.method_order k)
    → option_copied (Some tree) ≡ option_map (λ (m : MethodRec). m.tree) (live_at s.methods s.method_order k)
    → live_at s.methods s.method_order k ≡ Some (record { class = info.class; meta = info.meta; protocol = info.protocol.now; source = info.source.now; tree = tree.now; kernel = info.kernel })
method-there s k info tree told lent = by (live_at s.methods s.method_order k) told lent
  where
    by : (o : Option MethodRec) → IsInfoOf (Some info) o → option_copied (Some tree) ≡ option_map (λ (m : MethodRec). m.tree) o
        → o ≡ Some (record { class = info.class; meta = info.meta; protocol = info.protocol.now; source = info.source.now; tree = tree.now; kernel = info.kernel })
    by None t l = absurd t
    by (Some m) t l =
        let same : tree.now ≡ m.tree = cc in
        sym (λ i. Some (record { class = t.class i; meta = t.meta i; protocol = t.protocol i; source = t.source i; tree = same i; kernel = t.kernel i }))

-- the do-it whose body is lent
pub doit-there : (s : Slots) (n : ℕ) (body : Bor Sequence) → option_copied (Some body) ≡ option_map (λ (d : DoIt). d.body) (slice_get s.doits n)
    → (source : List ℕ) × (slice_get s.doits n ≡ Some (record { source = source; body = body.now }))
doit-there s n body lent = by (slice_get s.doits n) lent
  where
    by : (o : Option DoIt) → option_copied (Some body) ≡ option_map (λ (d : DoIt). d.body) o → (source : List ℕ) × (o ≡ Some (record { source = source; body = body.now }))
    by None l = absurd (cc)
    by (Some d) l = let same : body.now ≡ d.body = cc in (d.source, sym (λ i. Some (record { source = d.source; body = same i })))

-- the class of a live method is live, and each name in it has a text
pub method-live : (s : Slots) (k : ℕ) (m : MethodRec) → IsOrderly s → live_at s.methods s.method_order k ≡ Some m → IsLive s.class_order m.class
method-live s k m o e = let h = live_at-Some s.methods s.method_order k m e in o.method_classes_live k m h.0 h.1

pub method-known : (s : Slots) (k : ℕ) (m : MethodRec) → IsOrderly s → live_at s.methods s.method_order k ≡ Some m → MethodNames (λ n. n < length s.names) (method_of m.tree)
method-known s k m o e =
    let h = live_at-Some s.methods s.method_order k m e in
    (live-fact (EntryNames (λ n. n < length s.names)) (entry_of s.classes) s.methods s.method_order k m o.names_known.methods h.0 h.1).tree

-- each name in a do-it has a text
doit-known_in : (P : ℕ → Type 0) (xs : List DoIt) (k : ℕ) (d : DoIt) → AllByRecursion (DoItNames P) (map doit_of xs) → slice_get xs k ≡ Some d → SequenceNames P (sequence_of d.body)
doit-known_in P [] k d a e = absurd (cc)
doit-known_in P (x ∷ xs) zero d a e = let same : x ≡ d = cc in subst (λ (y : DoIt). SequenceNames P (sequence_of y.body)) same a.0
doit-known_in P (x ∷ xs) (suc k) d a e = doit-known_in P xs k d a.1 e

pub doit-known : (s : Slots) (n : ℕ) (d : DoIt) → IsOrderly s → slice_get s.doits n ≡ Some d → SequenceNames (λ m. m < length s.names) (sequence_of d.body)
doit-known s n d o e = doit-known_in (λ m. m < length s.names) s.doits n d o.names_known.doits e

module _ (s : Slots) (what : RenamedOf ℕ) (to : ℕ) where
  -- nothing stands there
  pub none-there : (k : ℕ) → live_at s.methods s.method_order k ≡ None → None ≡ change_at s what to (place.Method k)
  none-there k e = sym (ap (option_and_then (λ (m : MethodRec). if is_entry_changed (number_words s.names) (number_writing s.names) (number_image s) to what (entry_of s.classes m) then Some (change.Method k (method_rec_after s what to m)) else None)) e)

  pub no_doit-there : (n : ℕ) → slice_get s.doits n ≡ None → None ≡ change_at s what to (place.DoIt n)
  no_doit-there n e = sym (ap (option_and_then (λ (d : DoIt). if is_doit_changed (number_words s.names) (number_writing s.names) (number_image s) to what (doit_of d) then Some (change.DoIt n (doit_rec_after s what to d)) else None)) e)

  -- the method does not speak of it
  method-is : (k : ℕ) (m : MethodRec) (b : Bool) → live_at s.methods s.method_order k ≡ Some m → is_entry_changed (number_words s.names) (number_writing s.names) (number_image s) to what (entry_of s.classes m) ≡ b
      → change_at s what to (place.Method k) ≡ (if b then Some (change.Method k (method_rec_after s what to m)) else None)
  method-is k m b e is =
      ap (option_and_then (λ (x : MethodRec). if is_entry_changed (number_words s.names) (number_writing s.names) (number_image s) to what (entry_of s.classes x) then Some (change.Method k (method_rec_after s what to x)) else None)) e
      ∙ ap (λ (c : Bool). if c then Some (change.Method k (method_rec_after s what to m)) else None) is

  pub method-unchanged : (k : ℕ) (m : MethodRec) → live_at s.methods s.method_order k ≡ Some m → is_entry_changed (number_words s.names) (number_writing s.names) (number_image s) to what (entry_of s.classes m) ≡ false
      → None ≡ change_at s what to (place.Method k)
  method-unchanged k m e is = sym (method-is k m false e is)

  -- the source after
  method-source : (e : EntryOf ℕ) (w : RenamedOf ℕ) → (entry_after (number_words s.names) (number_writing s.names) (number_image s) to w e).source
      ≡ (if is_entry_changed (number_words s.names) (number_writing s.names) (number_image s) to w e then canonical_method (map_method (name_at s.names) (entry_after (number_words s.names) (number_writing s.names) (number_image s) to w e).tree) else e.source)
  method-source e (of_a_class c) = refl
  method-source e (of_a_variable kind c x) = refl
  method-source e (of_a_selector t) = refl

  -- it speaks of it
  pub method-changed : (k : ℕ) (m : MethodRec) (tree : Method) (source : List ℕ) → live_at s.methods s.method_order k ≡ Some m
      → is_entry_changed (number_words s.names) (number_writing s.names) (number_image s) to what (entry_of s.classes m) ≡ true
      → method_of tree ≡ (entry_after (number_words s.names) (number_writing s.names) (number_image s) to what (entry_of s.classes m)).tree
      → source ≡ canonical_method (map_method (name_at s.names) (method_of tree))
      → Some (change.Method k (record m { tree = tree; source = source })) ≡ change_at s what to (place.Method k)
  method-changed k m tree source e is made text =
      let same : tree ≡ method_from (entry_after (number_words s.names) (number_writing s.names) (number_image s) to what (entry_of s.classes m)).tree = sym (method_from-method_of tree) ∙ ap method_from made in
      let spelled : source ≡ (entry_after (number_words s.names) (number_writing s.names) (number_image s) to what (entry_of s.classes m)).source =
      text ∙ ap (λ t. canonical_method (map_method (name_at s.names) t)) made
      ∙ sym (ap (λ (b : Bool). if b then canonical_method (map_method (name_at s.names) (entry_after (number_words s.names) (number_writing s.names) (number_image s) to what (entry_of s.classes m)).tree) else m.source) is)
      ∙ sym (method-source (entry_of s.classes m) what) in
      (λ i. let r : MethodRec = record m { tree = same i; source = spelled i } in Some (change.Method k r))
      ∙ sym (method-is k m true e is)

  -- the do-it does not speak of it
  doit-is : (n : ℕ) (d : DoIt) (b : Bool) → slice_get s.doits n ≡ Some d → is_doit_changed (number_words s.names) (number_writing s.names) (number_image s) to what (doit_of d) ≡ b
      → change_at s what to (place.DoIt n) ≡ (if b then Some (change.DoIt n (doit_rec_after s what to d)) else None)
  doit-is n d b e is =
      ap (option_and_then (λ (x : DoIt). if is_doit_changed (number_words s.names) (number_writing s.names) (number_image s) to what (doit_of x) then Some (change.DoIt n (doit_rec_after s what to x)) else None)) e
      ∙ ap (λ (c : Bool). if c then Some (change.DoIt n (doit_rec_after s what to d)) else None) is

  pub doit-unchanged : (n : ℕ) (d : DoIt) → slice_get s.doits n ≡ Some d → is_doit_changed (number_words s.names) (number_writing s.names) (number_image s) to what (doit_of d) ≡ false → None ≡ change_at s what to (place.DoIt n)
  doit-unchanged n d e is = sym (doit-is n d false e is)

  doit-source : (e : DoItOf ℕ) (w : RenamedOf ℕ) → (doit_after (number_words s.names) (number_writing s.names) (number_image s) to w e).source
      ≡ (if is_doit_changed (number_words s.names) (number_writing s.names) (number_image s) to w e then canonical_doit (map_sequence (name_at s.names) (doit_after (number_words s.names) (number_writing s.names) (number_image s) to w e).body) else e.source)
  doit-source e (of_a_class c) = refl
  doit-source e (of_a_variable kind c x) = refl
  doit-source e (of_a_selector t) = refl

  -- it speaks of it
  pub doit-changed : (n : ℕ) (d : DoIt) (body : Sequence) (source : List ℕ) → slice_get s.doits n ≡ Some d
      → is_doit_changed (number_words s.names) (number_writing s.names) (number_image s) to what (doit_of d) ≡ true
      → sequence_of body ≡ (doit_after (number_words s.names) (number_writing s.names) (number_image s) to what (doit_of d)).body
      → source ≡ canonical_doit (map_sequence (name_at s.names) (sequence_of body))
      → Some (change.DoIt n (record { source = source; body = body })) ≡ change_at s what to (place.DoIt n)
  doit-changed n d body source e is made text =
      let same : body ≡ sequence_from (doit_after (number_words s.names) (number_writing s.names) (number_image s) to what (doit_of d)).body = sym (sequence_from-sequence_of body) ∙ ap sequence_from made in
      let spelled : source ≡ (doit_after (number_words s.names) (number_writing s.names) (number_image s) to what (doit_of d)).source =
      text ∙ ap (λ b. canonical_doit (map_sequence (name_at s.names) b)) made
      ∙ sym (ap (λ (b : Bool). if b then canonical_doit (map_sequence (name_at s.names) (doit_after (number_words s.names) (number_writing s.names) (number_image s) to what (doit_of d)).body) else d.source) is)
      ∙ sym (doit-source (doit_of d) what) in
      (λ i. let r : DoIt = record { source = spelled i; body = same i } in Some (change.DoIt n r))
      ∙ sym (doit-is n d true e is)
