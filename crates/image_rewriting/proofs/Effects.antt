-- The changes that a rule gives are a plan: they make of the image the one in which it is applied.
use Rattle.std.proofs.Common.{◌≡◌, ◌⊎◌, inl, inr, ℕ, zero, suc, ◌<◌, Bool, true, false, not, ◌&&◌, List, [], ◌∷◌, length, map, Option, None, Some, slice_get, refl, sym, ap, subst, ◌∙◌}
use Rattle.std.specs.Prelude.{Contains, if◌then◌else◌, nat_eq}
use Rattle.std.specs.List.{AllByRecursion, list_any, cons_option}
use Rattle.std.proofs.lemmas.Bool.{and_parts}
use Rattle.std.proofs.lemmas.Option.{slice_get_within}
use Rattle.std.proofs.lemmas.Simd.{map-map}
use Rattle.rb_base.specs.Names.{name_at, text_eq, HasNoTwice}
use Rattle.query_model.specs.Lines.{Text}
use Rattle.tree_model.specs.Tree.{MethodOf, map_sequence, map_method}
use Rattle.st_tree.specs.View.{method_of, sequence_of}
use Rattle.text_model.specs.Whole.{canonical_method, canonical_doit}
use Rattle.event_trees.specs.Naming.{Grows}
use Rattle.event_trees.proofs.Known.{Grows-none}
use Rattle.image_model.specs.Image.{EntryOf, DoItOf, ImageOf, map_entry, map_doit, map_image}
use Rattle.image_model.specs.ImageNames.{EntryNames, DoItNames, ImageNames}
use Rattle.image_model.proofs.Lists.{all-map, map-all}
use Rattle.class_table.specs.declared.record.MethodRec.{MethodRec}
use Rattle.class_table.specs.declared.record.DoIt.{DoIt}
use Rattle.class_table.specs.declared.record.Place.{Place}
use Rattle.class_table.specs.declared.record.Place.TheVariants as place
use Rattle.class_table.specs.Slots.{Slots}
use Rattle.class_table.specs.View.{live, live_at, entry_of, doit_of, number_image, image_of}
use Rattle.class_table.specs.Valid.{IsLive, IsOrderly}
use Rattle.class_table.proofs.Live.{IsLive-first, IsLive-rest, live-fact}
use Rattle.change_set.specs.declared.change.Change.{Change}
use Rattle.change_set.specs.Changes.{all_applied, CanApplyAll}
use Rattle.wider_slots.specs.Closed.{FitsIn}
use Rattle.reference_index.specs.Mentioned.{DiffersAtMost}
use Rattle.pattern_model.specs.Rewritten.{RuleOf}
use Rattle.patterns.specs.declared.tree.Rule.{Rule}
use Rattle.rewrite_model.specs.Notes.{equal_sequence}
use Rattle.rewrite_model.specs.Rewritten.{rewritten_entry, rewritten_doit, rewritten_image}
use Rattle.plan_laws.proofs.Applied.{IsOf, Keeps, all-keep, all-there, all-given}
use Rattle.remade_plans.specs.Remade.{Remaking, entry_after, doit_after, image_after, method_rec_after, doit_rec_after, change_at, changes_at, touched}
use Rattle.remade_plans.proofs.RemadeCode.{given-method, given-doit}
use Rattle.remade_plans.proofs.Whole.{remade-can, remade-image, remade-names, remade-orderly, remade-fit, remade-touched}
use Rattle.image_rewriting.specs.Changed.{rule_of, KnowsRule}
use Rattle.image_rewriting.specs.Planned.{renamed, text_after, number_after, is_changed, remaking, HasNumbers, HasNumbersAt, places_of, StandsIn, IsRulePlan}
use Rattle.image_rewriting.proofs.Entries.{kernel-stays, equal-stays, entry-made, doit-stays, doit-made}
use Rattle.image_rewriting.proofs.Grown.{same-image, still-orderly}
use Rattle.image_rewriting.proofs.Places.{FoundSoFar, method-listed, doit-listed, all-listed}
use Rattle.image_rewriting.proofs.SameRule.{same-rule}

-- a fact of each live record, and of each item
live-all : {X : Type 0} (P : X → Type 0) (xs : List X) (order : List ℕ) → ((k : ℕ) (x : X) → IsLive order k → slice_get xs k ≡ Some x → P x) → AllByRecursion P (live xs order)
live-all P xs [] h = tt
live-all P xs (k ∷ ks) h = by (slice_get xs k) refl (live-all P xs ks (λ j x l e. h j x (IsLive-rest j k ks l) e))
  where
    by : (o : Option _) → slice_get xs k ≡ o → AllByRecursion P (live xs ks) → AllByRecursion P (cons_option o (live xs ks))
    by None e others = others
    by (Some x) e others = (h k x (IsLive-first k ks) e, others)

item-all : {X : Type 0} (P : X → Type 0) (xs : List X) → ((n : ℕ) (x : X) → slice_get xs n ≡ Some x → P x) → AllByRecursion P xs
item-all P [] h = tt
item-all P (x ∷ xs) h = (h 0 x refl, item-all P xs (λ n y e. h (suc n) y e))

item-fact : {X Y : Type 0} (P : Y → Type 0) (g : X → Y) (xs : List X) (n : ℕ) (x : X) → AllByRecursion P (map g xs) → slice_get xs n ≡ Some x → P (g x)
item-fact P g [] n x a e = absurd (cc)
item-fact P g (y ∷ ys) zero x a e = let same : y ≡ x = cc in subst (λ z. P (g z)) same a.0
item-fact P g (y ∷ ys) (suc n) x a e = item-fact P g ys n x a.1 e

-- tests
not-true : (b : Bool) → not b ≡ true → b ≡ false
not-true true e = cc
not-true false e = refl

not-false : (b : Bool) → not b ≡ false → b ≡ true
not-false true e = refl
not-false false e = cc

module _ (s : Slots) (names : List Text) (r : Rule) (o : IsOrderly (renamed s names)) (numbers : AllByRecursion (HasNumbersAt names r s) (places_of s)) where
  abbrev u : Slots
  u = renamed s names

  abbrev q : Remaking
  q = remaking names r

  abbrev rule : RuleOf Text
  rule = rule_of names r

  abbrev IsKnown : ℕ → Type 0
  IsKnown n = n < length names

  -- a live method
  module _ (k : ℕ) (m : MethodRec) (l : IsLive s.method_order k) (e : slice_get s.methods k ≡ Some m) where
    abbrev entry : EntryOf ℕ
    entry = entry_of s.classes m

    abbrev made : MethodOf ℕ
    made = record (method_of m.tree) { body = number_after names r (sequence_of m.tree.body) }

    abbrev is_other : Bool
    is_other = not m.kernel && is_changed names r (sequence_of m.tree.body)

    numbered : is_other ≡ true → HasNumbers names r (sequence_of m.tree.body)
    numbered h =
        let parts = and_parts (not m.kernel) (is_changed names r (sequence_of m.tree.body)) h in
        all-listed (HasNumbersAt names r s) (places_of s) (place.Method k) numbers (method-listed s k l) m (ap (λ (b : Bool). if b then slice_get s.methods k else None) l ∙ e) (not-true m.kernel parts.0) parts.1

    named : EntryNames IsKnown entry
    named = live-fact (EntryNames IsKnown) (entry_of s.classes) s.methods s.method_order k m o.names_known.methods l e

    entry-known : EntryNames IsKnown (entry_after u q entry)
    entry-known = by is_other refl
      where
        by : (b : Bool) → is_other ≡ b → EntryNames IsKnown (if b then record entry { tree = made; source = canonical_method (map_method (name_at names) made) } else entry)
        by true h = record { class = named.class; tree = record { selector = named.tree.selector; arguments = named.tree.arguments; body = (numbered h).known } }
        by false h = named

    entry-made-so : map_entry (name_at names) (entry_after u q entry) ≡ rewritten_entry rule (map_entry (name_at names) entry)
    entry-made-so = by is_other refl
      where
        stays : (a b : Bool) → m.kernel ≡ a → is_changed names r (sequence_of m.tree.body) ≡ b → (not a && b) ≡ false → map_entry (name_at names) entry ≡ rewritten_entry rule (map_entry (name_at names) entry)
        stays true b kernel same h = sym (kernel-stays rule (map_entry (name_at names) entry) kernel)
        stays false true kernel same h = cc
        stays false false kernel same h =
            sym (equal-stays rule (map_entry (name_at names) entry) (not-false (equal_sequence text_eq (map_sequence (name_at names) (sequence_of m.tree.body)) (text_after names r (sequence_of m.tree.body))) same))

        by : (b : Bool) → is_other ≡ b → map_entry (name_at names) (if b then record entry { tree = made; source = canonical_method (map_method (name_at names) made) } else entry) ≡ rewritten_entry rule (map_entry (name_at names) entry)
        by false h = stays m.kernel (is_changed names r (sequence_of m.tree.body)) refl refl h
        by true h =
            let parts = and_parts (not m.kernel) (is_changed names r (sequence_of m.tree.body)) h in
            entry-made rule (map_entry (name_at names) entry) (map_sequence (name_at names) (number_after names r (sequence_of m.tree.body))) (canonical_method (map_method (name_at names) made))
            (not-true m.kernel parts.0) (not-true (equal_sequence text_eq (map_sequence (name_at names) (sequence_of m.tree.body)) (text_after names r (sequence_of m.tree.body))) parts.1) (numbered h).texts refl

  -- a do-it
  module _ (n : ℕ) (d : DoIt) (e : slice_get s.doits n ≡ Some d) where
    abbrev doit : DoItOf ℕ
    doit = doit_of d

    abbrev doit_changes : Bool
    doit_changes = is_changed names r (sequence_of d.body)

    doit-numbered : doit_changes ≡ true → HasNumbers names r (sequence_of d.body)
    doit-numbered h = all-listed (HasNumbersAt names r s) (places_of s) (place.DoIt n) numbers (doit-listed s n (slice_get_within s.doits n d e)) d e h

    doit-known : DoItNames IsKnown (doit_after u q doit)
    doit-known = by doit_changes refl
      where
        by : (b : Bool) → doit_changes ≡ b
            → DoItNames IsKnown (if b then record { body = number_after names r (sequence_of d.body); source = canonical_doit (map_sequence (name_at names) (number_after names r (sequence_of d.body))) } else doit)
        by true h = (doit-numbered h).known
        by false h = item-fact (DoItNames IsKnown) doit_of s.doits n d o.names_known.doits e

    doit-made-so : map_doit (name_at names) (doit_after u q doit) ≡ rewritten_doit rule (map_doit (name_at names) doit)
    doit-made-so = by doit_changes refl
      where
        by : (b : Bool) → doit_changes ≡ b
            → map_doit (name_at names) (if b then record { body = number_after names r (sequence_of d.body); source = canonical_doit (map_sequence (name_at names) (number_after names r (sequence_of d.body))) } else doit)
            ≡ rewritten_doit rule (map_doit (name_at names) doit)
        by false h = sym (doit-stays rule (map_doit (name_at names) doit) (not-false (equal_sequence text_eq (map_sequence (name_at names) (sequence_of d.body)) (text_after names r (sequence_of d.body))) h))
        by true h =
            doit-made rule (map_doit (name_at names) doit) (map_sequence (name_at names) (number_after names r (sequence_of d.body)))
            (canonical_doit (map_sequence (name_at names) (number_after names r (sequence_of d.body))))
            (not-true (equal_sequence text_eq (map_sequence (name_at names) (sequence_of d.body)) (text_after names r (sequence_of d.body))) h) (doit-numbered h).texts refl

  abbrev lives : List MethodRec
  lives = live s.methods s.method_order

  -- each name in the image after has a text
  known-after : ImageNames IsKnown (image_after u q)
  known-after = record {
    classes = o.names_known.classes;
    methods =
        all-map (EntryNames IsKnown) (entry_after u q) (map (entry_of s.classes) lives)
        (all-map (λ (x : EntryOf ℕ). EntryNames IsKnown (entry_after u q x)) (entry_of s.classes) lives
        (live-all (λ (m : MethodRec). EntryNames IsKnown (entry_after u q (entry_of s.classes m))) s.methods s.method_order (λ k m l e. entry-known k m l e)));
    doits =
        all-map (DoItNames IsKnown) (doit_after u q) (map doit_of s.doits)
        (all-map (λ (x : DoItOf ℕ). DoItNames IsKnown (doit_after u q x)) doit_of s.doits
        (item-all (λ (d : DoIt). DoItNames IsKnown (doit_after u q (doit_of d))) s.doits (λ n d e. doit-known n d e)));
  }

  methods-are : map (map_entry (name_at names)) (map (entry_after u q) (map (entry_of s.classes) lives)) ≡ map (rewritten_entry rule) (map (map_entry (name_at names)) (map (entry_of s.classes) lives))
  methods-are =
      map-map (map_entry (name_at names)) (entry_after u q) (map (entry_of s.classes) lives)
      ∙ map-map (λ (x : EntryOf ℕ). map_entry (name_at names) (entry_after u q x)) (entry_of s.classes) lives
      ∙ map-all (λ (m : MethodRec). map_entry (name_at names) (entry_after u q (entry_of s.classes m))) (λ (m : MethodRec). rewritten_entry rule (map_entry (name_at names) (entry_of s.classes m))) lives
      (live-all (λ (m : MethodRec). map_entry (name_at names) (entry_after u q (entry_of s.classes m)) ≡ rewritten_entry rule (map_entry (name_at names) (entry_of s.classes m))) s.methods s.method_order
      (λ k m l e. entry-made-so k m l e))
      ∙ sym (map-map (rewritten_entry rule) (map_entry (name_at names)) (map (entry_of s.classes) lives)
      ∙ map-map (λ (x : EntryOf ℕ). rewritten_entry rule (map_entry (name_at names) x)) (entry_of s.classes) lives)

  doits-are : map (map_doit (name_at names)) (map (doit_after u q) (map doit_of s.doits)) ≡ map (rewritten_doit rule) (map (map_doit (name_at names)) (map doit_of s.doits))
  doits-are =
      map-map (map_doit (name_at names)) (doit_after u q) (map doit_of s.doits)
      ∙ map-map (λ (x : DoItOf ℕ). map_doit (name_at names) (doit_after u q x)) doit_of s.doits
      ∙ map-all (λ (d : DoIt). map_doit (name_at names) (doit_after u q (doit_of d))) (λ (d : DoIt). rewritten_doit rule (map_doit (name_at names) (doit_of d))) s.doits
      (item-all (λ (d : DoIt). map_doit (name_at names) (doit_after u q (doit_of d)) ≡ rewritten_doit rule (map_doit (name_at names) (doit_of d))) s.doits (λ n d e. doit-made-so n d e))
      ∙ sym (map-map (rewritten_doit rule) (map_doit (name_at names)) (map doit_of s.doits)
      ∙ map-map (λ (x : DoItOf ℕ). rewritten_doit rule (map_doit (name_at names) x)) doit_of s.doits)

  image-made : map_image (name_at names) (image_after u q) ≡ rewritten_image rule (image_of u)
  image-made = λ i. record (image_of u) { methods = methods-are i; doits = doits-are i }

  listed : (p : Place) (c : Change) → change_at u q p ≡ Some c → Contains (places_of s) p
  listed (place.Method k) c h = let g = given-method u q k c h in method-listed s k g.live
  listed (place.DoIt n) c h = let g = given-doit u q n c h in doit-listed s n (slice_get_within s.doits n g.rec g.there)

  -- each is of the code at its place, and what it puts in stands there after all of them
  own : (p : Place) (c : Change) → change_at u q p ≡ Some c → IsOf (length s.methods) (length s.doits) p c
  own (place.Method k) c h = let g = given-method u q k c h in (method_rec_after u q g.rec, slice_get_within s.methods k g.rec g.there, g.is)
  own (place.DoIt n) c h = let g = given-doit u q n c h in (doit_rec_after u q g.rec, slice_get_within s.doits n g.rec g.there, g.is)

  abbrev after : Slots
  after = all_applied u (changes_at u q (places_of s))

  stands : (p : Place) (c : Change) → change_at u q p ≡ Some c → StandsIn after c
  stands (place.Method k) c h =
      let g = given-method u q k c h in
      let m : MethodRec = method_rec_after u q g.rec in
      let keeps : Keeps u after = all-keep (change_at u q) (length s.methods) (length s.doits) own (places_of s) u in
      let there : slice_get after.methods k ≡ Some m =
      all-there (change_at u q) (length s.methods) (length s.doits) own (place.Method k) m (h ∙ ap Some g.is) (slice_get_within s.methods k g.rec g.there) (places_of s) u refl refl (inl (listed (place.Method k) c h)) in
      let live : live_at after.methods after.method_order k ≡ Some m =
      (λ i. live_at after.methods (keeps.method_order i) k) ∙ ap (λ (b : Bool). if b then slice_get after.methods k else None) g.live ∙ there in
      subst (StandsIn after) (sym g.is) (not-true g.rec.kernel (and_parts (not g.rec.kernel) (is_changed names r (sequence_of g.rec.tree.body)) g.changes).0, live)
  stands (place.DoIt n) c h =
      let g = given-doit u q n c h in
      subst (StandsIn after) (sym g.is)
      (all-there (change_at u q) (length s.methods) (length s.doits) own (place.DoIt n) (doit_rec_after u q g.rec) (h ∙ ap Some g.is) (slice_get_within s.doits n g.rec g.there) (places_of s) u refl refl (inl (listed (place.DoIt n) c h)))

  -- the changes of all places are a plan
  all-planned : IsRulePlan u rule (changes_at u q (places_of s)) (touched u q (places_of s))
  all-planned =
      let kept : after.names ≡ names = remade-names u q (places_of s) o known-after listed in
      record {
        can = remade-can u q (places_of s) o known-after listed;
        fit = remade-fit u q (places_of s) o known-after listed;
        effect = (λ i. map_image (name_at (kept i)) (remade-image u q (places_of s) o known-after listed i)) ∙ image-made;
        names = kept;
        orderly = remade-orderly u q (places_of s) o known-after listed;
        standing = all-given (StandsIn after) (change_at u q) (places_of s) (λ p c there e. stands p c e);
        touched = remade-touched u q (places_of s) o known-after listed;
      }

  pub planned-so : (changes : List Change) (now : List Place) → changes ≡ changes_at u q (places_of s) → now ≡ touched u q (places_of s) → IsRulePlan u rule changes now
  planned-so changes now same there =
      subst (λ (cs : List Change). IsRulePlan u rule cs now) (sym same) (subst (IsRulePlan u rule (changes_at u q (places_of s))) (sym there) all-planned)

-- so are those that were found one after the other
pub found-plan : (s t : Slots) (r : Rule) (changes : List Change) (now : List Place) → IsOrderly s → KnowsRule s.names r → t ≡ renamed s t.names → Grows s.names t.names → HasNoTwice t.names
    → FoundSoFar s t.names r (places_of s) changes now → IsRulePlan t (rule_of s.names r) changes now
found-plan s t r changes now o knows rest g once so =
    let found = so.so_far t.names (Grows-none t.names) once in
    let plan = planned-so s t.names r (still-orderly s t.names o g once) (so.numbers t.names (Grows-none t.names) once) changes now found.changes_are found.touched_are in
    subst (λ (v : Slots). IsRulePlan v (rule_of s.names r) changes now) (sym rest) (subst (λ (x : RuleOf Text). IsRulePlan (renamed s t.names) x changes now) (same-rule s.names t.names r g knows) plan)

-- and once they are applied the image is the one in which the rule is
pub applied-image : (s t v : Slots) (rule : RuleOf Text) (changes : List Change) (places : List Place) → IsOrderly s → t ≡ renamed s t.names → Grows s.names t.names → IsRulePlan t rule changes places → v ≡ all_applied t changes
    → image_of v ≡ rewritten_image rule (image_of s)
applied-image s t v rule changes places o rest g plan done = ap image_of done ∙ plan.effect ∙ ap (rewritten_image rule) (ap image_of rest ∙ same-image s t.names o g)
