-- The changes of a renaming make of the slots what the renaming makes of the image.
use Rattle.std.proofs.Common.{◌≡◌, ◌⊎◌, inl, inr, ℕ, zero, suc, ◌<◌, Bool, true, false, List, [], ◌∷◌, ◌++◌, length, map, Option, None, Some, option_map, slice_get, is_some, refl, sym, ap, subst, ◌∙◌, cond, arith, true≢false}
use Rattle.std.specs.Prelude.{Contains, nat_eq, if◌then◌else◌}
use Rattle.std.specs.List.{list_any, filter_map, AllByRecursion}
use Rattle.std.specs.Option.{option_and_then, option_map_or}
use Rattle.std.proofs.Math.ListN.{set}
use Rattle.std.proofs.lemmas.Option.{slice_get_within}
use Rattle.st_tree.specs.View.{method_of, sequence_of}
use Rattle.image_model.specs.ImageNames.{OptionNames, ClassNames, EntryNames, DoItNames, ImageNames}
use Rattle.image_model.specs.Means.{VariableKind, of_instance, of_class_side, of_class}
use Rattle.class_table.specs.declared.record.ClassRec.{ClassRec}
use Rattle.class_table.specs.declared.record.MethodRec.{MethodRec}
use Rattle.class_table.specs.declared.record.DoIt.{DoIt}
use Rattle.class_table.specs.declared.record.Place.{Place}
use Rattle.class_table.specs.declared.record.Place.TheVariants as place
use Rattle.class_table.specs.Slots.{Slots}
use Rattle.class_table.specs.Finding.{named_in}
use Rattle.class_table.specs.Valid.{IsLive, IsOrderly}
use Rattle.class_table.specs.View.{class_of, entry_of, doit_of, number_image}
use Rattle.class_table.proofs.OrderLemmas.{get-set_same}
use Rattle.class_table.proofs.Live.{live-fact}
use Rattle.change_set.specs.declared.change.Change.{Change}
use Rattle.change_set.specs.declared.change.Change.TheVariants as change
use Rattle.change_set.specs.Changes.{all_applied, CanApplyAll}
use Rattle.wider_slots.specs.Closed.{ChangeWithin, FitsIn}
use Rattle.command_model.specs.AllHold.{AllHold}
use Rattle.command_model.specs.Effects.{effect}
use Rattle.command_model.specs.Numbers.{number_writing}
use Rattle.command_model.proofs.Held.{all-hold}
use Rattle.commands.specs.Views.{asked_by, renames_variable}
use Rattle.mentions.specs.Mentions.{code_names, method_names}
use Rattle.mentions.proofs.Lists.{Contains-first, Contains-later}
use Rattle.reference_index.specs.Mentioned.{names_at, DiffersAtMost}
use Rattle.renamed_code.specs.Anew.{RenamedOf, of_a_class, of_a_variable, of_a_selector}
use Rattle.renamed_code.specs.ChangedCode.{change_at, method_rec_after, doit_rec_after}
use Rattle.plan_laws.specs.Planned.{renaming, class_renamed_in, class_rec_after, class_changes, planned, touched, MayBePlanned}
use Rattle.plan_laws.proofs.Applied.{Contains-cases, IsOf, get_at, Keeps, all-keep, all-classes, all-other, all-there, all-can, all-given, applied-both, can-both}
use Rattle.plan_laws.proofs.Classes.{AreMoved, IsSlotOf, slot-of, moved-set, moved-none_written}
use Rattle.plan_laws.proofs.CodeAfter.{given-method, given-doit, method-gives, doit-gives, entry_changes, doit_changes}
use Rattle.renamed_code_laws.proofs.Spoken.{change-spoken}
use Rattle.plan_laws.proofs.After.{AreAfter, IsFree, no-class-named, image-is, orderly-is}

-- the class of a renaming is in the image
slot-there : (s : Slots) (what : RenamedOf ℕ) (to c : ℕ) → class_renamed_in what ≡ Some c → AllHold (asked_by s.names) (number_image s) (renaming what to) → IsSlotOf s c
slot-there s (of_a_class d) to c is h = let same : d ≡ c = cc in subst (λ (n : ℕ). IsSlotOf s n) same (slot-of s d _ h.user_class)
slot-there s (of_a_variable kind d x) to c is h = let same : d ≡ c = cc in subst (λ (n : ℕ). IsSlotOf s n) same (by kind h)
  where
    by : (k : VariableKind) → AllHold (asked_by s.names) (number_image s) (renames_variable k d x to) → IsSlotOf s d
    by of_instance g = slot-of s d _ g.user_class
    by of_class_side g = slot-of s d _ g.user_class
    by of_class g = slot-of s d _ g.user_class
slot-there s (of_a_selector t) to c is h = cc

-- its new name is free
free-there : (s : Slots) (what : RenamedOf ℕ) (to : ℕ) → AllHold (asked_by s.names) (number_image s) (renaming what to) → IsFree s what to
free-there s (of_a_class c) to h = λ k r l e same. no-class-named s to h.unused_name k r l e same
free-there s (of_a_variable kind c x) to h = tt
free-there s (of_a_selector t) to h = tt

-- the change of the class, and the classes after
record ClassPart (s : Slots) (what : RenamedOf ℕ) (to : ℕ) : Type 1 where
  classes : List ClassRec
  are : AreMoved s what to classes
  base : all_applied s (class_changes s what to) ≡ record s { classes = classes }
  can : CanApplyAll s (class_changes s what to)
  fits : (P : Change → Type 0) → ((k : ℕ) (r : ClassRec) → IsLive s.class_order k → slice_get classes k ≡ Some r → P (change.Class k r)) → AllByRecursion P (class_changes s what to)

class-part : (s : Slots) (o : IsOrderly s) (what : RenamedOf ℕ) (to : ℕ) → AllHold (asked_by s.names) (number_image s) (renaming what to) → ClassPart s what to
class-part s o what to h = by what refl h
  where
    one : (x : RenamedOf ℕ) (c : ℕ) → class_renamed_in x ≡ Some c → IsSlotOf s c → ClassPart s x to
    one x c is slot =
        let k = slot.slot in
        let r = slot.rec in
        let after = class_rec_after x to r in
        let form : class_changes s x to ≡ change.Class k after ∷ [] =
        ap (λ (p : Option ℕ). option_map_or (λ j. option_map_or (λ (q : ClassRec). change.Class j (class_rec_after x to q) ∷ []) (slice_get s.classes j) []) (option_and_then (named_in s.classes s.class_order) p) []) is
        ∙ ap (λ (p : Option ℕ). option_map_or (λ j. option_map_or (λ (q : ClassRec). change.Class j (class_rec_after x to q) ∷ []) (slice_get s.classes j) []) p []) slot.found
        ∙ ap (λ (p : Option ClassRec). option_map_or (λ (q : ClassRec). change.Class k (class_rec_after x to q) ∷ []) p []) slot.there in
        let within : k < length s.classes = slice_get_within s.classes k r slot.there in
        record {
          classes = set s.classes k after;
          are = moved-set s o x to c k is r slot.live slot.there slot.named;
          base = ap (all_applied s) form;
          can = subst (CanApplyAll s) (sym form) (within, tt);
          fits = λ P f. subst (AllByRecursion P) (sym form) (f k after slot.live (get-set_same s.classes k after within), tt);
        }

    by : (x : RenamedOf ℕ) → what ≡ x → AllHold (asked_by s.names) (number_image s) (renaming x to) → ClassPart s x to
    by (of_a_class c) e g = one (of_a_class c) c refl (slot-there s (of_a_class c) to c refl g)
    by (of_a_variable kind c x) e g = one (of_a_variable kind c x) c refl (slot-there s (of_a_variable kind c x) to c refl g)
    by (of_a_selector t) e g = record { classes = s.classes; are = moved-none_written s t to; base = refl; can = tt; fits = λ P f. tt }

module _ (s : Slots) (what : RenamedOf ℕ) (to : ℕ) (places : List Place) (may : MayBePlanned s what to places)
    (known : ImageNames (λ n. n < length s.names) (effect (asked_by s.names) (number_writing s.names) (renaming what to) (number_image s))) where
  abbrev f : Place → Option Change
  f = change_at s what to

  abbrev o : IsOrderly s
  o = may.orderly

  hold : AllHold (asked_by s.names) (number_image s) (renaming what to)
  hold = all-hold (asked_by s.names) (number_image s) (renaming what to) may.holds

  part : ClassPart s what to
  part = class-part s o what to hold

  own : (p : Place) (c : Change) → f p ≡ Some c → IsOf (length s.methods) (length s.doits) p c
  own (place.Method k) c h = let g = given-method s to what k c h in (method_rec_after s what to g.rec, slice_get_within s.methods k g.rec g.there, g.is)
  own (place.DoIt n) c h = let g = given-doit s to what n c h in (doit_rec_after s what to g.rec, slice_get_within s.doits n g.rec g.there, g.is)

  abbrev base : Slots
  base = record s { classes = part.classes }

  abbrev after : Slots
  after = all_applied base (filter_map f places)

  keeps : Keeps base after
  keeps = all-keep f (length s.methods) (length s.doits) own places base

  -- a place that gives no change
  silent : (q : Place) → f q ≡ None → get_at after q ≡ get_at base q
  silent q none = all-other f (length s.methods) (length s.doits) own q places base (λ p c there e same. by (sym none ∙ ap f (sym same) ∙ e))
    where
      by : {c : Change} → None ≡ Some c → ⊥
      by h = cc

  listed : (p : Place) (c : Change) → f p ≡ Some c → Contains places p
  listed p c e = may.listed p (change-spoken s what to p c e)

  method-point : (k : ℕ) (r : MethodRec) → IsLive s.method_order k → slice_get s.methods k ≡ Some r → slice_get after.methods k ≡ Some (if entry_changes s to what r then method_rec_after s what to r else r)
  method-point k r l e = by (entry_changes s to what r) (method-gives s to what k r l e)
    where
      by : (b : Bool) → f (place.Method k) ≡ (if b then Some (change.Method k (method_rec_after s what to r)) else None) → slice_get after.methods k ≡ Some (if b then method_rec_after s what to r else r)
      by true h =
          all-there f (length s.methods) (length s.doits) own (place.Method k) (method_rec_after s what to r) h (slice_get_within s.methods k r e) places base refl refl (
          inl (listed (place.Method k) (change.Method k (method_rec_after s what to r)) h))
      by false h = silent (place.Method k) h ∙ e

  doit-point : (n : ℕ) → slice_get after.doits n ≡ option_map (λ (d : DoIt). if doit_changes s to what d then doit_rec_after s what to d else d) (slice_get s.doits n)
  doit-point n = by (slice_get s.doits n) refl
    where
      given : (d : DoIt) → slice_get s.doits n ≡ Some d → (b : Bool) → f (place.DoIt n) ≡ (if b then Some (change.DoIt n (doit_rec_after s what to d)) else None) → slice_get after.doits n ≡ Some (if b then doit_rec_after s what to d else d)
      given d e true h =
          all-there f (length s.methods) (length s.doits) own (place.DoIt n) (doit_rec_after s what to d) h (slice_get_within s.doits n d e) places base refl refl (
          inl (listed (place.DoIt n) (change.DoIt n (doit_rec_after s what to d)) h))
      given d e false h = silent (place.DoIt n) h ∙ e

      by : (q : Option DoIt) → slice_get s.doits n ≡ q → slice_get after.doits n ≡ option_map (λ (d : DoIt). if doit_changes s to what d then doit_rec_after s what to d else d) q
      by None e = silent (place.DoIt n) (ap (option_and_then (λ (d : DoIt). if doit_changes s to what d then Some (change.DoIt n (doit_rec_after s what to d)) else None)) e) ∙ e
      by (Some d) e = given d e (doit_changes s to what d) (doit-gives s to what n d e)

  -- the slots after
  abbrev end : Slots
  end = record s { classes = part.classes; methods = after.methods; doits = after.doits }

  are : AreAfter s what to part.classes after.methods after.doits
  are = record { classes = part.are; method_slots = keeps.methods; methods = method-point; doits = doit-point }

  ended : after ≡ end
  ended = λ j. record {
    names = keeps.names j;
    classes = all-classes f (length s.methods) (length s.doits) own places base j;
    class_order = keeps.class_order j;
    methods = after.methods;
    method_order = keeps.method_order j;
    doits = after.doits;
    heads = keeps.heads j;
  }

  is-end : all_applied s (planned s what to places) ≡ end
  is-end = applied-both (class_changes s what to) (filter_map f places) s ∙ ap (λ (t : Slots). all_applied t (filter_map f places)) part.base ∙ ended

  end-orderly : IsOrderly end
  end-orderly = orderly-is s o what to part.classes after.methods after.doits are known (free-there s what to hold)

  pub plan-can : CanApplyAll s (planned s what to places)
  plan-can =
      can-both (class_changes s what to) (filter_map f places) s part.can (
      subst (λ (t : Slots). CanApplyAll t (filter_map f places)) (sym part.base) (all-can f (length s.methods) (length s.doits) own places base refl refl))

  pub plan-effect : number_image (all_applied s (planned s what to places)) ≡ effect (asked_by s.names) (number_writing s.names) (renaming what to) (number_image s)
  plan-effect = ap number_image is-end ∙ image-is s o what to part.classes after.methods after.doits are

  pub plan-names : (all_applied s (planned s what to places)).names ≡ s.names
  plan-names = ap (λ (t : Slots). t.names) is-end

  pub plan-orderly : IsOrderly (all_applied s (planned s what to places))
  plan-orderly = subst IsOrderly (sym is-end) end-orderly

  -- what the changes hold fits
  abbrev Fits : Change → Type 0
  Fits = ChangeWithin (length s.names) (length s.classes)

  class-fits : (k : ℕ) (r : ClassRec) → IsLive s.class_order k → slice_get part.classes k ≡ Some r → Fits (change.Class k r)
  class-fits k r l e =
      let named = live-fact (ClassNames (λ n. n < length s.names)) (class_of part.classes) part.classes s.class_order k r (end-orderly.names_known).classes l e in
      record {
        name = named.name;
        superclass = by r.superclass (λ j h. o.class_order.below j (end-orderly.superclasses_live j k r l e h));
        instance = named.instance;
        shared = named.shared;
        class_side = named.class_side;
      }
    where
      by : (up : Option ℕ) → ((j : ℕ) → up ≡ Some j → j < length s.classes) → OptionNames (λ j. j < length s.classes) up
      by None h = tt
      by (Some j) h = h j refl

  -- a fact of each item
  item-fact : {X Y : Type 0} (P : Y → Type 0) (g : X → Y) (xs : List X) (n : ℕ) (x : X) → AllByRecursion P (map g xs) → slice_get xs n ≡ Some x → P (g x)
  item-fact P g [] n x a e = absurd (cc)
  item-fact P g (y ∷ ys) zero x a e = let same : y ≡ x = cc in subst (λ z. P (g z)) same a.0
  item-fact P g (y ∷ ys) (suc n) x a e = item-fact P g ys n x a.1 e

  code-fits : (p : Place) (c : Change) → f p ≡ Some c → Fits c
  code-fits (place.Method k) c h =
      let g = given-method s to what k c h in
      let r = method_rec_after s what to g.rec in
      let at : slice_get after.methods k ≡ Some r = method-point k g.rec g.live g.there ∙ ap (λ (b : Bool). Some (if b then r else g.rec)) g.changes in
      let named = live-fact (EntryNames (λ n. n < length s.names)) (entry_of part.classes) after.methods s.method_order k r (end-orderly.names_known).methods g.live at in
      subst Fits (sym g.is) (record { class = o.class_order.below r.class (end-orderly.method_classes_live k r g.live at); tree = named.tree })
  code-fits (place.DoIt n) c h =
      let g = given-doit s to what n c h in
      let d = doit_rec_after s what to g.rec in
      let at : slice_get after.doits n ≡ Some d = doit-point n ∙ ap (option_map (λ (q : DoIt). if doit_changes s to what q then doit_rec_after s what to q else q)) g.there ∙ ap (λ (b : Bool). Some (if b then d else g.rec)) g.changes in
      subst Fits (sym g.is) (item-fact (DoItNames (λ m. m < length s.names)) doit_of after.doits n d (end-orderly.names_known).doits at)

  all-append : (P : Change → Type 0) (xs ys : List Change) → AllByRecursion P xs → AllByRecursion P ys → AllByRecursion P (xs ++ ys)
  all-append P [] ys a b = b
  all-append P (x ∷ xs) ys a b = (a.0, all-append P xs ys a.1 b)

  pub plan-fit : AllByRecursion (FitsIn s) (planned s what to places)
  plan-fit = all-append Fits (class_changes s what to) (filter_map f places) (part.fits Fits class-fits) (all-given Fits f places (λ p c there e. code-fits p c e))

  -- only touched places mention other names
  touched-there : (ps : List Place) (p : Place) (c : Change) → Contains ps p → f p ≡ Some c → Contains (touched s what to ps) p
  touched-there [] p c h e = absurd (none-there p h)
    where
      none-there : (q : Place) → Contains [] q → ⊥
      none-there q g = let lt = g.1 in omega arith
  touched-there (q ∷ ps) p c h e = by (is_some (f q)) refl (Contains-cases q p ps h) (λ g. touched-there ps p c g e)
    where
      by : (b : Bool) → is_some (f q) ≡ b → (q ≡ p) ⊎ Contains ps p → (Contains ps p → Contains (touched s what to ps) p) → Contains (cond b (q ∷ touched s what to ps) (touched s what to ps)) p
      by true t (inl same) rest = Contains-first q p (touched s what to ps) same
      by true t (inr g) rest = Contains-later q p (touched s what to ps) (rest g)
      by false t (inl same) rest = absurd (true≢false (sym (ap is_some (ap f same ∙ e)) ∙ t))
      by false t (inr g) rest = rest g

  untouched : (q : Place) → ¬ Contains (touched s what to places) q → get_at after q ≡ get_at base q
  untouched q not = all-other f (length s.methods) (length s.doits) own q places base (λ p c there e same. not (subst (Contains (touched s what to places)) same (touched-there places p c there e)))

  pub plan-touched : DiffersAtMost s (all_applied s (planned s what to places)) (touched s what to places)
  plan-touched p not = ap (λ (t : Slots). names_at t p) is-end ∙ by p (untouched p not)
    where
      by : (q : Place) → get_at after q ≡ get_at base q → names_at end q ≡ names_at s q
      by (place.Method k) e = ap (λ (r : Option MethodRec). option_map_or (λ (m : MethodRec). method_names (method_of m.tree)) (if list_any (nat_eq k) s.method_order then r else None) []) e
      by (place.DoIt n) e = ap (λ (r : Option DoIt). option_map_or (λ (d : DoIt). code_names (sequence_of d.body)) r []) e
