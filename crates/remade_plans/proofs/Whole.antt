-- The changes of code at places make of the image the one after.
use Rattle.std.proofs.Common.{◌≡◌, ◌⊎◌, inl, inr, ℕ, zero, suc, ◌<◌, Bool, true, false, List, [], ◌∷◌, length, map, Option, None, Some, option_map, slice_get, is_some, refl, sym, ap, subst, ◌∙◌, cond, arith, true≢false}
use Rattle.std.specs.Prelude.{Contains, nat_eq, if◌then◌else◌}
use Rattle.std.specs.List.{list_any, AllByRecursion}
use Rattle.std.specs.Option.{option_map_or}
use Rattle.std.proofs.lemmas.Option.{slice_get_within}
use Rattle.st_tree.specs.View.{method_of, sequence_of}
use Rattle.image_model.specs.ImageNames.{EntryNames, DoItNames, ImageNames}
use Rattle.class_table.specs.declared.record.MethodRec.{MethodRec}
use Rattle.class_table.specs.declared.record.DoIt.{DoIt}
use Rattle.class_table.specs.declared.record.Place.{Place}
use Rattle.class_table.specs.declared.record.Place.TheVariants as place
use Rattle.class_table.specs.Slots.{Slots}
use Rattle.class_table.specs.Valid.{IsLive, IsOrderly}
use Rattle.class_table.specs.View.{entry_of, doit_of, number_image}
use Rattle.class_table.proofs.Live.{live-fact}
use Rattle.change_set.specs.declared.change.Change.{Change}
use Rattle.change_set.specs.declared.change.Change.TheVariants as change
use Rattle.change_set.specs.Changes.{all_applied, CanApplyAll}
use Rattle.wider_slots.specs.Closed.{FitsIn}
use Rattle.mentions.specs.Mentions.{code_names, method_names}
use Rattle.mentions.proofs.Lists.{Contains-first, Contains-later}
use Rattle.reference_index.specs.Mentioned.{names_at, DiffersAtMost}
use Rattle.plan_laws.proofs.Applied.{Contains-cases, IsOf, get_at, Keeps, all-keep, all-classes, all-other, all-there, all-can, all-given}
use Rattle.remade_plans.specs.Remade.{Remaking, image_after, method_rec_after, doit_rec_after, change_at, changes_at, touched}
use Rattle.remade_plans.proofs.RemadeCode.{entry_changes, doit_changes, given-method, given-doit, method-gives, doit-gives, no-doit_gives, live-there}
use Rattle.remade_plans.proofs.ImageAfter.{AreAfter, image-is, orderly-is}

-- a fact of each item
pub item-fact : {X Y : Type 0} (P : Y → Type 0) (g : X → Y) (xs : List X) (n : ℕ) (x : X) → AllByRecursion P (map g xs) → slice_get xs n ≡ Some x → P (g x)
item-fact P g [] n x a e = absurd (cc)
item-fact P g (y ∷ ys) zero x a e = let same : y ≡ x = cc in subst (λ z. P (g z)) same a.0
item-fact P g (y ∷ ys) (suc n) x a e = item-fact P g ys n x a.1 e

module _ (s : Slots) (r : Remaking) (places : List Place) (o : IsOrderly s) (known : ImageNames (λ n. n < length s.names) (image_after s r))
    (listed : (p : Place) (c : Change) → change_at s r p ≡ Some c → Contains places p) where
  abbrev f : Place → Option Change
  f = change_at s r

  own : (p : Place) (c : Change) → f p ≡ Some c → IsOf (length s.methods) (length s.doits) p c
  own (place.Method k) c h = let g = given-method s r k c h in (method_rec_after s r g.rec, slice_get_within s.methods k g.rec g.there, g.is)
  own (place.DoIt n) c h = let g = given-doit s r n c h in (doit_rec_after s r g.rec, slice_get_within s.doits n g.rec g.there, g.is)

  abbrev after : Slots
  after = all_applied s (changes_at s r places)

  pub keeps : Keeps s after
  keeps = all-keep f (length s.methods) (length s.doits) own places s

  -- a place that gives no change
  silent : (q : Place) → f q ≡ None → get_at after q ≡ get_at s q
  silent q none = all-other f (length s.methods) (length s.doits) own q places s (λ p c there e same. by (sym none ∙ ap f (sym same) ∙ e))
    where
      by : {c : Change} → None ≡ Some c → ⊥
      by h = cc

  method-point : (k : ℕ) (m : MethodRec) → IsLive s.method_order k → slice_get s.methods k ≡ Some m → slice_get after.methods k ≡ Some (if entry_changes s r m then method_rec_after s r m else m)
  method-point k m l e = by (entry_changes s r m) (method-gives s r k m (live-there s r k m l e) (entry_changes s r m) refl)
    where
      by : (b : Bool) → f (place.Method k) ≡ (if b then Some (change.Method k (method_rec_after s r m)) else None) → slice_get after.methods k ≡ Some (if b then method_rec_after s r m else m)
      by true h =
          all-there f (length s.methods) (length s.doits) own (place.Method k) (method_rec_after s r m) h (slice_get_within s.methods k m e) places s refl refl (
          inl (listed (place.Method k) (change.Method k (method_rec_after s r m)) h))
      by false h = silent (place.Method k) h ∙ e

  doit-point : (n : ℕ) → slice_get after.doits n ≡ option_map (λ (d : DoIt). if doit_changes s r d then doit_rec_after s r d else d) (slice_get s.doits n)
  doit-point n = by (slice_get s.doits n) refl
    where
      given : (d : DoIt) → slice_get s.doits n ≡ Some d → (b : Bool) → f (place.DoIt n) ≡ (if b then Some (change.DoIt n (doit_rec_after s r d)) else None) → slice_get after.doits n ≡ Some (if b then doit_rec_after s r d else d)
      given d e true h =
          all-there f (length s.methods) (length s.doits) own (place.DoIt n) (doit_rec_after s r d) h (slice_get_within s.doits n d e) places s refl refl (
          inl (listed (place.DoIt n) (change.DoIt n (doit_rec_after s r d)) h))
      given d e false h = silent (place.DoIt n) h ∙ e

      by : (q : Option DoIt) → slice_get s.doits n ≡ q → slice_get after.doits n ≡ option_map (λ (d : DoIt). if doit_changes s r d then doit_rec_after s r d else d) q
      by None e = silent (place.DoIt n) (sym (no-doit_gives s r n e)) ∙ e
      by (Some d) e = given d e (doit_changes s r d) (doit-gives s r n d e (doit_changes s r d) refl)

  -- the slots after
  abbrev end : Slots
  end = record s { methods = after.methods; doits = after.doits }

  are : AreAfter s r after.methods after.doits
  are = record { method_slots = keeps.methods; methods = method-point; doits = doit-point }

  pub is-end : after ≡ end
  is-end = λ j. record {
    names = keeps.names j;
    classes = all-classes f (length s.methods) (length s.doits) own places s j;
    class_order = keeps.class_order j;
    methods = after.methods;
    method_order = keeps.method_order j;
    doits = after.doits;
    heads = keeps.heads j;
  }

  end-orderly : IsOrderly end
  end-orderly = orderly-is s o r after.methods after.doits are known

  pub remade-can : CanApplyAll s (changes_at s r places)
  remade-can = all-can f (length s.methods) (length s.doits) own places s refl refl

  pub remade-image : number_image after ≡ image_after s r
  remade-image = ap number_image is-end ∙ image-is s o r after.methods after.doits are

  pub remade-names : after.names ≡ s.names
  remade-names = keeps.names

  pub remade-orderly : IsOrderly after
  remade-orderly = subst IsOrderly (sym is-end) end-orderly

  code-fits : (p : Place) (c : Change) → f p ≡ Some c → FitsIn s c
  code-fits (place.Method k) c h =
      let g = given-method s r k c h in
      let m = method_rec_after s r g.rec in
      let at : slice_get after.methods k ≡ Some m = method-point k g.rec g.live g.there ∙ ap (λ (b : Bool). Some (if b then m else g.rec)) g.changes in
      let named = live-fact (EntryNames (λ n. n < length s.names)) (entry_of s.classes) after.methods s.method_order k m (end-orderly.names_known).methods g.live at in
      subst (FitsIn s) (sym g.is) (record { class = o.class_order.below m.class (end-orderly.method_classes_live k m g.live at); tree = named.tree })
  code-fits (place.DoIt n) c h =
      let g = given-doit s r n c h in
      let d = doit_rec_after s r g.rec in
      let at : slice_get after.doits n ≡ Some d = doit-point n ∙ ap (option_map (λ (q : DoIt). if doit_changes s r q then doit_rec_after s r q else q)) g.there ∙ ap (λ (b : Bool). Some (if b then d else g.rec)) g.changes in
      subst (FitsIn s) (sym g.is) (item-fact (DoItNames (λ m. m < length s.names)) doit_of after.doits n d (end-orderly.names_known).doits at)

  pub remade-fit : AllByRecursion (FitsIn s) (changes_at s r places)
  remade-fit = all-given (FitsIn s) f places (λ p c there e. code-fits p c e)

  -- only touched places mention other names
  touched-there : (ps : List Place) (p : Place) (c : Change) → Contains ps p → f p ≡ Some c → Contains (touched s r ps) p
  touched-there [] p c h e = absurd (none-there p h)
    where
      none-there : (q : Place) → Contains [] q → ⊥
      none-there q g = let lt = g.1 in omega arith
  touched-there (q ∷ ps) p c h e = by (is_some (f q)) refl (Contains-cases q p ps h) (λ g. touched-there ps p c g e)
    where
      by : (b : Bool) → is_some (f q) ≡ b → (q ≡ p) ⊎ Contains ps p → (Contains ps p → Contains (touched s r ps) p) → Contains (cond b (q ∷ touched s r ps) (touched s r ps)) p
      by true t (inl same) rest = Contains-first q p (touched s r ps) same
      by true t (inr g) rest = Contains-later q p (touched s r ps) (rest g)
      by false t (inl same) rest = absurd (true≢false (sym (ap is_some (ap f same ∙ e)) ∙ t))
      by false t (inr g) rest = rest g

  untouched : (q : Place) → ¬ Contains (touched s r places) q → get_at after q ≡ get_at s q
  untouched q not = all-other f (length s.methods) (length s.doits) own q places s (λ p c there e same. not (subst (Contains (touched s r places)) same (touched-there places p c there e)))

  pub remade-touched : DiffersAtMost s after (touched s r places)
  remade-touched p not = ap (λ (t : Slots). names_at t p) is-end ∙ by p (untouched p not)
    where
      by : (q : Place) → get_at after q ≡ get_at s q → names_at end q ≡ names_at s q
      by (place.Method k) e = ap (λ (m : Option MethodRec). option_map_or (λ (x : MethodRec). method_names (method_of x.tree)) (if list_any (nat_eq k) s.method_order then m else None) []) e
      by (place.DoIt n) e = ap (λ (m : Option DoIt). option_map_or (λ (d : DoIt). code_names (sequence_of d.body)) m []) e
