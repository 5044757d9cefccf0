-- The image of slots in which classes, methods and do-its are those after a renaming.
use Rattle.std.proofs.Common.{◌≡◌, ◌⊎◌, inl, inr, ℕ, zero, suc, ◌<◌, Bool, true, false, List, [], ◌∷◌, length, map, Option, None, Some, option_map, slice_get, refl, sym, ap, subst, ◌∙◌, true≢false}
use Rattle.std.specs.Prelude.{if◌then◌else◌, nat_eq, ◌||◌}
use Rattle.std.specs.List.{list_any, AllByRecursion}
use Rattle.std.proofs.Math.Dec.{eqb}
use Rattle.std.proofs.lemmas.Bool.{or_parts, not-true}
use Rattle.std.proofs.lemmas.Bool.Decides.{eqb_tells}
use Rattle.std.proofs.lemmas.Simd.{map-map}
use Rattle.image_model.specs.Image.{ClassOf, EntryOf, DoItOf, ImageOf}
use Rattle.image_model.specs.ImageNames.{ImageNames}
use Rattle.image_model.specs.Means.{VariableKind, of_instance, of_class_side, of_class}
use Rattle.class_table.specs.declared.record.ClassRec.{ClassRec}
use Rattle.class_table.specs.declared.record.MethodRec.{MethodRec}
use Rattle.class_table.specs.declared.record.DoIt.{DoIt}
use Rattle.class_table.specs.Slots.{Slots}
use Rattle.class_table.specs.Valid.{IsLive, IsOrderly}
use Rattle.class_table.specs.View.{live, class_name, class_of, entry_of, doit_of, number_image}
use Rattle.class_table.proofs.Live.{there, live-same, live-fact}
use Rattle.rename_model.specs.NamesThere.{is_named_by_class, is_named_in_method, is_named_in, is_named}
use Rattle.rename_model.specs.Conditions.{is_name_unused}
use Rattle.command_model.specs.Commands.{MovesNoCode}
use Rattle.command_model.specs.Effects.{effect}
use Rattle.command_model.specs.Numbers.{number_writing}
use Rattle.commands.specs.Views.{asked_by, renames_variable}
use Rattle.rename_model.specs.VariableRenamed.{variable_renamed}
use Rattle.renamed_code.specs.Anew.{RenamedOf, of_a_class, of_a_variable, of_a_selector, entry_after, doit_after}
use Rattle.renamed_code.specs.ChangedCode.{method_rec_after, doit_rec_after}
use Rattle.plan_laws.specs.Planned.{renaming, in_place}
use Rattle.plan_laws.proofs.Classes.{AreMoved, moved, moved-above, rec_moved, name-moved, in_place-old, in_place-other, classes_after, classes-class, classes-variable, classes-selector}
use Rattle.plan_laws.proofs.CodeAfter.{w, writing, entry_changes, doit_changes, entry-same, entry-changed, doit-same, doit-changed}

-- each live method and each do-it is the one after
pub record AreAfter (s : Slots) (what : RenamedOf ℕ) (to : ℕ) (cs : List ClassRec) (ms : List MethodRec) (ds : List DoIt) : Type 0 where
  pub classes : AreMoved s what to cs
  pub method_slots : length ms ≡ length s.methods
  pub methods : (k : ℕ) (r : MethodRec) → IsLive s.method_order k → slice_get s.methods k ≡ Some r → slice_get ms k ≡ Some (if entry_changes s to what r then method_rec_after s what to r else r)
  pub doits : (n : ℕ) → slice_get ds n ≡ option_map (λ (d : DoIt). if doit_changes s to what d then doit_rec_after s what to d else d) (slice_get s.doits n)

-- the image after
abbrev pub image_after : Slots → RenamedOf ℕ → ℕ → ImageOf ℕ
image_after s what to = record {
  classes = classes_after s what to (number_image s).classes;
  methods = map (entry_after (w s to) (writing s to) (number_image s) to what) (number_image s).methods;
  doits = map (doit_after (w s to) (writing s to) (number_image s) to what) (number_image s).doits;
  heads = s.heads;
}

pub is-effect : (s : Slots) (what : RenamedOf ℕ) (to : ℕ) → effect (asked_by s.names) (number_writing s.names) (renaming what to) (number_image s) ≡ image_after s what to
is-effect s (of_a_class c) to = refl
is-effect s (of_a_variable kind c x) to = by kind
  where
    by : (k : VariableKind) → effect (asked_by s.names) (number_writing s.names) (renames_variable k c x to) (number_image s) ≡ variable_renamed (w s to) (writing s to) (number_image s) k c x to
    by of_instance = refl
    by of_class_side = refl
    by of_class = refl
is-effect s (of_a_selector t) to = refl

pub shape-kept : (what : RenamedOf ℕ) (to : ℕ) → MovesNoCode (renaming what to)
shape-kept (of_a_class c) to = tt
shape-kept (of_a_variable kind c x) to = by kind
  where
    by : (k : VariableKind) → MovesNoCode (renames_variable k c x to)
    by of_instance = tt
    by of_class_side = tt
    by of_class = tt
shape-kept (of_a_selector t) to = tt

-- lists that read the same at each place
same-lists : {X Y Z : Type 0} (g : X → Z) (h : Y → Z) (xs : List X) (ys : List Y) → ((k : ℕ) → option_map g (slice_get xs k) ≡ option_map h (slice_get ys k)) → map g xs ≡ map h ys
same-lists g h [] [] same = refl
same-lists g h [] (y ∷ ys) same = absurd (let bad : None ≡ Some (h y) = same zero in cc)
same-lists g h (x ∷ xs) [] same = absurd (let bad : Some (g x) ≡ None = same zero in cc)
same-lists g h (x ∷ xs) (y ∷ ys) same =
    let first : Some (g x) ≡ Some (h y) = same zero in
    let one : g x ≡ h y = cc in
    let rest = same-lists g h xs ys (λ k. same (suc k)) in
    λ i. one i ∷ rest i

-- a test that no item passes
pub none-pass : {X : Type 0} (f : X → Bool) (xs : List X) → list_any f xs ≡ false → AllByRecursion (λ x. f x ≡ false) xs
none-pass f [] h = tt
none-pass f (x ∷ xs) h = let both = or_parts (f x) (list_any f xs) h in (both.0, none-pass f xs both.1)

-- where the new name of a class is unused, no class has it
pub no-class-named : (s : Slots) (n : ℕ) → is_name_unused nat_eq (number_image s) n ≡ true → (k : ℕ) (r : ClassRec) → IsLive s.class_order k → slice_get s.classes k ≡ Some r → n ≡ r.name → ⊥
no-class-named s n unused k r l e same =
    let i = number_image s in
    let none = or_parts (list_any (is_named_by_class nat_eq n) i.classes) (list_any (is_named_in_method nat_eq n) i.methods || list_any (λ (d : DoItOf ℕ). is_named_in nat_eq n d.body) i.doits) (not-true (is_named nat_eq i n) unused) in
    let fails = live-fact (λ (c : ClassOf ℕ). is_named_by_class nat_eq n c ≡ false) (class_of s.classes) s.classes s.class_order k r (none-pass (is_named_by_class nat_eq n) i.classes none.0) l e in
    let apart = or_parts (nat_eq n r.name) (list_any (nat_eq n) r.instance || (list_any (nat_eq n) r.shared || list_any (nat_eq n) r.class_side)) fails in
    differ n r.name apart.0 same
  where
    differ : (m q : ℕ) → nat_eq m q ≡ false → m ≡ q → ⊥
    differ m q f h = by (eqb_tells m q)
      where
        by : ((eqb m q ≡ true) × (m ≡ q)) ⊎ ((eqb m q ≡ false) × (m ≡ q → ⊥)) → ⊥
        by (inl t) = true≢false (sym t.0 ∙ f)
        by (inr t) = t.1 h

-- the new name is no class's, if it is that of a class
abbrev pub IsFree : Slots → RenamedOf ℕ → ℕ → Type 0
IsFree s (of_a_class c) to = (k : ℕ) (r : ClassRec) → IsLive s.class_order k → slice_get s.classes k ≡ Some r → to ≡ r.name → ⊥
IsFree s (of_a_variable kind c x) to = Unit {0}
IsFree s (of_a_selector t) to = Unit {0}

module _ (s : Slots) (o : IsOrderly s) (what : RenamedOf ℕ) (to : ℕ) (cs : List ClassRec) (ms : List MethodRec) (ds : List DoIt) (are : AreAfter s what to cs ms ds) where
  abbrev pub t : Slots
  t = record s { classes = cs; methods = ms; doits = ds }

  classes-are : map (class_of cs) (live cs s.class_order) ≡ classes_after s what to (number_image s).classes
  classes-are = by what are.classes
    where
      by : (x : RenamedOf ℕ) → AreMoved s x to cs → map (class_of cs) (live cs s.class_order) ≡ classes_after s x to (number_image s).classes
      by (of_a_class c) a = classes-class s o c to cs a
      by (of_a_variable kind c x) a = classes-variable s o kind c x to cs a
      by (of_a_selector u) a = classes-selector s o u to cs a

  abbrev entry : EntryOf ℕ → EntryOf ℕ
  entry = entry_after (w s to) (writing s to) (number_image s) to what

  entry-is : (r : MethodRec) (b : Bool) → entry_changes s to what r ≡ b → class_name cs r.class ≡ moved what to (class_name s.classes r.class)
      → entry_of cs (if b then method_rec_after s what to r else r) ≡ entry (entry_of s.classes r)
  entry-is r true q e = entry-changed s to what cs r e
  entry-is r false q e = (λ j. record (entry_of cs r) { class = e j }) ∙ sym (entry-same s to what (entry_of s.classes r) q)

  methods-are : map (entry_of cs) (live ms s.method_order) ≡ map entry (number_image s).methods
  methods-are =
      live-same (entry_of cs) (λ (r : MethodRec). entry (entry_of s.classes r)) ms s.methods s.method_order at
      ∙ sym (map-map entry (entry_of s.classes) (live s.methods s.method_order))
    where
      at : (k : ℕ) → IsLive s.method_order k → option_map (entry_of cs) (slice_get ms k) ≡ option_map (λ (r : MethodRec). entry (entry_of s.classes r)) (slice_get s.methods k)
      at k l =
          let r = there s.methods k (o.method_order.below k l) in
          ap (option_map (entry_of cs)) (are.methods k r.0 l r.1)
          ∙ ap Some (entry-is r.0 (entry_changes s to what r.0) refl (name-moved s what to cs are.classes (r.0).class (o.method_classes_live k r.0 l r.1)))
          ∙ sym (ap (option_map (λ (q : MethodRec). entry (entry_of s.classes q))) r.1)

  abbrev doit : DoItOf ℕ → DoItOf ℕ
  doit = doit_after (w s to) (writing s to) (number_image s) to what

  doit-is : (d : DoIt) (b : Bool) → doit_changes s to what d ≡ b → doit_of (if b then doit_rec_after s what to d else d) ≡ doit (doit_of d)
  doit-is d true q = doit-changed s to what d
  doit-is d false q = sym (doit-same s to what (doit_of d) q)

  doits-are : map doit_of ds ≡ map doit (number_image s).doits
  doits-are =
      same-lists doit_of (λ (d : DoIt). doit (doit_of d)) ds s.doits (λ n. ap (option_map doit_of) (are.doits n) ∙ at (slice_get s.doits n))
      ∙ sym (map-map doit doit_of s.doits)
    where
      at : (p : Option DoIt) → option_map doit_of (option_map (λ (d : DoIt). if doit_changes s to what d then doit_rec_after s what to d else d) p) ≡ option_map (λ (d : DoIt). doit (doit_of d)) p
      at None = refl
      at (Some d) = ap Some (doit-is d (doit_changes s to what d) refl)

  -- the image is what the command makes of the one before
  pub image-is : number_image t ≡ effect (asked_by s.names) (number_writing s.names) (renaming what to) (number_image s)
  image-is = (λ j. record { classes = classes-are j; methods = methods-are j; doits = doits-are j; heads = s.heads }) ∙ sym (is-effect s what to)

  -- the slots are orderly
  module _ (known : ImageNames (λ n. n < length s.names) (effect (asked_by s.names) (number_writing s.names) (renaming what to) (number_image s))) (free : IsFree s what to) where
    some-same : {x y : ℕ} → Some x ≡ Some y → x ≡ y
    some-same h = cc

    distinct : (j k n : ℕ) → IsLive s.class_order j → IsLive s.class_order k → class_name cs j ≡ Some n → class_name cs k ≡ Some n → j ≡ k
    distinct j k n l m e f =
        by what are.classes free (there s.classes j (o.class_order.below j l)) (there s.classes k (o.class_order.below k m)) (sym (name-moved s what to cs are.classes j l) ∙ e) (sym (name-moved s what to cs are.classes k m) ∙ f)
      where
        name_of : (q : ℕ) (r : ClassRec) → slice_get s.classes q ≡ Some r → class_name s.classes q ≡ Some r.name
        name_of q r g = ap (option_map (λ (d : ClassRec). d.name)) g

        one : (p r : ClassRec) → slice_get s.classes j ≡ Some p → slice_get s.classes k ≡ Some r → p.name ≡ r.name → j ≡ k
        one p r g h same = o.class_names_distinct j k r.name l m (name_of j p g ∙ ap Some same) (name_of k r h)

        either : (c : ℕ) (p r : ClassRec) → slice_get s.classes j ≡ Some p → slice_get s.classes k ≡ Some r → IsFree s (of_a_class c) to → in_place c to p.name ≡ in_place c to r.name
            → ((eqb c p.name ≡ true) × (c ≡ p.name)) ⊎ ((eqb c p.name ≡ false) × (c ≡ p.name → ⊥)) → ((eqb c r.name ≡ true) × (c ≡ r.name)) ⊎ ((eqb c r.name ≡ false) × (c ≡ r.name → ⊥)) → j ≡ k
        either c p r g h new same (inl a) (inl b) = one p r g h (sym a.1 ∙ b.1)
        either c p r g h new same (inl a) (inr b) = absurd (new k r m h (sym (in_place-old c to p.name a.1) ∙ same ∙ in_place-other c to r.name b.1))
        either c p r g h new same (inr a) (inl b) = absurd (new j p l g (sym (in_place-old c to r.name b.1) ∙ sym same ∙ in_place-other c to p.name a.1))
        either c p r g h new same (inr a) (inr b) = one p r g h (sym (in_place-other c to p.name a.1) ∙ same ∙ in_place-other c to r.name b.1)

        by : (x : RenamedOf ℕ) → AreMoved s x to cs → IsFree s x to → (p : (r : ClassRec) × (slice_get s.classes j ≡ Some r)) → (q : (r : ClassRec) × (slice_get s.classes k ≡ Some r))
            → moved x to (class_name s.classes j) ≡ Some n → moved x to (class_name s.classes k) ≡ Some n → j ≡ k
        by (of_a_class c) a new p q g h =
            let x : Some (in_place c to (p.0).name) ≡ Some n = sym (ap (option_map (in_place c to)) (name_of j p.0 p.1)) ∙ g in
            let y : Some (in_place c to (q.0).name) ≡ Some n = sym (ap (option_map (in_place c to)) (name_of k q.0 q.1)) ∙ h in
            either c p.0 q.0 p.1 q.1 new (some-same (x ∙ sym y)) (eqb_tells c (p.0).name) (eqb_tells c (q.0).name)
        by (of_a_variable kind c x) a new p q g h = o.class_names_distinct j k n l m g h
        by (of_a_selector u) a new p q g h = o.class_names_distinct j k n l m g h

    above : (j k : ℕ) (c : ClassRec) → IsLive s.class_order k → slice_get cs k ≡ Some c → c.superclass ≡ Some j → IsLive s.class_order j
    above j k c l e up =
        let r = there s.classes k (o.class_order.below k l) in
        let same : Some c ≡ Some (rec_moved what to r.0) = sym e ∙ are.classes.recs k l ∙ ap (option_map (rec_moved what to)) r.1 in
        let is : c ≡ rec_moved what to r.0 = cc in
        o.superclasses_live j k r.0 l r.1 (sym (moved-above what to r.0) ∙ sym (ap (λ (d : ClassRec). d.superclass) is) ∙ up)

    home : (k : ℕ) (m : MethodRec) → IsLive s.method_order k → slice_get ms k ≡ Some m → IsLive s.class_order m.class
    home k m l e =
        let r = there s.methods k (o.method_order.below k l) in
        let same : Some m ≡ Some (if entry_changes s to what r.0 then method_rec_after s what to r.0 else r.0) = sym e ∙ are.methods k r.0 l r.1 in
        let is : m ≡ (if entry_changes s to what r.0 then method_rec_after s what to r.0 else r.0) = cc in
        subst (IsLive s.class_order) (sym (ap (λ (x : MethodRec). x.class) is ∙ by r.0 (entry_changes s to what r.0))) (o.method_classes_live k r.0 l r.1)
      where
        by : (r : MethodRec) (b : Bool) → (if b then method_rec_after s what to r else r).class ≡ r.class
        by r true = refl
        by r false = refl

    pub orderly-is : IsOrderly t
    orderly-is = record {
      names_distinct = o.names_distinct;
      names_known = subst (λ (x : ImageOf ℕ). ImageNames (λ n. n < length s.names) x) (sym image-is) known;
      class_order = record { distinct = o.class_order.distinct; below = λ k l. subst (λ (n : ℕ). k < n) (sym are.classes.slots) (o.class_order.below k l) };
      method_order = record { distinct = o.method_order.distinct; below = λ k l. subst (λ (n : ℕ). k < n) (sym are.method_slots) (o.method_order.below k l) };
      class_names_distinct = distinct;
      superclasses_live = above;
      method_classes_live = home;
    }
