-- The classes of an image once the record of a class is renamed, or a variable in it.
use Rattle.std.proofs.Common.{◌≡◌, ◌⊎◌, inl, inr, ℕ, Bool, true, false, List, length, map, Option, None, Some, option_map, slice_get, refl, sym, ap, ◌∙◌, true≢false}
use Rattle.std.specs.Prelude.{if◌then◌else◌, nat_eq}
use Rattle.std.specs.Option.{option_and_then, option_map_or}
use Rattle.std.proofs.Math.ListN.{set}
use Rattle.std.proofs.Math.Dec.{eqb}
use Rattle.std.proofs.lemmas.Bool.Decides.{eqb_tells}
use Rattle.std.proofs.lemmas.Option.{slice_get_within}
use Rattle.std.proofs.lemmas.Simd.{map-map}
use Rattle.image_model.specs.Image.{ClassOf}
use Rattle.image_model.specs.Words.{number_words}
use Rattle.image_model.specs.Means.{VariableKind, of_instance, of_class_side, of_class, variables}
use Rattle.image_model.specs.Chain.{class_named}
use Rattle.class_table.specs.declared.record.ClassRec.{ClassRec}
use Rattle.class_table.specs.Slots.{Slots}
use Rattle.class_table.specs.Finding.{is_named, named_in}
use Rattle.class_table.specs.Valid.{IsLive, IsOrderly}
use Rattle.class_table.specs.View.{live, class_name, class_of, class_at, number_image}
use Rattle.class_table.proofs.OrderLemmas.{get-set_same, get-set_other, length-set}
use Rattle.class_table.proofs.Live.{eqb-refl, eqb-equal, there, find-passes, live-same}
use Rattle.class_table.proofs.Found.{class_named-named_in}
use Rattle.command_model.specs.Numbers.{number_writing}
use Rattle.rename_model.specs.ClassRenamed as class
use Rattle.rename_model.specs.VariableRenamed as variable
use Rattle.renamed_code.specs.Anew.{RenamedOf, of_a_class, of_a_variable, of_a_selector}
use Rattle.plan_laws.specs.Planned.{class_renamed_in, in_place, with_variable, class_rec_after}

-- one number in place of another
pub in_place-old : (old new n : ℕ) → old ≡ n → in_place old new n ≡ new
in_place-old old new n e = ap (λ b. if b then new else n) (ap (λ (m : ℕ). eqb m n) e ∙ eqb-refl n)

pub told_apart : (m n : ℕ) → (m ≡ n → ⊥) → eqb m n ≡ false
told_apart m n ne = by (eqb_tells m n)
  where
    by : ((eqb m n ≡ true) × (m ≡ n)) ⊎ ((eqb m n ≡ false) × (m ≡ n → ⊥)) → eqb m n ≡ false
    by (inl t) = absurd (ne t.1)
    by (inr t) = t.0

pub in_place-other : (old new n : ℕ) → (old ≡ n → ⊥) → in_place old new n ≡ n
in_place-other old new n ne = ap (λ b. if b then new else n) (told_apart old n ne)

-- the name of a class after
abbrev pub moved : RenamedOf ℕ → ℕ → Option ℕ → Option ℕ
moved (of_a_class c) to o = option_map (in_place c to) o
moved (of_a_variable kind c x) to o = o
moved (of_a_selector s) to o = o

-- what becomes of the record of any class
abbrev pub rec_moved : RenamedOf ℕ → ℕ → ClassRec → ClassRec
rec_moved (of_a_class c) to r = record r { name = in_place c to r.name }
rec_moved (of_a_variable kind c x) to r = if nat_eq c r.name then with_variable kind x to r else r
rec_moved (of_a_selector s) to r = r

-- the classes of the image after
abbrev pub classes_after : Slots → RenamedOf ℕ → ℕ → List (ClassOf ℕ) → List (ClassOf ℕ)
classes_after s (of_a_class c) to cs = map (class.class_after (number_words s.names) (number_writing s.names) (number_image s) c to) cs
classes_after s (of_a_variable kind c x) to cs = map (variable.class_after (number_words s.names) (number_writing s.names) (number_image s) kind c x to) cs
classes_after s (of_a_selector t) to cs = cs

-- each live class has the record that it has to have
pub record AreMoved (s : Slots) (what : RenamedOf ℕ) (to : ℕ) (cs : List ClassRec) : Type 0 where
  pub slots : length cs ≡ length s.classes
  pub recs : (k : ℕ) → IsLive s.class_order k → slice_get cs k ≡ option_map (rec_moved what to) (slice_get s.classes k)

module _ (kind : VariableKind) (x y : ℕ) where
  with-name : (r : ClassRec) → (with_variable kind x y r).name ≡ r.name
  with-name r = by kind
    where
      by : (k : VariableKind) → (with_variable k x y r).name ≡ r.name
      by of_instance = refl
      by of_class_side = refl
      by of_class = refl

  with-above : (r : ClassRec) → (with_variable kind x y r).superclass ≡ r.superclass
  with-above r = by kind
    where
      by : (k : VariableKind) → (with_variable k x y r).superclass ≡ r.superclass
      by of_instance = refl
      by of_class_side = refl
      by of_class = refl

-- the class above stays
pub moved-above : (what : RenamedOf ℕ) (to : ℕ) (r : ClassRec) → (rec_moved what to r).superclass ≡ r.superclass
moved-above (of_a_class c) to r = refl
moved-above (of_a_variable kind c x) to r = by (nat_eq c r.name)
  where
    by : (b : Bool) → (if b then with_variable kind x to r else r).superclass ≡ r.superclass
    by true = with-above kind x to r
    by false = refl
moved-above (of_a_selector s) to r = refl

moved-name : (what : RenamedOf ℕ) (to : ℕ) (r : ClassRec) → Some (rec_moved what to r).name ≡ moved what to (Some r.name)
moved-name (of_a_class c) to r = refl
moved-name (of_a_variable kind c x) to r = ap Some (by (nat_eq c r.name))
  where
    by : (b : Bool) → (if b then with_variable kind x to r else r).name ≡ r.name
    by true = with-name kind x to r
    by false = refl
moved-name (of_a_selector s) to r = refl

moved-none : (what : RenamedOf ℕ) (to : ℕ) → moved what to None ≡ None
moved-none (of_a_class c) to = refl
moved-none (of_a_variable kind c x) to = refl
moved-none (of_a_selector s) to = refl

module _ (s : Slots) (what : RenamedOf ℕ) (to : ℕ) (cs : List ClassRec) (are : AreMoved s what to cs) where
  -- the name of each live class
  pub name-moved : (k : ℕ) → IsLive s.class_order k → class_name cs k ≡ moved what to (class_name s.classes k)
  name-moved k l = ap (option_map (λ (r : ClassRec). r.name)) (are.recs k l) ∙ by (slice_get s.classes k)
    where
      by : (o : Option ClassRec) → option_map (λ (r : ClassRec). r.name) (option_map (rec_moved what to) o) ≡ moved what to (option_map (λ (r : ClassRec). r.name) o)
      by None = sym (moved-none what to)
      by (Some r) = moved-name what to r

  module _ (o : IsOrderly s) where
    -- the name of the class above
    above-moved : (k : ℕ) (r : ClassRec) → IsLive s.class_order k → slice_get s.classes k ≡ Some r → option_and_then (class_name cs) r.superclass ≡ moved what to (option_and_then (class_name s.classes) r.superclass)
    above-moved k r l e = by r.superclass (λ j h. o.superclasses_live j k r l e h)
      where
        by : (up : Option ℕ) → ((j : ℕ) → up ≡ Some j → IsLive s.class_order j) → option_and_then (class_name cs) up ≡ moved what to (option_and_then (class_name s.classes) up)
        by None h = sym (moved-none what to)
        by (Some j) h = name-moved j (h j refl)

-- the classes of the image are the ones after
module _ (s : Slots) (o : IsOrderly s) where
  abbrev class_h : ℕ → ℕ → ClassOf ℕ → ClassOf ℕ
  class_h c to = class.class_after (number_words s.names) (number_writing s.names) (number_image s) c to

  abbrev variable_h : VariableKind → ℕ → ℕ → ℕ → ClassOf ℕ → ClassOf ℕ
  variable_h kind c x to = variable.class_after (number_words s.names) (number_writing s.names) (number_image s) kind c x to

  pub classes-class : (c to : ℕ) (cs : List ClassRec) → AreMoved s (of_a_class c) to cs → map (class_of cs) (live cs s.class_order) ≡ classes_after s (of_a_class c) to (number_image s).classes
  classes-class c to cs are =
      live-same (class_of cs) (λ (r : ClassRec). class_h c to (class_of s.classes r)) cs s.classes s.class_order (λ k l. ap (option_map (class_of cs)) (are.recs k l) ∙ by k l (slice_get s.classes k) refl)
      ∙ sym (map-map (class_h c to) (class_of s.classes) (live s.classes s.class_order))
    where
      by : (k : ℕ) → IsLive s.class_order k → (p : Option ClassRec) → slice_get s.classes k ≡ p → option_map (class_of cs) (option_map (rec_moved (of_a_class c) to) p) ≡ option_map (λ (r : ClassRec). class_h c to (class_of s.classes r)) p
      by k l None e = refl
      by k l (Some r) e = λ i. Some (record {
        name = in_place c to r.name;
        superclass = above-moved s (of_a_class c) to cs are o k r l e i;
        instance = r.instance;
        shared = r.shared;
        class_side = r.class_side;
        category = r.category;
        comment = r.comment;
        kernel = r.kernel;
      })

  -- a class with the variables of a kind renamed
  with-class : (kind : VariableKind) (x y : ℕ) (cs : List ClassRec) (r : ClassRec) → option_and_then (class_name cs) r.superclass ≡ option_and_then (class_name s.classes) r.superclass
      → class_of cs (with_variable kind x y r) ≡ variable.with_variables kind (map (in_place x y) (variables kind (class_of s.classes r))) (class_of s.classes r)
  with-class of_instance x y cs r e = λ i. record { name = r.name; superclass = e i; instance = map (in_place x y) r.instance; shared = r.shared; class_side = r.class_side; category = r.category; comment = r.comment; kernel = r.kernel }
  with-class of_class_side x y cs r e = λ i. record { name = r.name; superclass = e i; instance = r.instance; shared = r.shared; class_side = map (in_place x y) r.class_side; category = r.category; comment = r.comment; kernel = r.kernel }
  with-class of_class x y cs r e = λ i. record { name = r.name; superclass = e i; instance = r.instance; shared = map (in_place x y) r.shared; class_side = r.class_side; category = r.category; comment = r.comment; kernel = r.kernel }

  pub classes-variable : (kind : VariableKind) (c x to : ℕ) (cs : List ClassRec) → AreMoved s (of_a_variable kind c x) to cs → map (class_of cs) (live cs s.class_order) ≡ classes_after s (of_a_variable kind c x) to (number_image s).classes
  classes-variable kind c x to cs are =
      live-same (class_of cs) (λ (r : ClassRec). variable_h kind c x to (class_of s.classes r)) cs s.classes s.class_order (λ k l. ap (option_map (class_of cs)) (are.recs k l) ∙ by k l (slice_get s.classes k) refl)
      ∙ sym (map-map (variable_h kind c x to) (class_of s.classes) (live s.classes s.class_order))
    where
      same : (r : ClassRec) → option_and_then (class_name cs) r.superclass ≡ option_and_then (class_name s.classes) r.superclass → class_of cs r ≡ class_of s.classes r
      same r e = λ i. record { name = r.name; superclass = e i; instance = r.instance; shared = r.shared; class_side = r.class_side; category = r.category; comment = r.comment; kernel = r.kernel }

      either : (r : ClassRec) (b : Bool) → option_and_then (class_name cs) r.superclass ≡ option_and_then (class_name s.classes) r.superclass
          → class_of cs (if b then with_variable kind x to r else r) ≡ (if b then variable.with_variables kind (map (in_place x to) (variables kind (class_of s.classes r))) (class_of s.classes r) else class_of s.classes r)
      either r true e = with-class kind x to cs r e
      either r false e = same r e

      by : (k : ℕ) → IsLive s.class_order k → (p : Option ClassRec) → slice_get s.classes k ≡ p → option_map (class_of cs) (option_map (rec_moved (of_a_variable kind c x) to) p) ≡ option_map (λ (r : ClassRec). variable_h kind c x to (class_of s.classes r)) p
      by k l None e = refl
      by k l (Some r) e = ap Some (either r (nat_eq c r.name) (above-moved s (of_a_variable kind c x) to cs are o k r l e))

  pub classes-selector : (t to : ℕ) (cs : List ClassRec) → AreMoved s (of_a_selector t) to cs → map (class_of cs) (live cs s.class_order) ≡ classes_after s (of_a_selector t) to (number_image s).classes
  classes-selector t to cs are =
      live-same (class_of cs) (class_of s.classes) cs s.classes s.class_order (λ k l. ap (option_map (class_of cs)) (are.recs k l) ∙ by k l (slice_get s.classes k) refl)
    where
      by : (k : ℕ) → IsLive s.class_order k → (p : Option ClassRec) → slice_get s.classes k ≡ p → option_map (class_of cs) (option_map (rec_moved (of_a_selector t) to) p) ≡ option_map (class_of s.classes) p
      by k l None e = refl
      by k l (Some r) e = λ i. Some (record {
        name = r.name;
        superclass = above-moved s (of_a_selector t) to cs are o k r l e i;
        instance = r.instance;
        shared = r.shared;
        class_side = r.class_side;
        category = r.category;
        comment = r.comment;
        kernel = r.kernel;
      })

-- where one record is written, in the slot of the class of that name
module _ (s : Slots) (o : IsOrderly s) (what : RenamedOf ℕ) (to c k : ℕ) (is : class_renamed_in what ≡ Some c) (r : ClassRec) (l : IsLive s.class_order k) (e : slice_get s.classes k ≡ Some r) (named : c ≡ r.name) where
  other : (q : ClassRec) → (c ≡ q.name → ⊥) → rec_moved what to q ≡ q
  other q ne = by what is
    where
      by : (w : RenamedOf ℕ) → class_renamed_in w ≡ Some c → rec_moved w to q ≡ q
      by (of_a_class d) i = let same : d ≡ c = cc in ap (λ (n : ℕ). record q { name = n }) (in_place-other d to q.name (λ h. ne (sym same ∙ h)))
      by (of_a_variable kind d x) i = let same : d ≡ c = cc in ap (λ b. if b then with_variable kind x to q else q) (told_apart d q.name (λ h. ne (sym same ∙ h)))
      by (of_a_selector t) i = refl

  this : rec_moved what to r ≡ class_rec_after what to r
  this = by what is
    where
      by : (w : RenamedOf ℕ) → class_renamed_in w ≡ Some c → rec_moved w to r ≡ class_rec_after w to r
      by (of_a_class d) i = let same : d ≡ c = cc in ap (λ (n : ℕ). record r { name = n }) (in_place-old d to r.name (same ∙ named))
      by (of_a_variable kind d x) i =
          let same : d ≡ c = cc in ap (λ b. if b then with_variable kind x to r else r) (ap (λ (m : ℕ). eqb m r.name) (same ∙ named) ∙ eqb-refl r.name)
      by (of_a_selector t) i = refl

  pub moved-set : AreMoved s what to (set s.classes k (class_rec_after what to r))
  moved-set = record {
    slots = length-set s.classes k (class_rec_after what to r);
    recs = λ j m. by j m (eqb_tells k j);
  }
    where
      by : (j : ℕ) → IsLive s.class_order j → ((eqb k j ≡ true) × (k ≡ j)) ⊎ ((eqb k j ≡ false) × (k ≡ j → ⊥)) → slice_get (set s.classes k (class_rec_after what to r)) j ≡ option_map (rec_moved what to) (slice_get s.classes j)
      by j m (inl t) =
          ap (slice_get (set s.classes k (class_rec_after what to r))) (sym t.1) ∙ get-set_same s.classes k (class_rec_after what to r) (slice_get_within s.classes k r e)
          ∙ ap Some (sym this) ∙ sym (ap (option_map (rec_moved what to)) e) ∙ ap (λ (i : ℕ). option_map (rec_moved what to) (slice_get s.classes i)) t.1
      by j m (inr t) =
          let at = there s.classes j (o.class_order.below j m) in
          get-set_other s.classes k j (class_rec_after what to r) t.1 ∙ at.1 ∙ ap Some (sym (other at.0 (apart at.0 at.1))) ∙ sym (ap (option_map (rec_moved what to)) at.1)
        where
          apart : (q : ClassRec) → slice_get s.classes j ≡ Some q → c ≡ q.name → ⊥
          apart q f h =
              t.1 (o.class_names_distinct k j c l m (ap (option_map (λ (d : ClassRec). d.name)) e ∙ ap Some (sym named)) (ap (option_map (λ (d : ClassRec). d.name)) f ∙ ap Some (sym h)))

-- where no record is written
pub moved-none_written : (s : Slots) (t to : ℕ) → AreMoved s (of_a_selector t) to s.classes
moved-none_written s t to = record { slots = refl; recs = λ k l. by (slice_get s.classes k) }
  where
    by : (p : Option ClassRec) → p ≡ option_map (rec_moved (of_a_selector t) to) p
    by None = refl
    by (Some r) = refl

-- the slot of a class that is in the image
pub record IsSlotOf (s : Slots) (c : ℕ) : Type 0 where
  pub slot : ℕ
  pub rec : ClassRec
  pub found : named_in s.classes s.class_order c ≡ Some slot
  pub there : slice_get s.classes slot ≡ Some rec
  pub live : IsLive s.class_order slot
  pub named : c ≡ rec.name

pub slot-of : (s : Slots) (c : ℕ) (test : ClassOf ℕ → Bool) → option_map_or test (class_named nat_eq (number_image s).classes c) false ≡ true → IsSlotOf s c
slot-of s c test h = first (named_in s.classes s.class_order c) refl (ap (λ (o : Option (ClassOf ℕ)). option_map_or test o false) (sym (class_named-named_in s c)) ∙ h)
  where
    first : (p : Option ℕ) → named_in s.classes s.class_order c ≡ p → option_map_or test (option_and_then (class_at s) p) false ≡ true → IsSlotOf s c
    first None e g = absurd (true≢false (sym g))
    first (Some k) e g = second (slice_get s.classes k) refl (find-passes (is_named s.classes c) s.class_order k e)
      where
        second : (q : Option ClassRec) → slice_get s.classes k ≡ q → (is_named s.classes c k ≡ true) × IsLive s.class_order k → IsSlotOf s c
        second None f passes = absurd (true≢false (sym passes.0 ∙ ap (λ (o : Option ClassRec). option_map_or (nat_eq c) (option_map (λ (d : ClassRec). d.name) o) false) f))
        second (Some r) f passes = record {
          slot = k;
          rec = r;
          found = e;
          there = f;
          live = passes.1;
          named = eqb-equal c r.name (sym (ap (λ (o : Option ClassRec). option_map_or (nat_eq c) (option_map (λ (d : ClassRec). d.name) o) false) f) ∙ passes.0);
        }
