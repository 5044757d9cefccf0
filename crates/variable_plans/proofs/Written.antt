-- Slots of orderly images in which live classes get other records, each with the name and the superclass that it had.
use Rattle.std.proofs.Common.{◌≡◌, ◌⊎◌, inl, inr, ℕ, ◌+◌, ◌<◌, ◌||◌, Bool, true, false, List, [], ◌∷◌, ◌++◌, length, take, get_or, map, Option, None, Some, option_map, unwrap_or, slice_get, refl, sym, ap, subst, ◌∙◌}
use Rattle.std.specs.Prelude.{if◌then◌else◌, nat_eq}
use Rattle.std.specs.List.{list_any, AllByRecursion, cons_option}
use Rattle.std.specs.Option.{option_and_then, option_or}
use Rattle.std.proofs.Math.Dec.{eqb}
use Rattle.std.proofs.lemmas.Bool.Decides.{eqb_tells}
use Rattle.std.proofs.lemmas.List.{take_more}
use Rattle.std.proofs.lemmas.List.Elements.{filter_map-append}
use Rattle.std.proofs.lemmas.Option.{slice_get_within}
use Rattle.std.proofs.lemmas.Simd.{map-map}
use Rattle.image_model.specs.Image.{ClassOf}
use Rattle.image_model.specs.ImageNames.{OptionNames, ClassNames, ImageNames}
use Rattle.class_table.specs.declared.record.ClassRec.{ClassRec}
use Rattle.class_table.specs.declared.record.MethodRec.{MethodRec}
use Rattle.class_table.specs.declared.record.Place.{Place}
use Rattle.class_table.specs.declared.record.Place.TheVariants as place
use Rattle.class_table.specs.Slots.{Slots}
use Rattle.class_table.specs.Valid.{IsLive, IsOrderly}
use Rattle.class_table.specs.View.{live, class_name, class_of, entry_of, number_image}
use Rattle.class_table.proofs.OrderLemmas.{get-set_same, get-set_other, length-set}
use Rattle.class_table.proofs.Live.{IsLive-first, IsLive-rest, there, live-same, live-fact}
use Rattle.change_set.specs.declared.change.Change.{Change}
use Rattle.change_set.specs.declared.change.Change.TheVariants as change
use Rattle.change_set.specs.Change.{applied}
use Rattle.change_set.specs.Changes.{all_applied, CanApplyAll}
use Rattle.wider_slots.specs.Closed.{FitsIn}
use Rattle.reference_index.specs.Mentioned.{DiffersAtMost, names_at}
use Rattle.variable_plans.specs.Written.{class_written, classes_written}

module _ (given : ℕ → Option ClassRec) where
  -- the classes after these slots are written
  abbrev pub after : Slots → List ℕ → List ClassRec
  after t ks = (all_applied t (classes_written given ks)).classes

  -- nothing but the classes changes
  pub only-classes : (ks : List ℕ) (t : Slots) → all_applied t (classes_written given ks) ≡ record t { classes = after t ks }
  only-classes [] t = refl
  only-classes (k ∷ ks) t = by (given k) (only-classes ks)
    where
      by : (o : Option ClassRec) → ((u : Slots) → all_applied u (classes_written given ks) ≡ record u { classes = after u ks })
          → all_applied t (cons_option (option_map (change.Class k) o) (classes_written given ks)) ≡ record t { classes = (all_applied t (cons_option (option_map (change.Class k) o) (classes_written given ks))).classes }
      by None rest = rest t
      by (Some r) rest = rest (applied t (change.Class k r))

  -- there are as many slots
  pub as-many : (ks : List ℕ) (t : Slots) → length (after t ks) ≡ length t.classes
  as-many [] t = refl
  as-many (k ∷ ks) t = by (given k) (as-many ks)
    where
      by : (o : Option ClassRec) → ((u : Slots) → length (after u ks) ≡ length u.classes) → length (all_applied t (cons_option (option_map (change.Class k) o) (classes_written given ks))).classes ≡ length t.classes
      by None rest = rest t
      by (Some r) rest = rest (applied t (change.Class k r)) ∙ length-set t.classes k r

  -- what a slot holds
  pub read-after : (ks : List ℕ) (t : Slots) (j : ℕ) → j < length t.classes
      → slice_get (after t ks) j ≡ (if list_any (nat_eq j) ks then option_or (given j) (slice_get t.classes j) else slice_get t.classes j)
  read-after [] t j lt = refl
  read-after (k ∷ ks) t j lt = by (eqb_tells j k) (given k) refl (read-after ks)
    where
      twice : (o p : Option ClassRec) → option_or o (option_or o p) ≡ option_or o p
      twice None p = refl
      twice (Some r) p = refl

      both : (b : Bool) (o p : Option ClassRec) → (if b then option_or o (option_or o p) else option_or o p) ≡ option_or o p
      both true o p = twice o p
      both false o p = refl

      written : (o : Option ClassRec) → Slots
      written o = all_applied t (cons_option (option_map (change.Class k) o) [])

      by : ((eqb j k ≡ true) × (j ≡ k)) ⊎ ((eqb j k ≡ false) × (j ≡ k → ⊥)) → (o : Option ClassRec) → given k ≡ o
          → ((u : Slots) (i : ℕ) → i < length u.classes → slice_get (after u ks) i ≡ (if list_any (nat_eq i) ks then option_or (given i) (slice_get u.classes i) else slice_get u.classes i))
          → slice_get (all_applied t (cons_option (option_map (change.Class k) o) (classes_written given ks))).classes j
          ≡ (if eqb j k || list_any (nat_eq j) ks then option_or (given j) (slice_get t.classes j) else slice_get t.classes j)
      by (inl s) None e rest =
          let none : given j ≡ None = ap given s.1 ∙ e in
          rest t j lt
          ∙ (λ i. if list_any (nat_eq j) ks then option_or (none i) (slice_get t.classes j) else slice_get t.classes j)
          ∙ both (list_any (nat_eq j) ks) None (slice_get t.classes j)
          ∙ (λ i. option_or (sym none i) (slice_get t.classes j))
          ∙ sym (ap (λ b. if b || list_any (nat_eq j) ks then option_or (given j) (slice_get t.classes j) else slice_get t.classes j) s.0)
      by (inl s) (Some r) e rest =
          let some : given j ≡ Some r = ap given s.1 ∙ e in
          let u = applied t (change.Class k r) in
          let within : k < length t.classes = subst (λ (i : ℕ). i < length t.classes) s.1 lt in
          let held : slice_get u.classes j ≡ option_or (Some r) (slice_get t.classes j) = ap (slice_get u.classes) s.1 ∙ get-set_same t.classes k r within in
          rest u j (subst (λ (n : ℕ). j < n) (sym (length-set t.classes k r)) lt)
          ∙ (λ i. if list_any (nat_eq j) ks then option_or (some i) (held i) else held i)
          ∙ both (list_any (nat_eq j) ks) (Some r) (slice_get t.classes j)
          ∙ (λ i. option_or (sym some i) (slice_get t.classes j))
          ∙ sym (ap (λ b. if b || list_any (nat_eq j) ks then option_or (given j) (slice_get t.classes j) else slice_get t.classes j) s.0)
      by (inr s) None e rest =
          rest t j lt ∙ sym (ap (λ b. if b || list_any (nat_eq j) ks then option_or (given j) (slice_get t.classes j) else slice_get t.classes j) s.0)
      by (inr s) (Some r) e rest =
          let u = applied t (change.Class k r) in
          rest u j (subst (λ (n : ℕ). j < n) (sym (length-set t.classes k r)) lt)
          ∙ ap (λ (p : Option ClassRec). if list_any (nat_eq j) ks then option_or (given j) p else p) (get-set_other t.classes k j r (λ h. s.1 (sym h)))
          ∙ sym (ap (λ b. if b || list_any (nat_eq j) ks then option_or (given j) (slice_get t.classes j) else slice_get t.classes j) s.0)

  -- each change can be applied at its turn
  pub can-write : (ks : List ℕ) (t : Slots) → ((k : ℕ) → IsLive ks k → k < length t.classes) → CanApplyAll t (classes_written given ks)
  can-write [] t within = tt
  can-write (k ∷ ks) t within = by (given k) (λ u same. can-write ks u (λ j l. subst (λ (n : ℕ). j < n) (sym same) (within j (IsLive-rest j k ks l))))
    where
      by : (o : Option ClassRec) → ((u : Slots) → length u.classes ≡ length t.classes → CanApplyAll u (classes_written given ks)) → CanApplyAll t (cons_option (option_map (change.Class k) o) (classes_written given ks))
      by None rest = rest t refl
      by (Some r) rest = (within k (IsLive-first k ks), rest (applied t (change.Class k r)) (length-set t.classes k r))

  -- a fact of each change
  pub each-written : (P : Change → Type 0) (ks : List ℕ) → ((k : ℕ) (r : ClassRec) → IsLive ks k → given k ≡ Some r → P (change.Class k r)) → AllByRecursion P (classes_written given ks)
  each-written P [] h = tt
  each-written P (k ∷ ks) h = by (given k) refl (each-written P ks (λ j r l. h j r (IsLive-rest j k ks l)))
    where
      by : (o : Option ClassRec) → given k ≡ o → AllByRecursion P (classes_written given ks) → AllByRecursion P (cons_option (option_map (change.Class k) o) (classes_written given ks))
      by None e rest = rest
      by (Some r) e rest = (h k r (IsLive-first k ks) e, rest)

-- the changes of one more slot
pub one-more : (given : ℕ → Option ClassRec) (ks : List ℕ) (i k : ℕ) (o : Option ClassRec) (before now : List Change) → i < length ks → k ≡ get_or ks i k → o ≡ given k
    → before ≡ classes_written given (take i ks) → now ≡ before ++ cons_option (option_map (change.Class k) o) [] → now ≡ classes_written given (take (i + 1) ks)
one-more given ks i k o before now lt is found so put =
    put ∙ (λ j. so j ++ cons_option (option_map (change.Class k) (found j)) [])
    ∙ sym (ap (classes_written given) (take_more ks i k lt ∙ ap (λ (n : ℕ). take i ks ++ n ∷ []) (sym is)) ∙ filter_map-append (class_written given) (take i ks) (k ∷ []))

-- the record that a live class gets has its name and its superclass
pub record KeepsPlaces (s : Slots) (given : ℕ → Option ClassRec) : Type 0 where
  pub name : (k : ℕ) (r : ClassRec) → IsLive s.class_order k → slice_get s.classes k ≡ Some r → (unwrap_or (given k) r).name ≡ r.name
  pub superclass : (k : ℕ) (r : ClassRec) → IsLive s.class_order k → slice_get s.classes k ≡ Some r → (unwrap_or (given k) r).superclass ≡ r.superclass

-- the class of each live slot becomes what a function makes of it
abbrev pub IsMade : Slots → (ℕ → Option ClassRec) → (ClassOf ℕ → ClassOf ℕ) → Type 0
IsMade s given h = (k : ℕ) (r : ClassRec) → IsLive s.class_order k → slice_get s.classes k ≡ Some r → class_of s.classes (unwrap_or (given k) r) ≡ h (class_of s.classes r)

module _ (s : Slots) (given : ℕ → Option ClassRec) (o : IsOrderly s) (keeps : KeepsPlaces s given) where
  abbrev changes : List Change
  changes = classes_written given s.class_order

  abbrev cs : List ClassRec
  cs = after given s s.class_order

  abbrev t : Slots
  t = record s { classes = cs }

  ended : all_applied s changes ≡ t
  ended = only-classes given s.class_order s

  slots : length cs ≡ length s.classes
  slots = as-many given s.class_order s

  -- the record of a live class
  rec-is : (k : ℕ) (r : ClassRec) → IsLive s.class_order k → slice_get s.classes k ≡ Some r → slice_get cs k ≡ Some (unwrap_or (given k) r)
  rec-is k r l e =
      read-after given s.class_order s k (slice_get_within s.classes k r e)
      ∙ ap (λ b. if b then option_or (given k) (slice_get s.classes k) else slice_get s.classes k) l
      ∙ ap (option_or (given k)) e ∙ by (given k)
    where
      by : (p : Option ClassRec) → option_or p (Some r) ≡ Some (unwrap_or p r)
      by None = refl
      by (Some q) = refl

  -- its name
  name-kept : (k : ℕ) → IsLive s.class_order k → class_name cs k ≡ class_name s.classes k
  name-kept k l =
      let r = there s.classes k (o.class_order.below k l) in
      ap (option_map (λ (c : ClassRec). c.name)) (rec-is k r.0 l r.1) ∙ ap Some (keeps.name k r.0 l r.1) ∙ sym (ap (option_map (λ (c : ClassRec). c.name)) r.1)

  -- the name of its superclass
  above-kept : (k : ℕ) (r : ClassRec) → IsLive s.class_order k → slice_get s.classes k ≡ Some r → option_and_then (class_name cs) r.superclass ≡ option_and_then (class_name s.classes) r.superclass
  above-kept k r l e = by r.superclass (λ j h. o.superclasses_live j k r l e h)
    where
      by : (up : Option ℕ) → ((j : ℕ) → up ≡ Some j → IsLive s.class_order j) → option_and_then (class_name cs) up ≡ option_and_then (class_name s.classes) up
      by None h = refl
      by (Some j) h = name-kept j (h j refl)

  class-is : (k : ℕ) (r : ClassRec) → IsLive s.class_order k → slice_get s.classes k ≡ Some r → class_of cs (unwrap_or (given k) r) ≡ class_of s.classes (unwrap_or (given k) r)
  class-is k r l e =
      let same = keeps.superclass k r l e in
      let up = ap (option_and_then (class_name cs)) same ∙ above-kept k r l e ∙ sym (ap (option_and_then (class_name s.classes)) same) in
      λ i. record (class_of cs (unwrap_or (given k) r)) { superclass = up i }

  methods-are : map (entry_of cs) (live s.methods s.method_order) ≡ (number_image s).methods
  methods-are = live-same (entry_of cs) (entry_of s.classes) s.methods s.methods s.method_order (λ k l. by k l (slice_get s.methods k) refl)
    where
      by : (k : ℕ) → IsLive s.method_order k → (p : Option MethodRec) → slice_get s.methods k ≡ p → option_map (entry_of cs) p ≡ option_map (entry_of s.classes) p
      by k l None e = refl
      by k l (Some m) e = λ i. Some (record (entry_of s.classes m) { class = name-kept m.class (o.method_classes_live k m l e) i })

  module _ (h : ClassOf ℕ → ClassOf ℕ) (made : IsMade s given h) where
    classes-are : map (class_of cs) (live cs s.class_order) ≡ map h (number_image s).classes
    classes-are =
        live-same (class_of cs) (λ (r : ClassRec). h (class_of s.classes r)) cs s.classes s.class_order at
        ∙ sym (map-map h (class_of s.classes) (live s.classes s.class_order))
      where
        at : (k : ℕ) → IsLive s.class_order k → option_map (class_of cs) (slice_get cs k) ≡ option_map (λ (r : ClassRec). h (class_of s.classes r)) (slice_get s.classes k)
        at k l =
            let r = there s.classes k (o.class_order.below k l) in
            ap (option_map (class_of cs)) (rec-is k r.0 l r.1)
            ∙ ap Some (class-is k r.0 l r.1 ∙ made k r.0 l r.1)
            ∙ sym (ap (option_map (λ (q : ClassRec). h (class_of s.classes q))) r.1)

    -- the image has the classes that the function makes, and is the same otherwise
    pub written-image : number_image (all_applied s changes) ≡ record (number_image s) { classes = map h (number_image s).classes }
    written-image = ap number_image ended ∙ (λ i. record (number_image s) { classes = classes-are i; methods = methods-are i })

  pub written-can : CanApplyAll s changes
  written-can = can-write given s.class_order s o.class_order.below

  pub written-names : (all_applied s changes).names ≡ s.names
  written-names = ap (λ (u : Slots). u.names) ended

  -- no code mentions other names
  pub written-touched : DiffersAtMost s (all_applied s changes) []
  written-touched p none = ap (λ (u : Slots). names_at u p) ended ∙ by p
    where
      by : (q : Place) → names_at t q ≡ names_at s q
      by (place.Method k) = refl
      by (place.DoIt n) = refl

  -- where the names of the image are known, the slots are orderly and each record fits
  module _ (known : ImageNames (λ n. n < length s.names) (number_image (all_applied s changes))) where
    known-there : ImageNames (λ n. n < length s.names) (number_image t)
    known-there = subst (λ (u : Slots). ImageNames (λ n. n < length s.names) (number_image u)) ended known

    above-live : (j k : ℕ) (c : ClassRec) → IsLive s.class_order k → slice_get cs k ≡ Some c → c.superclass ≡ Some j → IsLive s.class_order j
    above-live j k c l e up =
        let r = there s.classes k (o.class_order.below k l) in
        let same : Some c ≡ Some (unwrap_or (given k) r.0) = sym e ∙ rec-is k r.0 l r.1 in
        let is : c ≡ unwrap_or (given k) r.0 = cc in
        o.superclasses_live j k r.0 l r.1 (sym (keeps.superclass k r.0 l r.1) ∙ sym (ap (λ (d : ClassRec). d.superclass) is) ∙ up)

    pub written-orderly : IsOrderly (all_applied s changes)
    written-orderly = subst IsOrderly (sym ended) (record {
      names_distinct = o.names_distinct;
      names_known = known-there;
      class_order = record { distinct = o.class_order.distinct; below = λ k l. subst (λ (n : ℕ). k < n) (sym slots) (o.class_order.below k l) };
      method_order = o.method_order;
      class_names_distinct = λ j k n l m e f. o.class_names_distinct j k n l m (sym (name-kept j l) ∙ e) (sym (name-kept k m) ∙ f);
      superclasses_live = above-live;
      method_classes_live = o.method_classes_live;
    })

    pub written-fit : AllByRecursion (FitsIn s) changes
    written-fit = each-written given (FitsIn s) s.class_order (λ k q l e. one k q l e (there s.classes k (o.class_order.below k l)))
      where
        one : (k : ℕ) (q : ClassRec) → IsLive s.class_order k → given k ≡ Some q → (r : ClassRec) × (slice_get s.classes k ≡ Some r) → FitsIn s (change.Class k q)
        one k q l e r =
            let at : slice_get cs k ≡ Some q = rec-is k r.0 l r.1 ∙ ap (λ (p : Option ClassRec). Some (unwrap_or p r.0)) e in
            let named = live-fact (ClassNames (λ n. n < length s.names)) (class_of cs) cs s.class_order k q known-there.classes l at in
            record {
              name = named.name;
              superclass = by q.superclass (λ j up. o.class_order.below j (above-live j k q l at up));
              instance = named.instance;
              shared = named.shared;
              class_side = named.class_side;
            }
          where
            by : (up : Option ℕ) → ((j : ℕ) → up ≡ Some j → j < length s.classes) → OptionNames (λ j. j < length s.classes) up
            by None h = tt
            by (Some j) h = h j refl
