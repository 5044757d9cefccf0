-- The image of the slots that are left.
use Rattle.std.proofs.Common.{◌≡◌, ℕ, ◌<◌, ◌&&◌, ◌||◌, Bool, true, false, not, cond, List, [], ◌∷◌, length, filter, Option, Some, slice_get, option_map, refl, sym, ap, subst, ◌∙◌, true≢false}
use Rattle.std.specs.Prelude.{nat_eq}
use Rattle.std.specs.List.{list_any, list_all, AllByRecursion}
use Rattle.std.specs.Option.{option_map_or, option_and_then}
use Rattle.std.proofs.Math.Dec.{eqb}
use Rattle.std.proofs.lemmas.Bool.{and_parts}
use Rattle.image_model.specs.Image.{ClassOf, DoItOf, ImageOf, plus}
use Rattle.image_model.specs.ImageNames.{ImageNames}
use Rattle.image_model.specs.Words.{WordsOf, number_words}
use Rattle.strip_model.specs.Reach.{ReachOf, has_class, has_method, if_named, is_closed}
use Rattle.strip_model.specs.Stripped.{strip}
use Rattle.class_table.specs.declared.record.ClassRec.{ClassRec}
use Rattle.class_table.specs.declared.record.MethodRec.{MethodRec}
use Rattle.class_table.specs.Order.{Distinct, IsOrderOf}
use Rattle.class_table.specs.Slots.{Slots}
use Rattle.class_table.specs.Valid.{IsLive, IsOrderly}
use Rattle.class_table.specs.View.{class_name, class_of, entry_of, number_image}
use Rattle.class_table.proofs.Live.{there}
use Rattle.class_plans.proofs.Orders.{live-filter, live-kept, live-of_kept}
use Rattle.image_strip.specs.Reached.{Marks, is_marked, reached}
use Rattle.image_strip.specs.Stripped.{is_class_marked, stripped}
use Rattle.image_strip.specs.Once.{HasMethodsOnce}
use Rattle.image_strip.proofs.Alls.{all-live, all-slot}
use Rattle.image_strip.proofs.ClosedParts.{closed_class, closed_doit, closed_method, closed-parts}
use Rattle.image_strip.proofs.Marked.{class-marked, method-marked}

-- an order of some of its slots
distinct-kept : (p : ℕ → Bool) (xs : List ℕ) → Distinct xs → Distinct (filter p xs)
distinct-kept p [] d = tt
distinct-kept p (x ∷ xs) d = by (p x) (distinct-kept p xs d.1)
  where
    none : (b : Bool) → list_any (eqb x) (filter p xs) ≡ b → b ≡ false
    none true e = sym (live-kept p x xs e).0 ∙ d.0
    none false e = refl

    by : (b : Bool) → Distinct (filter p xs) → Distinct (cond b (x ∷ filter p xs) (filter p xs))
    by true rest = (none (list_any (eqb x) (filter p xs)) refl, rest)
    by false rest = rest

order-kept : (p : ℕ → Bool) (order : List ℕ) (slots : ℕ) → IsOrderOf (record { items = order; slots = slots }) → IsOrderOf (record { items = filter p order; slots = slots })
order-kept p order slots o = record {
  distinct = distinct-kept p order o.distinct;
  below = λ k l. o.below k (live-kept p k order l).0;
}

-- a fact of each item that is left
all-left : {X : Type 0} (P : X → Type 0) (p : X → Bool) (xs : List X) → AllByRecursion P xs → AllByRecursion P (filter p xs)
all-left P p [] a = tt
all-left {X} P p (x ∷ xs) a = by (p x) (all-left P p xs a.1)
  where
    by : (b : Bool) → AllByRecursion P (filter p xs) → AllByRecursion P (cond b (x ∷ filter p xs) (filter p xs))
    by true rest = (a.0, rest)
    by false rest = rest

-- a test that passes beside one that says when it is asked
asked : (a b : Bool) → (not a || b) ≡ true → a ≡ true → b ≡ true
asked true b h t = h
asked false b h t = absurd (true≢false (sym t))

module _ (s : Slots) (o : IsOrderly s) (once : HasMethodsOnce s) (r : Marks) where
  abbrev i : ImageOf ℕ
  i = number_image s

  abbrev R : ReachOf ℕ
  R = reached s r

  abbrev is_class : ℕ → Bool
  is_class = is_class_marked s.classes r.classes

  -- a class is left where it is reached
  class-left : (k : ℕ) (c : ClassRec) → slice_get s.classes k ≡ Some c → is_class k ≡ has_class nat_eq R c.name
  class-left k c e = ap (λ (p : Option ClassRec). option_map_or (λ (d : ClassRec). is_marked r.classes d.name) p false) e ∙ sym (class-marked s r c.name)

  pub image-left : number_image (stripped s r) ≡ strip nat_eq R i
  image-left = λ j. record {
    classes = live-filter (class_of s.classes) (λ (c : ClassOf ℕ). has_class nat_eq R c.name) is_class s.classes s.class_order (λ k c l e. class-left k c e) j;
    methods = live-filter (entry_of s.classes) (has_method nat_eq R) (is_marked r.methods) s.methods s.method_order (λ k m l e. sym (method-marked s o once r k m l e)) j;
    doits = i.doits;
    heads = i.heads;
  }

  module _ (e : DoItOf ℕ) (closed : is_closed (number_words s.names) (plus i e) R ≡ true) where
    abbrev w : WordsOf ℕ
    w = number_words s.names

    parts : (list_all (closed_class w (plus i e) R) i.classes && (list_all (closed_doit w (plus i e) R) (plus i e).doits && list_all (closed_method w (plus i e) R) i.methods)) ≡ true
    parts = sym (closed-parts w (plus i e) R) ∙ closed

    classes-closed : list_all (closed_class w (plus i e) R) i.classes ≡ true
    classes-closed = (and_parts (list_all (closed_class w (plus i e) R) i.classes) _ parts).0

    methods-closed : list_all (closed_method w (plus i e) R) i.methods ≡ true
    methods-closed =
        (and_parts (list_all (closed_doit w (plus i e) R) (plus i e).doits) (list_all (closed_method w (plus i e) R) i.methods)
        (and_parts (list_all (closed_class w (plus i e) R) i.classes) _ parts).1).1

    class-closed : (k : ℕ) (c : ClassRec) → IsLive s.class_order k → slice_get s.classes k ≡ Some c → closed_class w (plus i e) R (class_of s.classes c) ≡ true
    class-closed k c l at =
        sym (ap (λ (p : Option ClassRec). option_map_or (λ (d : ClassRec). closed_class w (plus i e) R (class_of s.classes d)) p true) at)
        ∙ all-slot (λ j. option_map_or (λ (d : ClassRec). closed_class w (plus i e) R (class_of s.classes d)) (slice_get s.classes j) true) s.class_order k
        (sym (all-live (class_of s.classes) (closed_class w (plus i e) R) s.classes s.class_order) ∙ classes-closed) l

    method-closed : (k : ℕ) (m : MethodRec) → IsLive s.method_order k → slice_get s.methods k ≡ Some m → closed_method w (plus i e) R (entry_of s.classes m) ≡ true
    method-closed k m l at =
        sym (ap (λ (p : Option MethodRec). option_map_or (λ (d : MethodRec). closed_method w (plus i e) R (entry_of s.classes d)) p true) at)
        ∙ all-slot (λ j. option_map_or (λ (d : MethodRec). closed_method w (plus i e) R (entry_of s.classes d)) (slice_get s.methods j) true) s.method_order k
        (sym (all-live (entry_of s.classes) (closed_method w (plus i e) R) s.methods s.method_order) ∙ methods-closed) l

    -- a class whose name is reached, where that may be the name of a slot
    named-left : (j : ℕ) → IsLive s.class_order j → list_all (has_class nat_eq R) (if_named (class_name s.classes j)) ≡ true → is_class j ≡ true
    named-left j l h =
        let at = there s.classes j (o.class_order.below j l) in
        class-left j at.0 at.1
        ∙ (and_parts (has_class nat_eq R (at.0).name) true (sym (ap (λ (p : Option ClassRec). list_all (has_class nat_eq R) (if_named (option_map (λ (c : ClassRec). c.name) p))) at.1) ∙ h)).0

    superclass-left : (j k : ℕ) (c : ClassRec) → IsLive s.class_order k → slice_get s.classes k ≡ Some c → c.superclass ≡ Some j → is_class k ≡ true → is_class j ≡ true
    superclass-left j k c l at up h =
        named-left j (o.superclasses_live j k c l at up)
        (sym (ap (λ (p : Option ℕ). list_all (has_class nat_eq R) (if_named (option_and_then (class_name s.classes) p))) up)
        ∙ asked (has_class nat_eq R c.name) _ (and_parts (not c.kernel || has_class nat_eq R c.name) _ (class-closed k c l at)).1 (sym (class-left k c at) ∙ h))

    home-left : (k : ℕ) (m : MethodRec) → IsLive s.method_order k → slice_get s.methods k ≡ Some m → is_marked r.methods k ≡ true → is_class m.class ≡ true
    home-left k m l at h =
        named-left m.class (o.method_classes_live k m l at)
        (asked (has_method nat_eq R (entry_of s.classes m)) _ (and_parts (not (has_method nat_eq R (entry_of s.classes m)) || list_all (has_class nat_eq R) (if_named (class_name s.classes m.class))) _ (and_parts _ _ (method-closed k m l at)).1).0
        (method-marked s o once r k m l at ∙ h))

    names-left : ImageNames (λ n. n < length s.names) (strip nat_eq R i)
    names-left = record {
      classes = all-left _ (λ (c : ClassOf ℕ). has_class nat_eq R c.name) i.classes o.names_known.classes;
      methods = all-left _ (has_method nat_eq R) i.methods o.names_known.methods;
      doits = o.names_known.doits;
    }

    pub orderly-left : IsOrderly (stripped s r)
    orderly-left = record {
      names_distinct = o.names_distinct;
      names_known = subst (ImageNames (λ n. n < length s.names)) (sym image-left) names-left;
      class_order = order-kept is_class s.class_order (length s.classes) o.class_order;
      method_order = order-kept (is_marked r.methods) s.method_order (length s.methods) o.method_order;
      class_names_distinct = λ j k n lj lk. o.class_names_distinct j k n (live-kept is_class j s.class_order lj).0 (live-kept is_class k s.class_order lk).0;
      superclasses_live = λ j k c l at up.
          let both = live-kept is_class k s.class_order l in
          live-of_kept is_class j s.class_order (superclass-left j k c both.0 at up both.1) ∙ o.superclasses_live j k c both.0 at up;
      method_classes_live = λ k m l at.
          let both = live-kept (is_marked r.methods) k s.method_order l in
          live-of_kept is_class m.class s.class_order (home-left k m both.0 at both.1) ∙ o.method_classes_live k m both.0 at;
    }
