-- What a message to `super` runs, among the slots and in the image.
use Rattle.std.proofs.Common.{◌≡◌, ℕ, ◌<◌, Bool, true, false, cond, List, [], ◌∷◌, length, find, Option, Some, None, option_map, slice_get, refl, sym, ap, ◌∙◌}
use Rattle.std.specs.Prelude.{nat_eq, codes}
use Rattle.std.specs.Option.{option_map_or, option_and_then, option_or}
use Rattle.rb_base.specs.Names.{text_eq, number_in, name_at}
use Rattle.image_model.specs.Image.{ClassOf, ImageOf}
use Rattle.image_model.specs.ImageNames.{ClassNames}
use Rattle.image_model.specs.Words.{number_words}
use Rattle.image_model.specs.Upwards.{first_given}
use Rattle.image_model.specs.Chain.{class_named, superclass_of}
use Rattle.image_model.specs.Lookup.{own_method, on_chain, as_object, lookup, super_lookup}
use Rattle.image_model.proofs.UpwardsLemmas.{upwards-none}
use Rattle.image_model.proofs.SearchLemmas.{super_lookup-above, super_lookup-root}
use Rattle.class_table.specs.declared.record.ClassRec.{ClassRec}
use Rattle.class_table.specs.Slots.{Slots}
use Rattle.class_table.specs.View.{class_name, class_of, class_at, entry_at, live_at, number_image}
use Rattle.class_table.specs.Valid.{IsLive, IsOrderly}
use Rattle.class_table.specs.Finding.{is_named, named_in, class_class, found_by_lookup}
use Rattle.class_table.proofs.Live.{find-agree, find-passes, find-live, live-fact, there}
use Rattle.class_table.proofs.Found.{class_named-live, lookup-live, class_named-named_in}
use Rattle.name_meanings.proofs.Numbers.{without_number, with_number}
use Rattle.class_questions.proofs.AnyLive.{live_at-live}
use Rattle.class_questions.proofs.ChainLaws.{named-slot}
use Rattle.method_questions.specs.Found.{bare_entry, opened_at, superclass_slot, object_slot, inherited_slot}
use Rattle.method_questions.proofs.OwnMethods.{Holds, looked-up, own-live}

-- nothing is found where nothing passes
pub find-nothing : (ks : List ℕ) → find (λ (k : ℕ). false) ks ≡ None
find-nothing [] = refl
find-nothing (k ∷ ks) = find-nothing ks

-- a search behind which there is no other
pub or-none : {X : Type 0} (o : Option X) → option_or o None ≡ o
or-none None = refl
or-none (Some x) = refl

-- the slot of what a class understands as an object holds it
pub object-holds : (s : Slots) (selector y : ℕ) → object_slot s selector ≡ Some y → Holds s selector y
object-holds s selector y e = by (class_class s) e
  where
    by : (o : Option ℕ) → option_and_then (λ k. found_by_lookup s k false selector) o ≡ Some y → Holds s selector y
    by None q = absurd (cc)
    by (Some k) q = looked-up s selector k false y q

module _ (s : Slots) (orderly : IsOrderly s) where
  abbrev image : ImageOf ℕ
  image = number_image s

  -- whether a class is `Class`
  abbrev is_class : ClassOf ℕ → Bool
  is_class c = text_eq (codes "Class") (name_at s.names c.name)

  known : (k : ℕ) (c : ClassRec) → IsLive s.class_order k → slice_get s.classes k ≡ Some c → c.name < length s.names
  known k c l e = (live-fact (ClassNames (λ n. n < length s.names)) (class_of s.classes) s.classes s.class_order k c orderly.names_known.classes l e).name

  by-number : (o : Option ℕ) → number_in s.names (codes "Class") ≡ o → find (λ k. option_map_or (λ c. is_class (class_of s.classes c)) (slice_get s.classes k) false) s.class_order ≡ option_and_then (named_in s.classes s.class_order) o
  by-number None e = find-agree _ (λ k. false) s.class_order (λ k l. agrees k l (slice_get s.classes k) refl) ∙ find-nothing s.class_order
    where
      agrees : (k : ℕ) → IsLive s.class_order k → (r : Option ClassRec) → slice_get s.classes k ≡ r → option_map_or (λ (c : ClassRec). text_eq (codes "Class") (name_at s.names c.name)) r false ≡ false
      agrees k l None q = refl
      agrees k l (Some c) q = without_number s.names (codes "Class") c.name (known k c l q) e
  by-number (Some n) e = find-agree _ (is_named s.classes n) s.class_order (λ k l. agrees k l (slice_get s.classes k) refl)
    where
      agrees : (k : ℕ) → IsLive s.class_order k → (r : Option ClassRec) → slice_get s.classes k ≡ r → option_map_or (λ (c : ClassRec). text_eq (codes "Class") (name_at s.names c.name)) r false ≡ option_map_or (nat_eq n) (option_map (λ (c : ClassRec). c.name) r) false
      agrees k l None q = refl
      agrees k l (Some c) q = with_number s.names (codes "Class") c.name (known k c l q) orderly.names_distinct n e

  -- the class `Class`
  the-class : find is_class image.classes ≡ option_and_then (class_at s) (class_class s)
  the-class = sym (find-live (class_of s.classes) is_class s.classes s.class_order) ∙ ap (option_and_then (class_at s)) (by-number (number_in s.names (codes "Class")) refl)

  pub class-live : (k : ℕ) → class_class s ≡ Some k → IsLive s.class_order k
  class-live k e = by (number_in s.names (codes "Class")) e
    where
      by : (o : Option ℕ) → option_and_then (named_in s.classes s.class_order) o ≡ Some k → IsLive s.class_order k
      by None q = absurd (cc)
      by (Some n) q = (find-passes (is_named s.classes n) s.class_order k q).1

  -- what a class understands as an object
  pub object-found : (selector : ℕ) → as_object (number_words s.names) image selector ≡ option_and_then (entry_at s) (object_slot s selector)
  object-found selector = ap (λ o. on_chain nat_eq image o false selector) the-class ∙ by (class_class s) refl
    where
      by : (o : Option ℕ) → class_class s ≡ o → on_chain nat_eq image (option_and_then (class_at s) o) false selector ≡ option_and_then (entry_at s) (option_and_then (λ k. found_by_lookup s k false selector) o)
      by None e = ap (first_given (λ (d : ClassOf ℕ). own_method nat_eq image.methods d.name false selector)) (upwards-none (superclass_of nat_eq image.classes) (length image.classes))
      by (Some k) e =
          let l = class-live k e in
          let c = there s.classes k (orderly.class_order.below k l) in
          ap (λ o. on_chain nat_eq image o false selector) (ap (option_map (class_of s.classes)) c.1 ∙ sym (class_named-live s orderly k c.0 l c.1))
          ∙ sym (or-none (on_chain nat_eq image (class_named nat_eq image.classes c.0.name) false selector))
          ∙ sym (ap (λ (o : Option ℕ). lookup (number_words s.names) image o false selector) (ap (option_map (λ (x : ClassRec). x.name)) c.1))
          ∙ lookup-live s orderly k false selector l

  -- the superclass of the class of a name
  pub superclass-told : (n k : ℕ) (c : ClassRec) → named_in s.classes s.class_order n ≡ Some k → slice_get s.classes k ≡ Some c → superclass_slot s n ≡ c.superclass
  superclass-told n k c e q =
      let h = named-slot s.classes s.class_order n k e in
      ap (option_and_then (λ class. option_and_then (λ (d : ClassRec). d.superclass) (live_at s.classes s.class_order class))) e
      ∙ ap (option_and_then (λ (d : ClassRec). d.superclass)) (live_at-live s.classes s.class_order k h.0 ∙ q)

  module _ (n : ℕ) (meta : Bool) (selector : ℕ) where
    -- at the root
    root : (b : Bool) → cond b (as_object (number_words s.names) image selector) None ≡ option_and_then (entry_at s) (cond b (object_slot s selector) None)
    root true = object-found selector
    root false = refl

    -- what is inherited
    pub inherited-found : super_lookup (number_words s.names) image (Some n) meta selector ≡ option_and_then (entry_at s) (inherited_slot s n meta selector)
    inherited-found = by (named_in s.classes s.class_order n) refl
      where
        above : (k : ℕ) (c : ClassRec) → named_in s.classes s.class_order n ≡ Some k → slice_get s.classes k ≡ Some c → class_named nat_eq image.classes n ≡ Some (class_of s.classes c) → (o : Option ℕ) → c.superclass ≡ o
            → super_lookup (number_words s.names) image (Some n) meta selector ≡ option_and_then (entry_at s) (option_map_or (λ j. found_by_lookup s j meta selector) o (cond meta (object_slot s selector) None))
        above k c e q named None h = super_lookup-root (number_words s.names) image n (class_of s.classes c) meta selector named (ap (option_and_then (class_name s.classes)) h) ∙ root meta
        above k c e q named (Some j) h =
            super_lookup-above (number_words s.names) image n (class_of s.classes c) meta selector named
            ∙ ap (λ (o : Option ℕ). lookup (number_words s.names) image o meta selector) (ap (option_and_then (class_name s.classes)) h)
            ∙ lookup-live s orderly j meta selector (orderly.superclasses_live j k c (named-slot s.classes s.class_order n k e).0 q h)

        by : (o : Option ℕ) → named_in s.classes s.class_order n ≡ o → super_lookup (number_words s.names) image (Some n) meta selector ≡ option_and_then (entry_at s) (inherited_slot s n meta selector)
        by None e =
            ap (λ (o : Option (ClassOf ℕ)). lookup (number_words s.names) image (option_and_then (λ (d : ClassOf ℕ). d.superclass) o) meta selector) (class_named-named_in s n ∙ ap (option_and_then (class_at s)) e)
            ∙ ap (λ cs. option_or (first_given (λ (d : ClassOf ℕ). own_method nat_eq image.methods d.name meta selector) cs) (cond meta (as_object (number_words s.names) image selector) None)) (upwards-none (superclass_of nat_eq image.classes) (length image.classes))
            ∙ root meta
            ∙ sym (ap (λ o. option_and_then (entry_at s) (option_map_or (λ j. found_by_lookup s j meta selector) o (cond meta (object_slot s selector) None))) (ap (option_and_then (λ class. option_and_then (λ (d : ClassRec). d.superclass) (live_at s.classes s.class_order class))) e))
        by (Some k) e =
            let h = named-slot s.classes s.class_order n k e in
            let c = there s.classes k (orderly.class_order.below k h.0) in
            above k c.0 e c.1 (class_named-named_in s n ∙ ap (option_and_then (class_at s)) e ∙ ap (option_map (class_of s.classes)) c.1) c.0.superclass refl
            ∙ sym (ap (λ o. option_and_then (entry_at s) (option_map_or (λ j. found_by_lookup s j meta selector) o (cond meta (object_slot s selector) None))) (superclass-told n k c.0 e c.1))

    -- its slot is live
    inherited-live : (y : ℕ) → inherited_slot s n meta selector ≡ Some y → IsLive s.method_order y
    inherited-live y e = by (superclass_slot s n) e
      where
        none : (b : Bool) → cond b (object_slot s selector) None ≡ Some y → IsLive s.method_order y
        none true q = (object-holds s selector y q).live
        none false q = absurd (cc)

        by : (o : Option ℕ) → option_map_or (λ j. found_by_lookup s j meta selector) o (cond meta (object_slot s selector) None) ≡ Some y → IsLive s.method_order y
        by None q = none meta q
        by (Some j) q = (looked-up s selector j meta y q).live

    -- the method in the slot
    pub opened-inherited : option_and_then (opened_at s) (inherited_slot s n meta selector)
        ≡ option_map bare_entry (super_lookup (number_words s.names) image (Some n) meta selector)
    opened-inherited = own-live s orderly meta selector (inherited_slot s n meta selector) inherited-live ∙ ap (option_map bare_entry) (sym inherited-found)
