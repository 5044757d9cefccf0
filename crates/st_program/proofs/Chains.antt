-- The class that defines a variable among slots is the one on the chain in the image over texts.
use Rattle.std.proofs.Common.{◌≡◌, ℕ, zero, suc, ◌<◌, Bool, true, false, cond, List, [], ◌∷◌, length, map, find, Option, Some, None, slice_get, option_map, refl, sym, ap, subst, ◌∙◌}
use Rattle.std.specs.Prelude.{nat_eq, codes, unwrap_or}
use Rattle.std.specs.List.{list_any, AllByRecursion, filter_map, cons_option}
use Rattle.std.specs.Option.{option_and_then, option_or}
use Rattle.rb_base.specs.Names.{text_eq, number_in, name_at}
use Rattle.image_model.specs.Image.{ClassOf, ImageOf, map_class}
use Rattle.image_model.specs.ImageNames.{OptionNames, ClassNames}
use Rattle.class_table.proofs.Live.{live-fact}
use Rattle.image_model.specs.Words.{number_words, text_words}
use Rattle.image_model.specs.Upwards.{upwards, nth_above, first_given}
use Rattle.image_model.specs.Chain.{class_named, class_of_name, superclass_of, chain_from, chain}
use Rattle.image_model.specs.Means.{VariableKind, variables, MeaningOf, variable, a_class, transcript, undeclared, definer, as_variable, side_kind, means_along, means_outside}
use Rattle.image_model.proofs.Changed.{class_of_name-map, chain_from-map, ClassNames-class_of_name}
use Rattle.image_model.proofs.Tables.{KeepsWords-number_words}
use Rattle.image_model.proofs.UpwardsLemmas.{upwards-all, upwards-none}
use Rattle.run_model.specs.Values.{Name}
use Rattle.run_model.specs.Runs.{doit_class}
use Rattle.class_table.specs.declared.record.ClassRec.{ClassRec}
use Rattle.class_table.specs.Slots.{Slots}
use Rattle.class_table.specs.View.{class_name, class_of, class_at, live_at, number_image, image_of}
use Rattle.class_table.specs.Valid.{IsLive, IsOrderly}
use Rattle.class_table.specs.Finding.{named_in, only_live, above, chain_of}
use Rattle.class_table.proofs.Found.{chain-live}
use Rattle.st_program.specs.declared.meaning.Kind.{Kind}
use Rattle.st_program.specs.declared.meaning.Kind.TheVariants as kind
use Rattle.st_program.specs.Slots.{class_slot}
use Rattle.st_program.specs.Definers.{kind_from, defined, defined_at, next_above, definer_from}
use Rattle.st_program.proofs.LookedUp.{holds, ClassSlot, class_slot-tells}

module _ (s : Slots) where
  only_live-live : (j : ℕ) → OptionNames (IsLive s.class_order) (only_live s.class_order j)
  only_live-live j = by (list_any (nat_eq j) s.class_order) refl
    where
      by : (b : Bool) → list_any (nat_eq j) s.class_order ≡ b → OptionNames (IsLive s.class_order) (cond b (Some j) None)
      by true e = e
      by false e = tt

  above_live : (k : ℕ) → OptionNames (IsLive s.class_order) (above s.classes s.class_order k)
  above_live k = by (slice_get s.classes k)
    where
      up : (o : Option ℕ) → OptionNames (IsLive s.class_order) (option_and_then (only_live s.class_order) o)
      up None = tt
      up (Some j) = only_live-live j

      by : (o : Option ClassRec) → OptionNames (IsLive s.class_order) (option_and_then (λ (c : ClassRec). option_and_then (only_live s.class_order) c.superclass) o)
      by None = tt
      by (Some c) = up c.superclass

  -- the walk upwards a step at a time
  same_walk : (n : ℕ) (o : Option ℕ) → OptionNames (IsLive s.class_order) o → upwards (next_above s) n o ≡ upwards (above s.classes s.class_order) n o
  same_walk zero o l = refl
  same_walk (suc n) None l = refl
  same_walk (suc n) (Some k) l =
      ap (λ b. k ∷ upwards (next_above s) n (nth_above (above s.classes s.class_order) 1 (cond b (Some k) None))) l
      ∙ ap (λ (ks : List ℕ). k ∷ ks) (same_walk n (above s.classes s.class_order k) (above_live k))

  -- the classes of slots over texts
  abbrev texts : List ℕ → List (ClassOf Name)
  texts ks = map (map_class (name_at s.names)) (filter_map (class_at s) ks)

  module _ (j : Kind) (t : Name) where
    abbrev test : ClassOf Name → Bool
    test d = list_any (text_eq t) (variables (kind_from j) d)

    same_variables : (i : Kind) (c : ClassRec) → variables (kind_from i) (map_class (name_at s.names) (class_of s.classes c)) ≡ map (name_at s.names) (defined i c)
    same_variables kind.Instance c = refl
    same_variables kind.ClassSide c = refl
    same_variables kind.Shared c = refl

    -- the first of live slots
    first_defined : (ks : List ℕ) → AllByRecursion (IsLive s.class_order) ks → first_given (defined_at s j t) ks ≡ option_map (λ (d : ClassOf Name). d.name) (definer text_eq (kind_from j) (texts ks) t)
    first_defined [] l = refl
    first_defined (k ∷ ks) l =
        ap (λ b. option_or (option_and_then (λ (c : ClassRec). cond (list_any (text_eq t) (map (name_at s.names) (defined j c))) (Some (name_at s.names c.name)) None) (cond b (slice_get s.classes k) None)) (first_given (defined_at s j t) ks)) l.0
        ∙ by (slice_get s.classes k) (first_defined ks l.1)
      where
        at : (c : ClassRec) (b : Bool) → first_given (defined_at s j t) ks ≡ option_map (λ (d : ClassOf Name). d.name) (find test (texts ks))
            → option_or (cond b (Some (name_at s.names c.name)) None) (first_given (defined_at s j t) ks) ≡ option_map (λ (d : ClassOf Name). d.name) (cond b (Some (map_class (name_at s.names) (class_of s.classes c))) (find test (texts ks)))
        at c true h = refl
        at c false h = h

        by : (r : Option ClassRec) → first_given (defined_at s j t) ks ≡ option_map (λ (d : ClassOf Name). d.name) (find test (texts ks))
            → option_or (option_and_then (λ (c : ClassRec). cond (list_any (text_eq t) (map (name_at s.names) (defined j c))) (Some (name_at s.names c.name)) None) r) (first_given (defined_at s j t) ks)
            ≡ option_map (λ (d : ClassOf Name). d.name) (find test (map (map_class (name_at s.names)) (cons_option (option_map (class_of s.classes) r) (filter_map (class_at s) ks))))
        by None h = h
        by (Some c) h =
            at c (list_any (text_eq t) (map (name_at s.names) (defined j c))) h
            ∙ ap (λ vs. option_map (λ (d : ClassOf Name). d.name) (cond (list_any (text_eq t) vs) (Some (map_class (name_at s.names) (class_of s.classes c))) (find test (texts ks)))) (sym (same_variables j c))

module _ (s : Slots) (orderly : IsOrderly s) where
  abbrev image : ImageOf Name
  image = image_of s

  -- the chain of the class in a slot
  chain_of_slot : (o : Option ℕ) (c : Name) → ClassSlot s orderly c o → chain text_eq image.classes (Some c) ≡ texts s (upwards (next_above s) (length s.class_order) o)
  chain_of_slot None c h =
      ap (chain_from text_eq image.classes) h ∙ upwards-none (superclass_of text_eq image.classes) (length image.classes) ∙ sym (ap (texts s) (upwards-none (next_above s) (length s.class_order)))
  chain_of_slot (Some k) c h = by (class_name s.classes k) refl
    where
      walked : filter_map (class_at s) (upwards (next_above s) (length s.class_order) (Some k)) ≡ chain nat_eq (number_image s).classes (class_name s.classes k)
      walked =
          ap (filter_map (class_at s)) (same_walk s (length s.class_order) (Some k) h.0)
          ∙ ap (λ b. filter_map (class_at s) (upwards (above s.classes s.class_order) (length s.class_order) (cond b (Some k) None))) (sym h.0)
          ∙ sym (chain-live s orderly k h.0)

      by : (o : Option ℕ) → class_name s.classes k ≡ o → chain text_eq image.classes (Some c) ≡ texts s (upwards (next_above s) (length s.class_order) (Some k))
      by None e = let bad : None ≡ Some c = sym (ap (option_map (name_at s.names)) e) ∙ h.1 in absurd (cc)
      by (Some n) e =
          let known = orderly.names_known.classes in
          let keeps = KeepsWords-number_words s.names orderly.names_distinct in
          let name : Some (name_at s.names n) ≡ Some c = sym (ap (option_map (name_at s.names)) e) ∙ h.1 in
          let below : n < length s.names = known_name n e in
          ap (chain text_eq image.classes) (sym name)
          ∙ ap (chain_from text_eq image.classes) (class_of_name-map (λ m. m < length s.names) (name_at s.names) (number_words s.names) text_words keeps (number_image s).classes (Some n) known below)
          ∙ chain_from-map (λ m. m < length s.names) (name_at s.names) (number_words s.names) text_words keeps (number_image s).classes (class_of_name nat_eq (number_image s).classes (Some n)) known
          (ClassNames-class_of_name (λ m. m < length s.names) (name_at s.names) (number_words s.names) text_words keeps (number_image s).classes (Some n) known)
          ∙ ap (map (map_class (name_at s.names))) (ap (chain nat_eq (number_image s).classes) (sym e) ∙ sym walked)
        where
          known_name : (m : ℕ) → class_name s.classes k ≡ Some m → m < length s.names
          known_name m q = of (slice_get s.classes k) refl q
            where
              of : (r : Option ClassRec) → slice_get s.classes k ≡ r → option_map (λ (d : ClassRec). d.name) r ≡ Some m → m < length s.names
              of None p w = absurd (cc)
              of (Some d) p w =
                  let below : d.name < length s.names = (live-fact (ClassNames (λ x. x < length s.names)) (class_of s.classes) s.classes s.class_order k d orderly.names_known.classes h.0 p).name in
                  let same : d.name ≡ m = cc in
                  subst (λ x. x < length s.names) same below

  slots_live : (o : Option ℕ) (c : Name) → ClassSlot s orderly c o → AllByRecursion (IsLive s.class_order) (upwards (next_above s) (length s.class_order) o)
  slots_live None c h = subst (AllByRecursion (IsLive s.class_order)) (sym (upwards-none (next_above s) (length s.class_order))) tt
  slots_live (Some k) c h =
      subst (AllByRecursion (IsLive s.class_order)) (sym (same_walk s (length s.class_order) (Some k) h.0))
      (upwards-all (IsLive s.class_order) (above s.classes s.class_order) (λ x p. above_live s x) (length s.class_order) (Some k) h.0)

  -- the class that defines a variable on the chain of the class of a name
  definer_tells : (j : Kind) (t c : Name) → definer_from s j t (class_slot s c) ≡ option_map (λ (d : ClassOf Name). d.name) (definer text_eq (kind_from j) (chain text_eq image.classes (Some c)) t)
  definer_tells j t c =
      let h = class_slot-tells s orderly c in
      first_defined s j t (upwards (next_above s) (length s.class_order) (class_slot s c)) (slots_live (class_slot s c) c h)
      ∙ ap (λ ds. option_map (λ (d : ClassOf Name). d.name) (definer text_eq (kind_from j) ds t)) (sym (chain_of_slot (class_slot s c) c h))

  -- the same where there may be no name
  pub definer_found : (j : Kind) (t : Name) (o : Option Name) → definer_from s j t (option_and_then (class_slot s) o) ≡ option_map (λ (d : ClassOf Name). d.name) (definer text_eq (kind_from j) (chain text_eq image.classes o) t)
  definer_found j t None =
      ap (first_given (defined_at s j t)) (upwards-none (next_above s) (length s.class_order))
      ∙ sym (ap (λ ds. option_map (λ (d : ClassOf Name). d.name) (definer text_eq (kind_from j) ds t)) (upwards-none (superclass_of text_eq image.classes) (length image.classes)))
  definer_found j t (Some c) = definer_tells j t c

  -- the class of a name, by its slot
  pub named_found : (t : Name) → option_map (λ (k : ℕ). t) (class_slot s t) ≡ option_map (λ (d : ClassOf Name). d.name) (class_named text_eq image.classes t)
  named_found t = by (class_slot s t) (class_slot-tells s orderly t)
    where
      of : (k : ℕ) (r : Option ClassRec) → option_map (name_at s.names) (option_map (λ (c : ClassRec). c.name) r) ≡ Some t
          → Some t ≡ option_map (λ (d : ClassOf Name). d.name) (option_map (map_class (name_at s.names)) (option_map (class_of s.classes) r))
      of k None q = absurd (cc)
      of k (Some c) q = sym q

      by : (o : Option ℕ) → ClassSlot s orderly t o → option_map (λ (k : ℕ). t) o ≡ option_map (λ (d : ClassOf Name). d.name) (class_named text_eq image.classes t)
      by None h = sym (ap (option_map (λ (d : ClassOf Name). d.name)) h)
      by (Some k) h = of k (slice_get s.classes k) h.1 ∙ sym (ap (option_map (λ (d : ClassOf Name). d.name)) h.2)
