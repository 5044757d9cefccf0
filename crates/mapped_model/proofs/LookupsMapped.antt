-- Chains and look-ups with mapped names.
use Rattle.std.proofs.Common.{◌≡◌, List, length, Option, Some, None, refl, sym, ap, ◌∙◌}
use Rattle.std.specs.Prelude.{ℕ, Bool, true, false, ◌&&◌, if◌then◌else◌, map, find}
use Rattle.std.proofs.Math.Bool.{beq}
use Rattle.std.specs.List.{list_any}
use Rattle.std.specs.Option.{option_map, option_map_or, option_and_then, option_or}
use Rattle.rb_base.specs.Names.{text_eq}
use Rattle.image_model.specs.Image.{ClassOf}
use Rattle.image_model.specs.Words.{text_words}
use Rattle.image_model.specs.Upwards.{upwards, first_given}
use Rattle.image_model.specs.Chain.{class_of_name, superclass_of, chain_from, chain}
use Rattle.image_model.proofs.Lists.{length-map, find-map, any-map, option_map-option_or}
use Rattle.image_model.proofs.UpwardsLemmas.{upwards-map, first_given-map}
use Rattle.run_model.specs.Values.{Name}
use Rattle.resolved_model.specs.ResolvedImages.{ResolvedImage, is_resolved_method, found_on_chain, finds, finds_above, class_of_doits}
use Rattle.resolved_model.proofs.LookupLemmas.{everywhere, anywhere}
use Rattle.mapped_model.specs.NameMaps.{NameMaps, IsOneToOne, KeepsWords}
use Rattle.mapped_model.specs.MappedImages.{mapped_class, mapped_method, mapped_image}
use Rattle.mapped_model.proofs.Tests.{text-mapped, word-mapped}

-- what holds of nothing in particular
abbrev Any : {X : Type 0} → X → Type 0
Any x = Unit {0}

module _ (f : NameMaps) (one : IsOneToOne f) where
  -- the class of a name
  class-after : (classes : List (ClassOf Name)) (o : Option Name) → class_of_name text_eq (map (mapped_class f) classes) (option_map f.class o) ≡ option_map (mapped_class f) (class_of_name text_eq classes o)
  class-after classes None = refl
  class-after classes (Some n) =
      find-map (mapped_class f) (λ c. text_eq n c.name) (λ c. text_eq (f.class n) c.name) classes (everywhere _ (λ c. text-mapped f.class one.class n c.name) classes)

  -- a chain
  pub chain_from-after : (classes : List (ClassOf Name)) (o : Option (ClassOf Name)) → chain_from text_eq (map (mapped_class f) classes) (option_map (mapped_class f) o) ≡ map (mapped_class f) (chain_from text_eq classes o)
  chain_from-after classes o =
      ap (λ (k : ℕ). upwards (superclass_of text_eq (map (mapped_class f) classes)) k (option_map (mapped_class f) o)) (length-map (mapped_class f) classes)
      ∙ upwards-map (mapped_class f) (superclass_of text_eq classes) (superclass_of text_eq (map (mapped_class f) classes)) Any (λ c k. anywhere Any (λ x. tt) (superclass_of text_eq classes c))
      (λ c k. class-after classes c.superclass) (length classes) o (anywhere Any (λ x. tt) o)

  -- the chain of the class of a name
  pub chain-after : (classes : List (ClassOf Name)) (n : Name) → chain text_eq (map (mapped_class f) classes) (Some (f.class n)) ≡ map (mapped_class f) (chain text_eq classes (Some n))
  chain-after classes n = ap (chain_from text_eq (map (mapped_class f) classes)) (class-after classes (Some n)) ∙ chain_from-after classes (class_of_name text_eq classes (Some n))

  -- whether a class is on a chain
  pub on-after : (classes : List (ClassOf Name)) (d n : Name) →
      list_any (λ (k : ClassOf Name). text_eq (f.class d) k.name) (chain text_eq (map (mapped_class f) classes) (Some (f.class n))) ≡ list_any (λ (k : ClassOf Name). text_eq d k.name) (chain text_eq classes (Some n))
  on-after classes d n =
      ap (λ cs. list_any (λ (k : ClassOf Name). text_eq (f.class d) k.name) cs) (chain-after classes n)
      ∙ any-map (mapped_class f) (λ (k : ClassOf Name). text_eq d k.name) (λ (k : ClassOf Name). text_eq (f.class d) k.name) (chain text_eq classes (Some n)) (everywhere _ (λ c. text-mapped f.class one.class d c.name) (chain text_eq classes (Some n)))

  -- whether a name of a class that there may be is that of a class
  name-after : (c : Name) (o : Option Name) → option_map_or (text_eq (f.class c)) (option_map f.class o) false ≡ option_map_or (text_eq c) o false
  name-after c None = refl
  name-after c (Some d) = text-mapped f.class one.class c d

  module _ (i : ResolvedImage) where
    -- the method of a class, a side and a selector
    own-after : (c : Name) (meta : Bool) (s : Name) → find (is_resolved_method (f.class c) meta (f.selector s)) (map (mapped_method f) i.methods) ≡ option_map (mapped_method f) (find (is_resolved_method c meta s) i.methods)
    own-after c meta s =
        find-map (mapped_method f) (is_resolved_method c meta s) (is_resolved_method (f.class c) meta (f.selector s)) i.methods
        (everywhere _ (λ m. λ j. name-after c m.class j && beq meta m.meta && text-mapped f.selector one.selector s m.selector j) i.methods)

    -- the first method on a chain
    found-after : (o : Option (ClassOf Name)) (meta : Bool) (s : Name) → found_on_chain (mapped_image f i) (option_map (mapped_class f) o) meta (f.selector s) ≡ option_map (mapped_method f) (found_on_chain i o meta s)
    found-after o meta s =
        ap (first_given (λ (c : ClassOf Name). find (is_resolved_method c.name meta (f.selector s)) (map (mapped_method f) i.methods))) (chain_from-after i.classes o)
        ∙ first_given-map (mapped_class f) (mapped_method f) (λ c. find (is_resolved_method c.name meta s) i.methods) (λ c. find (is_resolved_method c.name meta (f.selector s)) (map (mapped_method f) i.methods)) (chain_from text_eq i.classes o)
        (everywhere _ (λ c. own-after c.name meta s) (chain_from text_eq i.classes o))

    module _ (keeps : KeepsWords f) where
      -- a class that is found by a word that is kept
      word-after : (w : Name) → f.class w ≡ w → find (λ (d : ClassOf Name). text_eq w d.name) (map (mapped_class f) i.classes) ≡ option_map (mapped_class f) (find (λ (d : ClassOf Name). text_eq w d.name) i.classes)
      word-after w e = find-map (mapped_class f) (λ (d : ClassOf Name). text_eq w d.name) (λ (d : ClassOf Name). text_eq w d.name) i.classes (everywhere _ (λ d. word-mapped f.class one.class w e d.name) i.classes)

      -- what a class understands as an object
      object-after : (b : Bool) (s : Name) → (if b then found_on_chain (mapped_image f i) (find (λ d. text_words.is_class d.name) (map (mapped_class f) i.classes)) false (f.selector s) else None) ≡ option_map (mapped_method f) (if b then found_on_chain i (find (λ d. text_words.is_class d.name) i.classes) false s else None)
      object-after true s =
          ap (λ o. found_on_chain (mapped_image f i) o false (f.selector s)) (word-after _ keeps.classes.1.1.1.1.1.1.1.1.1.0)
          ∙ found-after (find (λ d. text_words.is_class d.name) i.classes) false s
      object-after false s = refl

      -- a look-up
      pub finds-after : (c : Option Name) (meta : Bool) (s : Name) → finds (mapped_image f i) (option_map f.class c) meta (f.selector s) ≡ option_map (mapped_method f) (finds i c meta s)
      finds-after c meta s =
          (λ j. option_or ((ap (λ o. found_on_chain (mapped_image f i) o meta (f.selector s)) (class-after i.classes c) ∙ found-after (class_of_name text_eq i.classes c) meta s) j) (object-after meta s j))
          ∙ sym (option_map-option_or (mapped_method f) (found_on_chain i (class_of_name text_eq i.classes c) meta s) (if meta then found_on_chain i (find (λ d. text_words.is_class d.name) i.classes) false s else None))

      -- the superclass of a class that there may be
      above-after : (o : Option (ClassOf Name)) → option_and_then (λ (d : ClassOf Name). d.superclass) (option_map (mapped_class f) o) ≡ option_map f.class (option_and_then (λ (d : ClassOf Name). d.superclass) o)
      above-after None = refl
      above-after (Some d) = refl

      -- a look-up for `super`
      pub finds_above-after : (c : Option Name) (meta : Bool) (s : Name) → finds_above (mapped_image f i) (option_map f.class c) meta (f.selector s) ≡ option_map (mapped_method f) (finds_above i c meta s)
      finds_above-after c meta s =
          ap (λ o. finds (mapped_image f i) o meta (f.selector s)) (ap (λ o. option_and_then (λ (d : ClassOf Name). d.superclass) o) (class-after i.classes c) ∙ above-after (class_of_name text_eq i.classes c))
          ∙ finds-after (option_and_then (λ (d : ClassOf Name). d.superclass) (class_of_name text_eq i.classes c)) meta s

      -- the name of a class that there may be
      class_name-after : (o : Option (ClassOf Name)) → option_map (λ (c : ClassOf Name). c.name) (option_map (mapped_class f) o) ≡ option_map f.class (option_map (λ (c : ClassOf Name). c.name) o)
      class_name-after None = refl
      class_name-after (Some c) = refl

      -- the class of do-its
      pub doits-after : class_of_doits (mapped_image f i) ≡ option_map f.class (class_of_doits i)
      doits-after = ap (λ o. option_map (λ (c : ClassOf Name). c.name) o) (word-after _ keeps.classes.0) ∙ class_name-after (find (λ d. text_words.is_undefined_object d.name) i.classes)
