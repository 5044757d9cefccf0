-- Look-ups in an image whose names are resolved.
use Rattle.std.proofs.Common.{◌≡◌, List, [], ◌∷◌, Option, Some, None, refl, sym, ap, ◌∙◌}
use Rattle.std.specs.Prelude.{Bool, true, false, if◌then◌else◌, map, find}
use Rattle.std.specs.List.{AllByRecursion}
use Rattle.std.specs.Option.{option_map, option_and_then, option_or}
use Rattle.rb_base.specs.Names.{text_eq}
use Rattle.image_model.specs.Image.{ClassOf, ImageOf}
use Rattle.image_model.specs.ImageNames.{OptionNames}
use Rattle.image_model.specs.Words.{text_words}
use Rattle.image_model.specs.Upwards.{first_given}
use Rattle.image_model.specs.Chain.{class_of_name, chain_from}
use Rattle.image_model.specs.Lookup.{is_method, own_method, on_chain, lookup, super_lookup}
use Rattle.image_model.specs.Replaced.{KeepsHierarchy}
use Rattle.image_model.proofs.Lists.{find-map, option_map-option_or}
use Rattle.image_model.proofs.UpwardsLemmas.{first_given-map}
use Rattle.image_model.proofs.Kept.{chain_from-kept, class_of_name-kept}
use Rattle.run_model.specs.Values.{Name}
use Rattle.run_model.specs.Runs.{doit_class}
use Rattle.resolved_model.specs.ResolvedImages.{plain_class, resolved_entry, resolved_image, is_resolved_method, found_on_chain, finds, finds_above, class_of_doits}

-- a fact of everything is one of each item
pub everywhere : {X : Type 0} (P : X → Type 0) → ((x : X) → P x) → (xs : List X) → AllByRecursion P xs
everywhere P h [] = tt
everywhere P h (x ∷ xs) = (h x, everywhere P h xs)

-- a fact of everything is one of what there may be
pub anywhere : {X : Type 0} (P : X → Type 0) → ((x : X) → P x) → (o : Option X) → OptionNames P o
anywhere P h None = tt
anywhere P h (Some x) = h x

-- a class keeps its name and superclass
plain-keeps : (c : ClassOf Name) → KeepsHierarchy plain_class c
plain-keeps c = record { name = refl; superclass = refl }

-- classes keep their names and superclasses
pub plain-hierarchy : (classes : List (ClassOf Name)) → AllByRecursion (KeepsHierarchy plain_class) classes
plain-hierarchy classes = everywhere (KeepsHierarchy plain_class) plain-keeps classes

module _ (i : ImageOf Name) where
  -- the method of a class, a side and a selector
  own-resolved : (c : Name) (meta : Bool) (s : Name) → find (is_resolved_method c meta s) (map (resolved_entry i) i.methods) ≡ option_map (resolved_entry i) (own_method text_eq i.methods c meta s)
  own-resolved c meta s = find-map (resolved_entry i) (is_method text_eq c meta s) (is_resolved_method c meta s) i.methods (everywhere _ (λ m. refl) i.methods)

  -- the first method on a chain
  chain-resolved : (o : Option (ClassOf Name)) (meta : Bool) (s : Name) → found_on_chain (resolved_image i) (option_map plain_class o) meta s ≡ option_map (resolved_entry i) (on_chain text_eq i o meta s)
  chain-resolved o meta s =
      ap (first_given (λ (c : ClassOf Name). find (is_resolved_method c.name meta s) (map (resolved_entry i) i.methods)))
      (chain_from-kept text_eq plain_class i.classes (plain-hierarchy i.classes) o (anywhere (KeepsHierarchy plain_class) plain-keeps o))
      ∙ first_given-map plain_class (resolved_entry i) (λ c. own_method text_eq i.methods c.name meta s) (λ c. find (is_resolved_method c.name meta s) (map (resolved_entry i) i.methods)) (chain_from text_eq i.classes o)
      (everywhere _ (λ c. own-resolved c.name meta s) (chain_from text_eq i.classes o))

  -- what a class understands as an object
  object-resolved : (b : Bool) (s : Name) → (if b then found_on_chain (resolved_image i) (find (λ d. text_words.is_class d.name) (map plain_class i.classes)) false s else None) ≡ option_map (resolved_entry i) (if b then on_chain text_eq i (find (λ d. text_words.is_class d.name) i.classes) false s else None)
  object-resolved true s =
      ap (λ o. found_on_chain (resolved_image i) o false s) (find-map plain_class (λ d. text_words.is_class d.name) (λ d. text_words.is_class d.name) i.classes (everywhere _ (λ d. refl) i.classes))
      ∙ chain-resolved (find (λ d. text_words.is_class d.name) i.classes) false s
  object-resolved false s = refl

  -- a look-up
  pub finds-resolved : (c : Option Name) (meta : Bool) (s : Name) → finds (resolved_image i) c meta s ≡ option_map (resolved_entry i) (lookup text_words i c meta s)
  finds-resolved c meta s =
      (λ j. option_or ((ap (λ o. found_on_chain (resolved_image i) o meta s) (class_of_name-kept text_eq plain_class i.classes (plain-hierarchy i.classes) c) ∙ chain-resolved (class_of_name text_eq i.classes c) meta s) j) (object-resolved meta s j))
      ∙ sym (option_map-option_or (resolved_entry i) (on_chain text_eq i (class_of_name text_eq i.classes c) meta s) (if meta then on_chain text_eq i (find (λ d. text_words.is_class d.name) i.classes) false s else None))

  -- the superclass of a class that there may be
  above-resolved : (o : Option (ClassOf Name)) → option_and_then (λ (d : ClassOf Name). d.superclass) (option_map plain_class o) ≡ option_and_then (λ (d : ClassOf Name). d.superclass) o
  above-resolved None = refl
  above-resolved (Some d) = refl

  -- a look-up for `super`
  pub finds_above-resolved : (c : Option Name) (meta : Bool) (s : Name) → finds_above (resolved_image i) c meta s ≡ option_map (resolved_entry i) (super_lookup text_words i c meta s)
  finds_above-resolved c meta s =
      ap (λ o. finds (resolved_image i) o meta s)
      (ap (λ o. option_and_then (λ (d : ClassOf Name). d.superclass) o) (class_of_name-kept text_eq plain_class i.classes (plain-hierarchy i.classes) c) ∙ above-resolved (class_of_name text_eq i.classes c))
      ∙ finds-resolved (option_and_then (λ (d : ClassOf Name). d.superclass) (class_of_name text_eq i.classes c)) meta s

  -- the name of a class that there may be
  name-resolved : (o : Option (ClassOf Name)) → option_map (λ (c : ClassOf Name). c.name) (option_map plain_class o) ≡ option_map (λ (c : ClassOf Name). c.name) o
  name-resolved None = refl
  name-resolved (Some c) = refl

  -- the class of do-its
  pub doits-class : class_of_doits (resolved_image i) ≡ doit_class i
  doits-class =
      ap (λ o. option_map (λ (c : ClassOf Name). c.name) o) (find-map plain_class (λ d. text_words.is_undefined_object d.name) (λ d. text_words.is_undefined_object d.name) i.classes (everywhere _ (λ d. refl) i.classes))
      ∙ name-resolved (find (λ d. text_words.is_undefined_object d.name) i.classes)
