-- An image without what is not reached is valid, and can be written as a file and read again.
use Rattle.std.proofs.Common.{◌≡◌, List, Some, None, sym, ap, ◌∙◌, subst}
use Rattle.std.specs.Prelude.{◌↔◌, Bool, true, false, IsTrue, flat_map, option_map}
use Rattle.std.specs.List.{AllByRecursion}
use Rattle.std.proofs.lemmas.Option.{slice_get-map as get-map}
use Rattle.rb_base.specs.Names.{text_eq}
use Rattle.image_model.specs.Image.{ClassOf, EntryOf, DoItOf, ImageOf, plus}
use Rattle.image_model.specs.Words.{text_words}
use Rattle.image_model.specs.Means.{VariableKind, of_instance, of_class_side, of_class, variables}
use Rattle.image_model.specs.Valid.{ReadingOf, HasNoRepeat, class_names, GivesNames, DefinesOnceOnChain, signature, HasClass, IsUserMethod, IsValid, IsFileable}
use Rattle.image_model.proofs.ChainLemmas.{slice_get-map}
use Rattle.image_model.proofs.Ends.{contains-place, place-contains}
use Rattle.run_model.specs.Values.{Name}
use Rattle.mapped_model.specs.NamesOfImages.{HasOrderedClasses}
use Rattle.mapped_model.proofs.RenamedVariableLemmas.{at-all, all-at}
use Rattle.strip_model.specs.Reach.{ReachOf, has_class, has_method, is_closed}
use Rattle.strip_model.specs.Stripped.{strip}
use Rattle.strip_laws.proofs.Listed.{filter-all, filter-once, filter-filter, filter-place, place-filter}
use Rattle.strip_laws.proofs.Closed.{kernel-class, owner-in, kernel-method}
use Rattle.strip_laws.proofs.Orders.{strip-ordered}
use Rattle.strip_laws.proofs.Chains.{fit-chain}

module _ (reading : ReadingOf Name) (i : ImageOf Name) (e : DoItOf Name) (r : ReachOf Name) (closed : is_closed text_words (plus i e) r ≡ true) (before : HasOrderedClasses (plus i e)) where
  -- the image without what is not reached
  abbrev j : ImageOf Name
  j = strip text_eq r i

  abbrev InClass : ClassOf Name → Bool
  InClass c = has_class text_eq r c.name

  -- the variables of the chain of a class that is left
  once-left : (kind : VariableKind) → AllByRecursion (DefinesOnceOnChain text_eq i.classes kind) i.classes → AllByRecursion (DefinesOnceOnChain text_eq j.classes kind) j.classes
  once-left kind a =
      at-all (DefinesOnceOnChain text_eq j.classes kind) j.classes
      (λ k c at.
      let place = filter-place InClass i.classes k c at in
      subst (λ (cs : List (ClassOf Name)). HasNoRepeat (flat_map (variables kind) cs)) (sym (fit-chain (plus i e) r closed before (Some c) ((place.0, place.1), place.2)).0)
      (all-at (DefinesOnceOnChain text_eq i.classes kind) i.classes place.0 c a place.1))

  -- the class of a method that is left
  class-left : AllByRecursion (HasClass i.classes) i.methods → AllByRecursion (HasClass j.classes) j.methods
  class-left a =
      at-all (HasClass j.classes) j.methods
      (λ k m at.
      let place = filter-place (has_method text_eq r) i.methods k m at in
      let owner = all-at (HasClass i.classes) i.methods place.0 m a place.1 in
      let name = contains-place (class_names i.classes) owner.0 owner.2 in
      let named = slice_get-map (λ (c : ClassOf Name). c.name) i.classes name.0 owner.0 name.1 in
      let in-reach = owner-in (plus i e) r closed place.0 m owner.0 place.1 place.2 owner.1 in
      let kept = place-filter InClass i.classes name.0 named.0 named.1 (ap (has_class text_eq r) named.2 ∙ in-reach) in
      (owner.0, owner.1, place-contains (class_names j.classes) kept.0 owner.0 (get-map (λ (c : ClassOf Name). c.name) j.classes kept.0 ∙ ap (option_map (λ (c : ClassOf Name). c.name)) kept.1 ∙ ap Some named.2)))

  pub strip-valid : IsValid text_words reading i → IsValid text_words reading j
  strip-valid valid = record {
    class_names_distinct = filter-once (λ (c : ClassOf Name). c.name) InClass i.classes valid.class_names_distinct;
    superclasses_before = (strip-ordered (plus i e) r closed before).before;
    only_object_is_root = filter-all (λ (c : ClassOf Name). IsTrue (text_words.is_object c.name) ↔ (c.superclass ≡ None)) InClass i.classes valid.only_object_is_root;
    names_may_be_given = filter-all (GivesNames reading.IsName) InClass i.classes valid.names_may_be_given;
    instance_variables_once = once-left of_instance valid.instance_variables_once;
    class_side_variables_once = once-left of_class_side valid.class_side_variables_once;
    class_variables_once = filter-all (λ (c : ClassOf Name). HasNoRepeat (variables of_class c)) InClass i.classes valid.class_variables_once;
    methods_once = filter-once signature (has_method text_eq r) i.methods valid.methods_once;
    method_classes_there = class-left valid.method_classes_there;
    user_methods = filter-all (λ (m : EntryOf Name). m.kernel ≡ false → IsUserMethod reading m) (has_method text_eq r) i.methods valid.user_methods;
    doits = valid.doits;
    kernel_classes =
        filter-filter InClass (λ (c : ClassOf Name). c.kernel) i.classes (at-all (λ (c : ClassOf Name). c.kernel ≡ true → InClass c ≡ true) i.classes (λ k c at h. kernel-class (plus i e) r closed k c at h))
        ∙ valid.kernel_classes;
    kernel_methods =
        filter-filter (has_method text_eq r) (λ (m : EntryOf Name). m.kernel) i.methods
        (at-all (λ (m : EntryOf Name). m.kernel ≡ true → has_method text_eq r m ≡ true) i.methods
        (λ k m at h. let owner = all-at (HasClass i.classes) i.methods k m valid.method_classes_there at in kernel-method (plus i e) r closed k m owner.0 at owner.1 h))
        ∙ valid.kernel_methods;
  }

-- sources and do-its stay as they are
pub strip-fileable : (reading : ReadingOf Name) (i : ImageOf Name) (r : ReachOf Name) → IsFileable reading i → IsFileable reading (strip text_eq r i)
strip-fileable reading i r fileable = record {
  method_sources = filter-all (λ (m : EntryOf Name). m.kernel ≡ false → reading.IsSource m.source) (has_method text_eq r) i.methods fileable.method_sources;
  doit_sources = fileable.doit_sources;
  doit_chunks = fileable.doit_chunks;
  heads_within = fileable.heads_within;
}
