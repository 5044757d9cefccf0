-- Valid images in which a method is taken out or replaced.
use Rattle.std.proofs.Common.{◌≡◌, Bool, false, List, ◌∷◌, ◌++◌, map, Option, sym, ap, subst, ◌∙◌}
use Rattle.std.proofs.lemmas.List.{map-append}
use Rattle.image_model.specs.Image.{EntryOf, ImageOf}
use Rattle.image_model.specs.Words.{WordsOf}
use Rattle.image_model.specs.Valid.{ReadingOf, HasNoRepeat, signature, HasClass, IsUserMethod, IsValid}
use Rattle.image_model.specs.Replaced.{with_methods}
use Rattle.image_model.proofs.Middles.{HasNoRepeat-less, all-less, all-of, all-more, filter-more}

module _ {N : Type 0} (w : WordsOf N) (r : ReadingOf N) (i : ImageOf N) (front : List (EntryOf N)) (m : EntryOf N) (back : List (EntryOf N)) (valid : IsValid w r (with_methods i (front ++ m ∷ back))) (user : m.kernel ≡ false) where
  -- a valid image without one of its methods
  pub IsValid-less : IsValid w r (with_methods i (front ++ back))
  IsValid-less = record {
    class_names_distinct = valid.class_names_distinct;
    superclasses_before = valid.superclasses_before;
    only_object_is_root = valid.only_object_is_root;
    names_may_be_given = valid.names_may_be_given;
    instance_variables_once = valid.instance_variables_once;
    class_side_variables_once = valid.class_side_variables_once;
    class_variables_once = valid.class_variables_once;
    methods_once =
        subst (λ (ss : List (Option N × Bool × N)). HasNoRepeat ss) (sym (map-append signature front back))
        (HasNoRepeat-less (map signature front) (signature m) (map signature back) (subst (λ (ss : List (Option N × Bool × N)). HasNoRepeat ss) (map-append signature front (m ∷ back)) valid.methods_once));
    method_classes_there = all-less _ front m back valid.method_classes_there;
    user_methods = all-less _ front m back valid.user_methods;
    doits = valid.doits;
    kernel_classes = valid.kernel_classes;
    kernel_methods = sym (filter-more (λ (n : EntryOf N). n.kernel) front m back user) ∙ valid.kernel_methods;
  }

  -- a valid image with another method in the place of one
  pub IsValid-other : (n : EntryOf N) → signature n ≡ signature m → IsUserMethod r n → n.kernel ≡ false → IsValid w r (with_methods i (front ++ n ∷ back))
  IsValid-other n same spells other = record {
    class_names_distinct = valid.class_names_distinct;
    superclasses_before = valid.superclasses_before;
    only_object_is_root = valid.only_object_is_root;
    names_may_be_given = valid.names_may_be_given;
    instance_variables_once = valid.instance_variables_once;
    class_side_variables_once = valid.class_side_variables_once;
    class_variables_once = valid.class_variables_once;
    methods_once = subst (λ (ss : List (Option N × Bool × N)). HasNoRepeat ss) (sym signatures) valid.methods_once;
    method_classes_there = all-more _ front n back (all-less _ front m back valid.method_classes_there) (has.0, ap (λ (t : Option N × Bool × N). t.0) same ∙ has.1, has.2);
    user_methods = all-more _ front n back (all-less _ front m back valid.user_methods) (λ e. spells);
    doits = valid.doits;
    kernel_classes = valid.kernel_classes;
    kernel_methods = filter-more (λ (k : EntryOf N). k.kernel) front n back other ∙ sym (filter-more (λ (k : EntryOf N). k.kernel) front m back user) ∙ valid.kernel_methods;
  }
    where
      has : HasClass i.classes m
      has = all-of (HasClass i.classes) front m back valid.method_classes_there

      signatures : map signature (front ++ n ∷ back) ≡ map signature (front ++ m ∷ back)
      signatures = map-append signature front (n ∷ back) ∙ ap (λ (t : Option N × Bool × N). map signature front ++ t ∷ map signature back) same ∙ sym (map-append signature front (m ∷ back))
