-- What stays where a class, a method or a do-it is put in at the end.
use Rattle.std.proofs.Common.{◌≡◌, ◌⊎◌, inl, inr, ℕ, zero, suc, ◌<◌, Bool, true, false, cond, List, [], ◌∷◌, ◌++◌, length, map, find, Option, Some, None, option_map, unwrap_or, slice_get, Contains, refl, sym, ap, subst, ◌∙◌, arith}
use Rattle.std.specs.List.{AllByRecursion, flat_map}
use Rattle.std.specs.Option.{option_or}
use Rattle.std.proofs.lemmas.List.{map-append}
use Rattle.std.proofs.lemmas.List.Elements.{Contains-append_left}
use Rattle.std.proofs.lemmas.Option.{slice_get_within}
use Rattle.scope_model.specs.Scope.{local_in}
use Rattle.image_model.specs.Image.{ClassOf, EntryOf, DoItOf, ImageOf, plus}
use Rattle.image_model.specs.Words.{WordsOf}
use Rattle.image_model.specs.Upwards.{upwards, first_given}
use Rattle.image_model.specs.Chain.{class_named, class_of_name, superclass_of, chain_from, chain}
use Rattle.image_model.specs.Lookup.{own_method, on_chain, as_object, lookup}
use Rattle.image_model.specs.Means.{VariableKind, of_instance, of_class_side, of_class, variables, pseudo, a_class, transcript, undeclared, as_variable, side_kind, means_along, means_outside, means_by, means}
use Rattle.image_model.specs.Valid.{ReadingOf, HasNoRepeat, class_names, SuperclassesStandBefore, DefinesOnceOnChain, signature, HasClass, IsUserDoIt, IsValid}
use Rattle.image_model.specs.Grown.{with_class, with_method, variables_up, IsNewClass, IsNewMethod}
use Rattle.image_model.proofs.ChainLemmas.{slice_get-map, superclass_before, chain_from-step}
use Rattle.image_model.proofs.UpwardsLemmas.{upwards-none, upwards-enough}
use Rattle.image_model.proofs.Lists.{all-implies, length-map}
use Rattle.image_model.proofs.Ends.{contains-place, place-contains, length-end, slice_get-front, slice_get-end, HasNoRepeat-end, all-end, all-at, find-front, find-end, find-place, filter-end}

-- the names of classes with one more
class_names-end : {N : Type 0} (classes : List (ClassOf N)) (c : ClassOf N) → class_names (classes ++ c ∷ []) ≡ class_names classes ++ c.name ∷ []
class_names-end classes c = map-append (λ (d : ClassOf _). d.name) classes (c ∷ [])

module _ {N : Type 0} (same : N → N → Bool) (reflexive : (n : N) → same n n ≡ true) (classes : List (ClassOf N)) (c : ClassOf N) where
  -- the class of a name that a class has
  class_named-end : (n : N) → Contains (class_names classes) n → class_named same (classes ++ c ∷ []) n ≡ class_named same classes n
  class_named-end n has =
      let place = contains-place (class_names classes) n has in
      let at = slice_get-map (λ (d : ClassOf N). d.name) classes place.0 n place.1 in
      find-front (λ d. same n d.name) classes (c ∷ []) place.0 at.0 at.1 (ap (same n) at.2 ∙ reflexive n)

  module _ (before : SuperclassesStandBefore classes) where
    -- the superclass of a class that was there
    superclass_of-end : (j : ℕ) (d : ClassOf N) → slice_get classes j ≡ Some d → superclass_of same (classes ++ c ∷ []) d ≡ superclass_of same classes d
    superclass_of-end j d at = by d.superclass refl
      where
        by : (o : Option N) → d.superclass ≡ o → class_of_name same (classes ++ c ∷ []) o ≡ class_of_name same classes o
        by None e = refl
        by (Some n) e = let named = before j d n at e in class_named-end n (place-contains (class_names classes) named.0 n named.2)

    upwards-end : (k j : ℕ) (d : ClassOf N) → slice_get classes j ≡ Some d → upwards (superclass_of same (classes ++ c ∷ [])) k (Some d) ≡ upwards (superclass_of same classes) k (Some d)
    upwards-end zero j d at = refl
    upwards-end (suc k) j d at =
        ap (λ (ds : List (ClassOf N)). d ∷ ds) (ap (upwards (superclass_of same (classes ++ c ∷ [])) k) (superclass_of-end j d at) ∙ by (superclass_of same classes d) refl (λ i e there. upwards-end k i e there))
      where
        by : (o : Option (ClassOf N)) → superclass_of same classes d ≡ o
            → ((i : ℕ) (e : ClassOf N) → slice_get classes i ≡ Some e → upwards (superclass_of same (classes ++ c ∷ [])) k (Some e) ≡ upwards (superclass_of same classes) k (Some e))
            → upwards (superclass_of same (classes ++ c ∷ [])) k o ≡ upwards (superclass_of same classes) k o
        by None q rest = upwards-none (superclass_of same (classes ++ c ∷ [])) k ∙ sym (upwards-none (superclass_of same classes) k)
        by (Some e) q rest = let there = superclass_before same reflexive classes before j d e at q in rest there.0 e there.2

    -- the chain of a class that was there
    pub chain_from-end : (j : ℕ) (d : ClassOf N) → slice_get classes j ≡ Some d → chain_from same (classes ++ c ∷ []) (Some d) ≡ chain_from same classes (Some d)
    chain_from-end j d at =
        upwards-end (length (classes ++ c ∷ [])) j d at
        ∙ upwards-enough (superclass_of same classes) (λ k e. slice_get classes k ≡ Some e) (superclass_before same reflexive classes before) (length classes) j (length (classes ++ c ∷ [])) (length classes) d
        (slice_get_within classes j d at) (omega (arith, length-end classes c)) (omega arith) at

    -- the chain of what is found among the classes that were there
    pub chain_from-found : (p : ClassOf N → Bool) → chain_from same (classes ++ c ∷ []) (find p classes) ≡ chain_from same classes (find p classes)
    chain_from-found p = by (find p classes) refl
      where
        by : (o : Option (ClassOf N)) → find p classes ≡ o → chain_from same (classes ++ c ∷ []) o ≡ chain_from same classes o
        by None e = upwards-none (superclass_of same (classes ++ c ∷ [])) (length (classes ++ c ∷ [])) ∙ sym (upwards-none (superclass_of same classes) (length classes))
        by (Some d) e = let place = find-place p classes d e in chain_from-end place.0 d place.1

    -- the chain of a name that a class has
    pub chain-end : (n : N) → Contains (class_names classes) n → chain same (classes ++ c ∷ []) (Some n) ≡ chain same classes (Some n)
    chain-end n has = ap (chain_from same (classes ++ c ∷ [])) (class_named-end n has) ∙ chain_from-found (λ d. same n d.name)

    -- the chain above a class whose superclass was there
    chain-above : (o : Option N) → ((n : N) → o ≡ Some n → Contains (class_names classes) n) → chain same (classes ++ c ∷ []) o ≡ chain same classes o
    chain-above None has = upwards-none (superclass_of same (classes ++ c ∷ [])) (length (classes ++ c ∷ [])) ∙ sym (upwards-none (superclass_of same classes) (length classes))
    chain-above (Some n) has = chain-end n (has n refl)

    module _ (superclass_there : (n : N) → c.superclass ≡ Some n → Contains (class_names classes) n) where
      -- each superclass stands before its subclasses
      pub SuperclassesStandBefore-end : SuperclassesStandBefore (classes ++ c ∷ [])
      SuperclassesStandBefore-end k d n at super = by (slice_get-end classes c d k at)
        where
          stays : (j : ℕ) → slice_get (class_names classes) j ≡ Some n → slice_get (class_names (classes ++ c ∷ [])) j ≡ Some n
          stays j e = ap (λ (ns : List N). slice_get ns j) (class_names-end classes c) ∙ slice_get-front (class_names classes) (c.name ∷ []) j n e

          by : (slice_get classes k ≡ Some d) ⊎ ((k ≡ length classes) × (c ≡ d)) → (j : ℕ) × (j < k) × (slice_get (class_names (classes ++ c ∷ [])) j ≡ Some n)
          by (inl e) = let named = before k d n e super in (named.0, named.1, stays named.0 named.2)
          by (inr e) =
              let has = superclass_there n (ap (λ (x : ClassOf N). x.superclass) e.1 ∙ super) in
              let place = contains-place (class_names classes) n has in
              let within : place.0 < length (class_names classes) = slice_get_within (class_names classes) place.0 n place.1 in
              (place.0, omega (arith, within, e.0, length-map (λ (x : ClassOf N). x.name) classes), stays place.0 place.1)

      -- the chain of the new class
      pub chain_from-new : chain_from same (classes ++ c ∷ []) (Some c) ≡ c ∷ chain same classes c.superclass
      chain_from-new = chain_from-step same reflexive (classes ++ c ∷ []) SuperclassesStandBefore-end (length classes) c (at_end classes) ∙ ap (λ (ds : List (ClassOf N)). c ∷ ds) (chain-above c.superclass superclass_there)
        where
          at_end : (ds : List (ClassOf N)) → slice_get (ds ++ c ∷ []) (length ds) ≡ Some c
          at_end [] = refl
          at_end (d ∷ ds) = at_end ds

      -- variables that are defined once
      pub DefinesOnceOnChain-end : (kind : VariableKind) → AllByRecursion (DefinesOnceOnChain same classes kind) classes → HasNoRepeat (variables_up same kind classes c)
          → AllByRecursion (DefinesOnceOnChain same (classes ++ c ∷ []) kind) (classes ++ c ∷ [])
      DefinesOnceOnChain-end kind all once =
          all-end _ classes c
          (all-at (DefinesOnceOnChain same classes kind) _ classes (λ j d at p. subst (λ (ds : List (ClassOf N)). HasNoRepeat (flat_map (variables kind) ds)) (sym (chain_from-end j d at)) p) all)
          (subst (λ (ds : List (ClassOf N)). HasNoRepeat (flat_map (variables kind) ds)) (sym chain_from-new) once)

-- the class of a method is there as before
HasClass-end : {N : Type 0} (classes : List (ClassOf N)) (c : ClassOf N) (m : EntryOf N) → HasClass classes m → HasClass (classes ++ c ∷ []) m
HasClass-end {N} classes c m has = (has.0, has.1, subst (λ (ns : List N). Contains ns has.0) (sym (class_names-end classes c)) (Contains-append_left (class_names classes) (c.name ∷ []) has.0 has.2))

module _ {N : Type 0} (w : WordsOf N) (r : ReadingOf N) (i : ImageOf N) (valid : IsValid w r i) where
  -- a valid image stays valid with a new class
  pub IsValid-with_class : (c : ClassOf N) → ((n : N) → w.tests.same n n ≡ true) → IsNewClass w r i c → IsValid w r (with_class i c)
  IsValid-with_class c reflexive new = record {
    class_names_distinct = subst (λ (ns : List N). HasNoRepeat ns) (sym (class_names-end i.classes c)) (HasNoRepeat-end (class_names i.classes) c.name valid.class_names_distinct new.name_is_new);
    superclasses_before = SuperclassesStandBefore-end w.tests.same reflexive i.classes c valid.superclasses_before new.superclass_there;
    only_object_is_root = all-end _ i.classes c valid.only_object_is_root new.only_object_is_root;
    names_may_be_given = all-end _ i.classes c valid.names_may_be_given new.names_may_be_given;
    instance_variables_once = DefinesOnceOnChain-end w.tests.same reflexive i.classes c valid.superclasses_before new.superclass_there of_instance valid.instance_variables_once new.instance_variables_once;
    class_side_variables_once = DefinesOnceOnChain-end w.tests.same reflexive i.classes c valid.superclasses_before new.superclass_there of_class_side valid.class_side_variables_once new.class_side_variables_once;
    class_variables_once = all-end _ i.classes c valid.class_variables_once new.class_variables_once;
    methods_once = valid.methods_once;
    method_classes_there = all-implies _ _ (HasClass-end i.classes c) i.methods valid.method_classes_there;
    user_methods = valid.user_methods;
    doits = valid.doits;
    kernel_classes = filter-end (λ (d : ClassOf N). d.kernel) i.classes c new.user ∙ valid.kernel_classes;
    kernel_methods = valid.kernel_methods;
  }

  -- a valid image stays valid with a new method
  pub IsValid-with_method : (m : EntryOf N) → IsNewMethod r i m → IsValid w r (with_method i m)
  IsValid-with_method m new = record {
    class_names_distinct = valid.class_names_distinct;
    superclasses_before = valid.superclasses_before;
    only_object_is_root = valid.only_object_is_root;
    names_may_be_given = valid.names_may_be_given;
    instance_variables_once = valid.instance_variables_once;
    class_side_variables_once = valid.class_side_variables_once;
    class_variables_once = valid.class_variables_once;
    methods_once = subst (λ (ss : List (Option N × Bool × N)). HasNoRepeat ss) (sym (map-append signature i.methods (m ∷ []))) (HasNoRepeat-end (map signature i.methods) (signature m) valid.methods_once new.signature_is_new);
    method_classes_there = all-end _ i.methods m valid.method_classes_there new.class_there;
    user_methods = all-end _ i.methods m valid.user_methods (λ e. new.spells);
    doits = valid.doits;
    kernel_classes = valid.kernel_classes;
    kernel_methods = filter-end (λ (n : EntryOf N). n.kernel) i.methods m new.user ∙ valid.kernel_methods;
  }

  -- a valid image stays valid with one more do-it
  pub IsValid-plus : (d : DoItOf N) → IsUserDoIt r d → IsValid w r (plus i d)
  IsValid-plus d new = record {
    class_names_distinct = valid.class_names_distinct;
    superclasses_before = valid.superclasses_before;
    only_object_is_root = valid.only_object_is_root;
    names_may_be_given = valid.names_may_be_given;
    instance_variables_once = valid.instance_variables_once;
    class_side_variables_once = valid.class_side_variables_once;
    class_variables_once = valid.class_variables_once;
    methods_once = valid.methods_once;
    method_classes_there = valid.method_classes_there;
    user_methods = valid.user_methods;
    doits = all-end _ i.doits d valid.doits new;
    kernel_classes = valid.kernel_classes;
    kernel_methods = valid.kernel_methods;
  }

module _ {N : Type 0} (w : WordsOf N) (reflexive : (n : N) → w.tests.same n n ≡ true) (i : ImageOf N) (before : SuperclassesStandBefore i.classes) (c : ClassOf N) where
  on_chain-end : (p : ClassOf N → Bool) (meta : Bool) (s : N) → on_chain w.tests.same (with_class i c) (find p i.classes) meta s ≡ on_chain w.tests.same i (find p i.classes) meta s
  on_chain-end p meta s = ap (first_given (λ d. own_method w.tests.same i.methods d.name meta s)) (chain_from-found w.tests.same reflexive i.classes c before p)

  -- a look-up from a class that was there
  pub lookup-end : (n : N) (meta : Bool) (s : N) → Contains (class_names i.classes) n → w.is_class c.name ≡ false → lookup w (with_class i c) (Some n) meta s ≡ lookup w i (Some n) meta s
  lookup-end n meta s has other = λ j. option_or (first j) (second meta j)
    where
      first : on_chain w.tests.same (with_class i c) (class_named w.tests.same (i.classes ++ c ∷ []) n) meta s ≡ on_chain w.tests.same i (class_named w.tests.same i.classes n) meta s
      first = ap (λ o. on_chain w.tests.same (with_class i c) o meta s) (class_named-end w.tests.same reflexive i.classes c n has) ∙ on_chain-end (λ d. w.tests.same n d.name) meta s

      object : as_object w (with_class i c) s ≡ as_object w i s
      object = ap (λ o. on_chain w.tests.same (with_class i c) o false s) (find-end (λ (d : ClassOf N). w.is_class d.name) i.classes c other) ∙ on_chain-end (λ d. w.is_class d.name) false s

      second : (b : Bool) → cond b (as_object w (with_class i c) s) None ≡ cond b (as_object w i s) None
      second true = object
      second false = refl

  -- what another name than that of the new class stands for in a method of a class that was there
  pub means-end : (m : EntryOf N) (path : List ℕ) (n : N) → HasClass i.classes m → w.tests.same n c.name ≡ false → means w (with_class i c) m path n ≡ means w i m path n
  means-end m path n has other = ap (λ o. cond (w.tests.is_pseudo n) pseudo (means_by (local_in w.tests.same w.tests.is_pseudo m.tree path n) o)) outside
    where
      chains : chain w.tests.same (i.classes ++ c ∷ []) m.class ≡ chain w.tests.same i.classes m.class
      chains = ap (chain w.tests.same (i.classes ++ c ∷ [])) has.1 ∙ chain-end w.tests.same reflexive i.classes c before has.0 has.2 ∙ ap (chain w.tests.same i.classes) (sym has.1)

      along : (above : List (ClassOf N)) → means_along w (i.classes ++ c ∷ []) above m.meta n ≡ means_along w i.classes above m.meta n
      along above =
          ap (λ (o : Option (ClassOf N)). unwrap_or (option_or (as_variable w.tests.same (side_kind m.meta) above n) (option_or (as_variable w.tests.same of_class above n) (option_or (option_map (λ (d : ClassOf N). a_class d.name) o) (cond (w.is_transcript n) (Some transcript) None)))) undeclared)
          (find-end (λ (d : ClassOf N). w.tests.same n d.name) i.classes c other)

      outside : means_outside w (with_class i c) m.class m.meta n ≡ means_outside w i m.class m.meta n
      outside = ap (λ (above : List (ClassOf N)). means_along w (i.classes ++ c ∷ []) above m.meta n) chains ∙ along (chain w.tests.same i.classes m.class)
