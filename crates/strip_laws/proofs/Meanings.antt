-- Names that are meant mean the same in the image without what is not reached.
use Rattle.std.proofs.Common.{◌≡◌, ℕ, List, Option, Some, None, inl, inr, refl, ap, ◌∙◌, subst}
use Rattle.std.specs.Prelude.{Bool, true, false, if◌then◌else◌, codes, unwrap_or}
use Rattle.std.specs.Option.{option_map, option_or}
use Rattle.rb_base.specs.Names.{text_eq}
use Rattle.scope_model.specs.declared.local.Local.{Local}
use Rattle.scope_model.specs.declared.local.Local.TheVariants.{Argument, Temporary, NotLocal}
use Rattle.scope_model.specs.Scope.{local_in, local_in_doit}
use Rattle.image_model.specs.Image.{ClassOf, EntryOf, DoItOf, ImageOf}
use Rattle.image_model.specs.ImageNames.{OptionNames}
use Rattle.image_model.specs.Words.{text_words}
use Rattle.image_model.specs.Chain.{class_named, chain}
use Rattle.image_model.specs.Means.{MeaningOf, pseudo, a_class, transcript, undeclared, of_class, side_kind, as_variable, means_along, means_outside, means_by, means, means_in_doit}
use Rattle.run_model.specs.Values.{Name}
use Rattle.run_model.specs.Runs.{doit_class}
use Rattle.run_model.proofs.RenamingLemmas.{text-same}
use Rattle.mapped_model.specs.NamesOfImages.{HasOrderedClasses}
use Rattle.agreement_laws.specs.KernelChains.{HasKernelChains}
use Rattle.rename_laws.proofs.OutsideAfter.{find-passes}
use Rattle.strip_model.specs.Reach.{ReachOf, has_class, is_closed}
use Rattle.strip_laws.proofs.Chains.{left, Good, named-same, good-chain, word-good}

module _ (i : ImageOf Name) (r : ReachOf Name) (closed : is_closed text_words i r ≡ true) (before : HasOrderedClasses i) where
  -- the image without what is not reached
  abbrev j : ImageOf Name
  j = left i r closed before

  abbrev Fine : Option Name → Type 0
  Fine o = OptionNames (Good i r closed before) o

  -- the meaning behind all scopes, by what is found
  abbrev chosen : Option (MeaningOf Name) → Option (MeaningOf Name) → Name → Option (ClassOf Name) → MeaningOf Name
  chosen a b n o =
      unwrap_or (option_or a (option_or b (option_or (option_map (λ (c : ClassOf Name). a_class c.name) o) (if text_words.is_transcript n then Some transcript else None)))) undeclared

  along-same : (above : List (ClassOf Name)) (meta : Bool) (n : Name) → ((c : Name) → means_along text_words i.classes above meta n ≡ a_class c → has_class text_eq r c ≡ true) → means_along text_words j.classes above meta n ≡ means_along text_words i.classes above meta n
  along-same above meta n h = by (as_variable text_eq (side_kind meta) above n) (as_variable text_eq of_class above n) (class_named text_eq i.classes n) refl (find-passes (λ (e : ClassOf Name). text_eq n e.name) i.classes) h
    where
      by : (a b : Option (MeaningOf Name)) (o : Option (ClassOf Name)) → class_named text_eq i.classes n ≡ o → OptionNames (λ (e : ClassOf Name). text_eq n e.name ≡ true) o → ((c : Name) → chosen a b n o ≡ a_class c → has_class text_eq r c ≡ true) →
          chosen a b n (class_named text_eq j.classes n) ≡ chosen a b n o
      by (Some x) b o q t h = refl
      by None (Some x) o q t h = refl
      by None None None q t h = ap (chosen None None n) (named-same i r closed before n (inr q) ∙ q)
      by None None (Some e) q t h = ap (chosen None None n) (named-same i r closed before n (inl (ap (has_class text_eq r) (text-same n e.name t) ∙ h e.name refl)) ∙ q)

  outside-same : (o : Option Name) (meta : Bool) (n : Name) → Fine o → ((c : Name) → means_outside text_words i o meta n ≡ a_class c → has_class text_eq r c ≡ true) → means_outside text_words j o meta n ≡ means_outside text_words i o meta n
  outside-same o meta n g h = ap (λ cs. means_along text_words j.classes cs meta n) (good-chain i r closed before o g) ∙ along-same (chain text_eq i.classes o) meta n h

  -- with the scopes
  scoped-same : (p : Bool) (l : Local) (o : Option Name) (meta : Bool) (n : Name) → Fine o → ((c : Name) → (if p then pseudo else means_by l (means_outside text_words i o meta n)) ≡ a_class c → has_class text_eq r c ≡ true) →
      (if p then pseudo else means_by l (means_outside text_words j o meta n)) ≡ (if p then pseudo else means_by l (means_outside text_words i o meta n))
  scoped-same true l o meta n g h = refl
  scoped-same false (Argument k) o meta n g h = refl
  scoped-same false (Temporary k) o meta n g h = refl
  scoped-same false NotLocal o meta n g h = outside-same o meta n g h

  -- in a method
  pub means-same : (m : EntryOf Name) (path : List ℕ) (n : Name) → Fine m.class → ((c : Name) → means text_words i m path n ≡ a_class c → has_class text_eq r c ≡ true) → means text_words j m path n ≡ means text_words i m path n
  means-same m path n g h = scoped-same (text_words.tests.is_pseudo n) (local_in text_eq text_words.tests.is_pseudo m.tree path n) m.class m.meta n g h

  module _ (chains : HasKernelChains i) where
    nil-good : Good i r closed before (codes "UndefinedObject")
    nil-good = word-good i r closed before (codes "UndefinedObject") chains.0

    -- the class in which do-its are read
    pub doit-class : doit_class j ≡ doit_class i
    doit-class = ap (option_map (λ (c : ClassOf Name). c.name)) (named-same i r closed before (codes "UndefinedObject") nil-good)

    pub doit-good : Fine (doit_class i)
    doit-good = by (class_named text_eq i.classes (codes "UndefinedObject")) (find-passes (λ (e : ClassOf Name). text_eq (codes "UndefinedObject") e.name) i.classes)
      where
        by : (o : Option (ClassOf Name)) → OptionNames (λ (e : ClassOf Name). text_eq (codes "UndefinedObject") e.name ≡ true) o → Fine (option_map (λ (c : ClassOf Name). c.name) o)
        by None t = tt
        by (Some e) t = subst (Good i r closed before) (text-same (codes "UndefinedObject") e.name t) nil-good

    -- in a do-it
    pub doit-means-same : (d : DoItOf Name) (path : List ℕ) (n : Name) → ((c : Name) → means_in_doit text_words i d path n ≡ a_class c → has_class text_eq r c ≡ true) → means_in_doit text_words j d path n ≡ means_in_doit text_words i d path n
    doit-means-same d path n h =
        ap (λ o. if text_words.tests.is_pseudo n then pseudo else means_by (local_in_doit text_eq text_words.tests.is_pseudo d.body path n) (means_outside text_words j o false n)) doit-class
        ∙ scoped-same (text_words.tests.is_pseudo n) (local_in_doit text_eq text_words.tests.is_pseudo d.body path n) (doit_class i) false n doit-good h
