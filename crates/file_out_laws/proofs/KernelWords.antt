-- The classes of the kernel in an image that has them.
use Rattle.std.proofs.Common.{◌≡◌, ℕ, true, false, List, [], ◌∷◌, filter, length, Option, Some, None, refl, sym, ap, subst, ◌∙◌, true≢false}
use Rattle.std.specs.Prelude.{◌≢◌, IsTrue, slice_get, option_map, codes}
use Rattle.std.specs.List.{AllByRecursion}
use Rattle.std.specs.Option.{option_map_or}
use Rattle.rb_base.specs.Names.{text_eq}
use Rattle.rb_base.proofs.NamesLemmas.{text_eq-refl}
use Rattle.image_model.specs.Image.{ClassOf, ImageOf}
use Rattle.image_model.specs.ImageNames.{OptionNames}
use Rattle.image_model.specs.Chain.{class_named, superclass_of, chain_from, chain}
use Rattle.image_model.specs.Valid.{HasNoRepeat, class_names, SuperclassesStandBefore}
use Rattle.image_model.proofs.ChainLemmas.{chain_from-step}
use Rattle.image_model.proofs.Ends.{find-place}
use Rattle.image_model.proofs.Lists.{all-implies}
use Rattle.image_model.proofs.UpwardsLemmas.{upwards-none}
use Rattle.run_model.specs.ObjectPrimitives.{value_classes}
use Rattle.run_model.specs.Runs.{doit_class}
use Rattle.file_model.specs.Filing.{Text}
use Rattle.file_model.specs.Words.{may_name}
use Rattle.file_laws.proofs.Moves.{text_equal}
use Rattle.file_laws.proofs.Redefined.{named_at}
use Rattle.kernel_image.specs.KernelClasses.{kernel_class, under, kernel_classes}
use Rattle.rename_laws.specs.BehindKernel.{is_kernel_class}
use Rattle.rename_laws.proofs.OutsideAfter.{find-passes}
use Rattle.strip_laws.proofs.Listed.{filter-place}

-- the two classes of which do-its are code
abbrev pub undefined_object : ClassOf Text
undefined_object = under (codes "Object") (codes "UndefinedObject") []

abbrev pub object : ClassOf Text
object = kernel_class None (codes "Object") []

-- the kernel has them
pub has_undefined_object : class_named text_eq kernel_classes (codes "UndefinedObject") ≡ Some undefined_object
unfolding kernel_classes
has_undefined_object = refl

pub has_object : class_named text_eq kernel_classes (codes "Object") ≡ Some object
unfolding kernel_classes
has_object = refl

-- the kernel has a class of the name
abbrev pub IsInKernel : Text → Type 0
IsInKernel n = option_map_or (λ (c : ClassOf Text). c.kernel) (class_named text_eq kernel_classes n) false ≡ true

-- so it is of each class of which the language speaks
has_words : AllByRecursion IsInKernel value_classes
unfolding kernel_classes
has_words = (refl, (refl, (refl, (refl, (refl, (refl, (refl, (refl, (refl, (refl, (refl, tt)))))))))))

module _ (i : ImageOf Text) (distinct : HasNoRepeat (class_names i.classes)) (kernel : filter (λ (c : ClassOf Text). c.kernel) i.classes ≡ kernel_classes) where
  -- the place of a class of the kernel
  placed : (n : Text) (x : ClassOf Text) → class_named text_eq kernel_classes n ≡ Some x → (k : ℕ) × (slice_get i.classes k ≡ Some x)
  placed n x e =
      let at = find-place (λ (c : ClassOf Text). text_eq n c.name) (filter (λ (c : ClassOf Text). c.kernel) i.classes) x (ap (λ cs. class_named text_eq cs n) kernel ∙ e) in
      let there = filter-place (λ (c : ClassOf Text). c.kernel) i.classes at.0 x at.1 in (there.0, there.1)

  -- it is found by its name
  pub kernel_kept : (n : Text) (x : ClassOf Text) → class_named text_eq kernel_classes n ≡ Some x → class_named text_eq i.classes n ≡ Some x
  kernel_kept n x e =
      let at = placed n x e in
      let passes = subst (OptionNames (λ (c : ClassOf Text). text_eq n c.name ≡ true)) e (find-passes (λ (c : ClassOf Text). text_eq n c.name) kernel_classes) in
      ap (class_named text_eq i.classes) (text_equal n x.name passes) ∙ named_at text_eq text_eq-refl text_equal i.classes at.0 x distinct at.1

  -- and is one of the kernel there
  pub word_kept : (n : Text) → IsInKernel n → is_kernel_class i n ≡ true
  word_kept n h = by (class_named text_eq kernel_classes n) refl h
    where
      by : (o : Option (ClassOf Text)) → class_named text_eq kernel_classes n ≡ o → option_map_or (λ (c : ClassOf Text). c.kernel) o false ≡ true → is_kernel_class i n ≡ true
      by None e k = absurd (true≢false (sym k))
      by (Some x) e k = ap (λ o. option_map_or (λ (c : ClassOf Text). c.kernel) o false) (kernel_kept n x e) ∙ k

  pub words_kept : AllByRecursion (λ n. IsTrue (is_kernel_class i n)) value_classes
  words_kept = all-implies IsInKernel (λ n. IsTrue (is_kernel_class i n)) word_kept value_classes has_words

  module _ (before : SuperclassesStandBefore i.classes) where
    -- the chain of the class of do-its
    doits_chain : chain text_eq i.classes (doit_class i) ≡ undefined_object ∷ object ∷ []
    doits_chain =
        let first = placed (codes "UndefinedObject") undefined_object has_undefined_object in
        let second = placed (codes "Object") object has_object in
        ap (λ o. chain text_eq i.classes (option_map (λ (c : ClassOf Text). c.name) o)) (kernel_kept (codes "UndefinedObject") undefined_object has_undefined_object)
        ∙ ap (chain_from text_eq i.classes) (kernel_kept (codes "UndefinedObject") undefined_object has_undefined_object)
        ∙ chain_from-step text_eq text_eq-refl i.classes before first.0 undefined_object first.1
        ∙ ap (λ o. undefined_object ∷ chain_from text_eq i.classes o) (kernel_kept (codes "Object") object has_object)
        ∙ ap (λ (cs : List (ClassOf Text)). undefined_object ∷ cs) (chain_from-step text_eq text_eq-refl i.classes before second.0 object second.1)
        ∙ ap (λ (cs : List (ClassOf Text)). undefined_object ∷ object ∷ cs) (upwards-none (superclass_of text_eq i.classes) (length i.classes))

    -- its classes are the kernel's
    pub doits_kernel : AllByRecursion (λ (e : ClassOf Text). IsTrue e.kernel) (chain text_eq i.classes (doit_class i))
    doits_kernel = subst (AllByRecursion (λ (e : ClassOf Text). IsTrue e.kernel)) (sym doits_chain) (refl, (refl, tt))

-- a name that may be given is not empty
pub given_some : (n : Text) → IsTrue (may_name n) → n ≢ []
given_some n h e = true≢false (sym h ∙ ap may_name e)
