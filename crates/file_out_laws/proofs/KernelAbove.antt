-- The superclass of a class of the kernel is one of the kernel, in each image that has the kernel's classes.
use Rattle.std.proofs.Common.{◌≡◌, true, false, filter, length, Option, Some, None, refl, sym, subst}
use Rattle.std.specs.Prelude.{IsTrue}
use Rattle.std.specs.List.{AllByRecursion}
use Rattle.std.specs.Option.{option_map_or}
use Rattle.rb_base.specs.Names.{text_eq}
use Rattle.image_model.specs.Image.{ClassOf, ImageOf}
use Rattle.image_model.specs.ImageNames.{OptionNames}
use Rattle.image_model.specs.Chain.{class_named, class_of_name, superclass_of, chain}
use Rattle.image_model.proofs.Lists.{all-implies}
use Rattle.image_model.proofs.UpwardsLemmas.{upwards-all}
use Rattle.run_model.specs.ObjectPrimitives.{value_classes}
use Rattle.mapped_model.specs.NamesOfImages.{HasOrderedClasses}
use Rattle.file_model.specs.Filing.{Text}
use Rattle.kernel_image.specs.KernelClasses.{kernel_classes}
use Rattle.rename_laws.specs.BehindKernel.{is_kernel_class}
use Rattle.mapped_model.proofs.RenamedVariableLemmas.{all-at}
use Rattle.strip_laws.proofs.Listed.{place-filter}
use Rattle.file_out_laws.proofs.KernelWords.{IsInKernel, word_kept}
use Rattle.agreement_laws.specs.KernelChains.{HasKernelChains}
use Rattle.agreement_laws.proofs.KernelChains.{IsThere, named-there}

-- the kernel has each superclass of its classes
has_above : AllByRecursion (λ (c : ClassOf Text). OptionNames IsInKernel c.superclass) kernel_classes
unfolding kernel_classes
has_above = (tt, (refl, (refl, (refl, (refl, (refl, (refl, (refl, (refl, (refl, (refl, (refl, (refl, (refl, (refl, (refl, (refl, (refl, (refl, (refl, tt))))))))))))))))))))

module _ (i : ImageOf Text) (ordered : HasOrderedClasses i) (kernel : filter (λ (c : ClassOf Text). c.kernel) i.classes ≡ kernel_classes) where
  -- a class of the image that is one of the kernel
  abbrev pub IsOfKernel : ClassOf Text → Type 0
  IsOfKernel e = IsThere i ordered e × IsTrue e.kernel

  -- the class of such a name
  pub named-kernel : (n : Text) → is_kernel_class i n ≡ true → OptionNames IsOfKernel (class_named text_eq i.classes n)
  named-kernel n h = by (class_named text_eq i.classes n) (named-there i ordered (Some n)) h
    where
      by : (o : Option (ClassOf Text)) → OptionNames (IsThere i ordered) o → option_map_or (λ (c : ClassOf Text). c.kernel) o false ≡ true → OptionNames IsOfKernel o
      by None at k = tt
      by (Some x) at k = (at, k)

  -- its superclass
  above-kernel : (e : ClassOf Text) → IsOfKernel e → OptionNames IsOfKernel (superclass_of text_eq i.classes e)
  above-kernel e h =
      let at = place-filter (λ (c : ClassOf Text). c.kernel) i.classes h.0.0 e h.0.1 h.1 in
      by e.superclass (all-at (λ (c : ClassOf Text). OptionNames IsInKernel c.superclass) (filter (λ (c : ClassOf Text). c.kernel) i.classes) at.0 e (subst (AllByRecursion (λ (c : ClassOf Text). OptionNames IsInKernel c.superclass)) (sym kernel) has_above) at.1)
    where
      by : (o : Option Text) → OptionNames IsInKernel o → OptionNames IsOfKernel (class_of_name text_eq i.classes o)
      by None k = tt
      by (Some n) k = named-kernel n (word_kept i ordered.distinct kernel n k)

  -- all above
  chain-kernel : (n : Text) → IsTrue (is_kernel_class i n) → AllByRecursion (λ (e : ClassOf Text). IsTrue e.kernel) (chain text_eq i.classes (Some n))
  chain-kernel n h =
      all-implies IsOfKernel (λ (e : ClassOf Text). IsTrue e.kernel) (λ e k. k.1) (chain text_eq i.classes (Some n)) (upwards-all IsOfKernel (superclass_of text_eq i.classes) above-kernel (length i.classes) (class_named text_eq i.classes n) (named-kernel n h))

  pub kernel-chains : AllByRecursion (λ n. IsTrue (is_kernel_class i n)) value_classes → HasKernelChains i
  kernel-chains words = all-implies (λ n. IsTrue (is_kernel_class i n)) (λ n. AllByRecursion (λ (e : ClassOf Text). IsTrue e.kernel) (chain text_eq i.classes (Some n))) chain-kernel value_classes words
