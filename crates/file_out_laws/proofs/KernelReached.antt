-- Look-ups that agree on lists that hold the kernel's classes agree also above do-its.
use Rattle.std.proofs.Common.{◌≡◌, true, false, List, [], ◌∷◌, filter, Option, Some, None, refl, sym, ap, subst, ◌∙◌}
use Rattle.std.specs.Prelude.{IsTrue, Contains, codes, option_map}
use Rattle.std.specs.List.{AllByRecursion}
use Rattle.std.specs.Option.{option_and_then, option_map_or}
use Rattle.std.proofs.lemmas.Bool.{false≢true}
use Rattle.rb_base.specs.Names.{text_eq}
use Rattle.rb_base.proofs.NamesLemmas.{text_eq-refl}
use Rattle.tree_model.specs.Tree.{send}
use Rattle.image_model.specs.Image.{ClassOf, DoItOf, ImageOf}
use Rattle.image_model.specs.ImageNames.{OptionNames}
use Rattle.image_model.specs.Words.{text_words}
use Rattle.image_model.specs.Chain.{class_named}
use Rattle.image_model.specs.Lookup.{lookup, super_lookup}
use Rattle.image_model.specs.Means.{means_in_doit}
use Rattle.run_model.specs.ObjectPrimitives.{value_classes}
use Rattle.run_model.specs.Runs.{doit_class}
use Rattle.run_model.proofs.RenamingLemmas.{text-same}
use Rattle.mapped_model.specs.NamesOfImages.{HasOrderedClasses}
use Rattle.mapped_model.proofs.RenamedVariableLemmas.{all-at, at-all}
use Rattle.file_model.specs.Filing.{Text}
use Rattle.kernel_image.specs.KernelClasses.{kernel_classes}
use Rattle.rename_laws.specs.BehindKernel.{is_kernel_class}
use Rattle.agreement_laws.specs.AgreeingImages.{Reached, IsWithin, IsFound, FindsAbove, AgreeOnReached, LookupsAgree}
use Rattle.rename_laws.proofs.OutsideAfter.{find-passes}
use Rattle.file_out_laws.proofs.KernelWords.{undefined_object, object, has_undefined_object, has_object, kernel_kept}
use Rattle.file_out_laws.proofs.KernelAbove.{IsOfKernel, named-kernel}

-- an image has the classes of the kernel
abbrev pub HasKernel : ImageOf Text → Type 0
HasKernel x = filter (λ (c : ClassOf Text). c.kernel) x.classes ≡ kernel_classes

-- messages to `super` in do-its begin at `Object`
super-object : (x : ImageOf Text) → HasOrderedClasses x → HasKernel x → (s : Text) → super_lookup text_words x (doit_class x) false s ≡ lookup text_words x (Some (codes "Object")) false s
super-object x ordered kernel s =
    let there = kernel_kept x ordered.distinct kernel (codes "UndefinedObject") undefined_object has_undefined_object in
    ap (λ o. super_lookup text_words x (option_map (λ (c : ClassOf Text). c.name) o) false s) there ∙ ap (λ o. lookup text_words x (option_and_then (λ (c : ClassOf Text). c.superclass) o) false s) there

module _ (r : Reached) (i j : ImageOf Text) (before : HasOrderedClasses i) (after : HasOrderedClasses j) (kernel : HasKernel i) (kernel_after : HasKernel j) (words : AllByRecursion (λ n. IsTrue (is_kernel_class i n)) value_classes) (agree : LookupsAgree r i j) where
  -- a name of a class of the kernel is among the classes
  named-among : (n : Text) → is_kernel_class i n ≡ true → (e : ClassOf Text) → class_named text_eq i.classes n ≡ Some e → Contains r.classes n
  named-among n h e q =
      let at = subst (OptionNames (IsOfKernel i before kernel)) q (named-kernel i before kernel n h) in
      let called = text-same n e.name (subst (OptionNames (λ (c : ClassOf Text). text_eq n c.name ≡ true)) q (find-passes (λ (c : ClassOf Text). text_eq n c.name) i.classes)) in
      subst (Contains r.classes) (sym called) (all-at (λ (c : ClassOf Text). c.kernel ≡ true → Contains r.classes c.name) i.classes at.0.0 e agree.kernel at.0.1 at.1)

  word-among : (n : Text) → is_kernel_class i n ≡ true → Contains r.classes n
  word-among n h = by (class_named text_eq i.classes n) refl h
    where
      by : (o : Option (ClassOf Text)) → class_named text_eq i.classes n ≡ o → option_map_or (λ (c : ClassOf Text). c.kernel) o false ≡ true → Contains r.classes n
      by (Some e) q k = named-among n h e q
      by None q k = absurd (false≢true k)

  each : (ns : List Text) → AllByRecursion (λ n. IsTrue (is_kernel_class i n)) ns → AllByRecursion (Contains r.classes) ns
  each [] a = tt
  each (n ∷ ns) a = (word-among n a.0, each ns a.1)

  object-among : Contains r.classes (codes "Object")
  object-among =
      let there = kernel_kept i before.distinct kernel (codes "Object") object has_object in
      named-among (codes "Object") (ap (λ o. option_map_or (λ (c : ClassOf Text). c.kernel) o false) there) object there

  -- they agree also above do-its
  pub agree-on-reached : AgreeOnReached r i j
  agree-on-reached = record {
    doits = agree.doits;
    doits_mean = agree.doits_mean;
    doits_within = agree.doits_within;
    doits_above =
        at-all (λ (d : DoItOf Text). FindsAbove r i j (doit_class i) false (doit_class j) false d.body) i.doits
        (λ k d at s (path, u, args, q, e).
        let within = all-at (λ (x : DoItOf Text). IsWithin r i j (means_in_doit text_words i x) x.body) i.doits k d agree.doits_within at in
        subst (λ o. IsFound r i j o (super_lookup text_words j (doit_class j) false s)) (sym (super-object i before kernel s))
        (subst (λ o. IsFound r i j (lookup text_words i (Some (codes "Object")) false s) o) (sym (super-object j after kernel_after s))
        (agree.found (codes "Object") false s object-among (within.sends s (path, send u s args, q, text_eq-refl s)))));
    methods_within = agree.methods_within;
    methods_above = agree.methods_above;
    kernel = each value_classes words;
    found = agree.found;
    kinds = agree.kinds;
  }
