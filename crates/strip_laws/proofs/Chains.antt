-- Classes that are reached, or that there are not, have the same chains in the image without the others.
use Rattle.std.proofs.Common.{◌≡◌, ℕ, zero, suc, ◌<◌, List, ◌∷◌, length, Option, Some, None, ◌⊎◌, inl, inr, refl, sym, ap, ◌∙◌, subst, arith}
use Rattle.std.specs.Prelude.{true, IsTrue, slice_get}
use Rattle.std.specs.List.{AllByRecursion}
use Rattle.std.specs.Option.{option_and_then}
use Rattle.rb_base.specs.Names.{text_eq}
use Rattle.rb_base.proofs.NamesLemmas.{text_eq-refl}
use Rattle.image_model.specs.Image.{ClassOf, ImageOf}
use Rattle.image_model.specs.ImageNames.{OptionNames}
use Rattle.image_model.specs.Words.{text_words}
use Rattle.image_model.specs.Chain.{class_named, class_of_name, superclass_of, chain_from, chain}
use Rattle.image_model.proofs.ChainLemmas.{superclass_before}
use Rattle.image_model.proofs.UpwardsLemmas.{upwards-none}
use Rattle.run_model.specs.Values.{Name}
use Rattle.run_model.proofs.RenamingLemmas.{text-same}
use Rattle.mapped_model.specs.NamesOfImages.{HasOrderedClasses}
use Rattle.agreement_laws.proofs.KernelChains.{IsThere, named-there, there-step}
use Rattle.rename_laws.proofs.OutsideAfter.{find-passes}
use Rattle.strip_model.specs.Reach.{ReachOf, has_class, is_closed}
use Rattle.strip_model.specs.Stripped.{strip}
use Rattle.agreement_laws.proofs.Filtered.{find-kept}
use Rattle.strip_laws.proofs.Listed.{find-gone, place-filter}
use Rattle.strip_laws.proofs.Closed.{InClass, superclass-in, kernel-class}
use Rattle.strip_laws.proofs.Orders.{strip-ordered}

module _ (i : ImageOf Name) (r : ReachOf Name) (closed : is_closed text_words i r ≡ true) (before : HasOrderedClasses i) where
  -- the image without what is not reached
  abbrev pub left : ImageOf Name
  left = strip text_eq r i

  pub after : HasOrderedClasses left
  after = strip-ordered i r closed before

  abbrev In : Name → Type 0
  In c = InClass i r closed c

  -- a name of a class that is reached, or of none
  abbrev pub Good : Name → Type 0
  Good c = (has_class text_eq r c ≡ true) ⊎ (class_named text_eq i.classes c ≡ None)

  -- the same class has it
  pub named-same : (c : Name) → Good c → class_named text_eq left.classes c ≡ class_named text_eq i.classes c
  named-same c (inl h) = find-kept (λ (e : ClassOf Name). has_class text_eq r e.name) (λ (e : ClassOf Name). text_eq c e.name) (λ e t. ap (has_class text_eq r) (sym (text-same c e.name t)) ∙ h) i.classes
  named-same c (inr h) = find-gone (λ (e : ClassOf Name). has_class text_eq r e.name) (λ (e : ClassOf Name). text_eq c e.name) i.classes h ∙ sym h

  -- chains from nothing
  none-same : chain_from text_eq left.classes None ≡ chain_from text_eq i.classes None
  none-same = upwards-none (superclass_of text_eq left.classes) (length left.classes) ∙ sym (upwards-none (superclass_of text_eq i.classes) (length i.classes))

  -- a class that is found by a name that is reached is one
  abbrev Fit : ClassOf Name → Type 0
  Fit e = IsThere i before e × In e.name

  named-fit : (c : Name) → Good c → OptionNames Fit (class_named text_eq i.classes c)
  named-fit c g = by (class_named text_eq i.classes c) refl (named-there i before (Some c)) (find-passes (λ (e : ClassOf Name). text_eq c e.name) i.classes) g
    where
      by : (o : Option (ClassOf Name)) → class_named text_eq i.classes c ≡ o → OptionNames (IsThere i before) o → OptionNames (λ (e : ClassOf Name). text_eq c e.name ≡ true) o → Good c → OptionNames Fit o
      by None q at t g = tt
      by (Some e) q at t (inl h) = (at, ap (has_class text_eq r) (sym (text-same c e.name t)) ∙ h)
      by (Some e) q at t (inr h) = absurd (cc)

  -- a class that is reached is there still
  there-left : (e : ClassOf Name) → Fit e → IsThere left after e
  there-left e (at, h) = place-filter (λ (x : ClassOf Name). has_class text_eq r x.name) i.classes at.0 e at.1 h

  -- what stands on a chain is reached, and the chain is the same
  abbrev Same : Option (ClassOf Name) → Type 0
  Same o = (chain_from text_eq left.classes o ≡ chain_from text_eq i.classes o) × AllByRecursion Fit (chain_from text_eq i.classes o)

  none-fit : Same None
  none-fit = (none-same, subst (AllByRecursion Fit) (sym (upwards-none (superclass_of text_eq i.classes) (length i.classes))) tt)

  -- the superclass of a class that is reached
  super-good : (e : ClassOf Name) → Fit e → OptionNames Good e.superclass
  super-good e (at, h) = by e.superclass (λ n q. superclass-in i r closed at.0 e n at.1 h q)
    where
      by : (o : Option Name) → ((n : Name) → o ≡ Some n → In n) → OptionNames Good o
      by None h = tt
      by (Some n) h = inl (h n refl)

  super-same : (o : Option Name) → OptionNames Good o → class_of_name text_eq left.classes o ≡ class_of_name text_eq i.classes o
  super-same None g = refl
  super-same (Some n) g = named-same n g

  super-fit : (o : Option Name) → OptionNames Good o → OptionNames Fit (class_of_name text_eq i.classes o)
  super-fit None g = tt
  super-fit (Some n) g = named-fit n g

  from-class : (bound k : ℕ) (e : ClassOf Name) → k < bound → slice_get i.classes k ≡ Some e → In e.name → Same (Some e)
  from-class zero k e less at h = absurd (omega (arith, less))
  from-class (suc bound) k e less at h =
      let fit : Fit e = ((k, at), h) in
      let up = above (superclass_of text_eq i.classes e) refl (super-fit e.superclass (super-good e fit)) (λ l x lower there g. from-class bound l x (omega (arith, less, lower)) there g) in (
        there-step left after e (there-left e fit) ∙ ap (λ (es : List (ClassOf Name)). e ∷ es) (ap (chain_from text_eq left.classes) (super-same e.superclass (super-good e fit)) ∙ up.0) ∙ sym (there-step i before e (k, at)),
        subst (AllByRecursion Fit) (sym (there-step i before e (k, at))) (fit, up.1),
      )
    where
      above : (o : Option (ClassOf Name)) → superclass_of text_eq i.classes e ≡ o → OptionNames Fit o → ((l : ℕ) (x : ClassOf Name) → l < k → slice_get i.classes l ≡ Some x → In x.name → Same (Some x)) → Same o
      above None q g rest = none-fit
      above (Some x) q g rest = let there = superclass_before text_eq text_eq-refl i.classes before.before k e x at q in rest there.0 x there.1 there.2 g.1

  -- chains from classes that are reached
  pub fit-chain : (o : Option (ClassOf Name)) → OptionNames Fit o → Same o
  fit-chain None g = none-fit
  fit-chain (Some e) g = from-class (suc g.0.0) g.0.0 e (omega arith) g.0.1 g.1

  -- chains from names
  pub good-chain : (o : Option Name) → OptionNames Good o → chain text_eq left.classes o ≡ chain text_eq i.classes o
  good-chain o g = ap (chain_from text_eq left.classes) (super-same o g) ∙ (fit-chain (class_of_name text_eq i.classes o) (super-fit o g)).0

  pub good-fit : (o : Option Name) → OptionNames Good o → AllByRecursion (λ (e : ClassOf Name). IsThere i before e × (has_class text_eq r e.name ≡ true)) (chain text_eq i.classes o)
  good-fit o g = (fit-chain (class_of_name text_eq i.classes o) (super-fit o g)).1

  -- the superclass of the class of a name
  pub above-good : (o : Option Name) → OptionNames Good o → OptionNames Good (option_and_then (λ (e : ClassOf Name). e.superclass) (class_of_name text_eq i.classes o))
  above-good o g = by (class_of_name text_eq i.classes o) (super-fit o g)
    where
      by : (p : Option (ClassOf Name)) → OptionNames Fit p → OptionNames Good (option_and_then (λ (e : ClassOf Name). e.superclass) p)
      by None h = tt
      by (Some e) h = super-good e h

  -- is the same
  pub above-same : (o : Option Name) → OptionNames Good o → option_and_then (λ (e : ClassOf Name). e.superclass) (class_of_name text_eq left.classes o) ≡ option_and_then (λ (e : ClassOf Name). e.superclass) (class_of_name text_eq i.classes o)
  above-same o g = ap (option_and_then (λ (e : ClassOf Name). e.superclass)) (super-same o g)

  -- a class of which the language speaks: of the kernel, if there is one
  pub word-good : (v : Name) → AllByRecursion (λ (e : ClassOf Name). IsTrue e.kernel) (chain text_eq i.classes (Some v)) → Good v
  word-good v all = by (class_named text_eq i.classes v) refl (named-there i before (Some v)) (find-passes (λ (e : ClassOf Name). text_eq v e.name) i.classes)
    where
      by : (o : Option (ClassOf Name)) → class_named text_eq i.classes v ≡ o → OptionNames (IsThere i before) o → OptionNames (λ (e : ClassOf Name). text_eq v e.name ≡ true) o → Good v
      by None q at t = inr q
      by (Some e) q at t =
          let kernel = (subst (AllByRecursion (λ (x : ClassOf Name). IsTrue x.kernel)) (there-step i before e at) (subst (λ o. AllByRecursion (λ (x : ClassOf Name). IsTrue x.kernel) (chain_from text_eq i.classes o)) q all)).0 in
          inl (ap (has_class text_eq r) (text-same v e.name t) ∙ kernel-class i r closed at.0 e at.1 kernel)
