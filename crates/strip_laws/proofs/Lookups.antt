-- What is reached is found in the image without the rest.
use Rattle.std.proofs.Common.{◌≡◌, Option, Some, None, refl, sym, ap, ◌∙◌}
use Rattle.std.specs.Prelude.{Bool, true, false, ◌&&◌, if◌then◌else◌, codes}
use Rattle.std.proofs.Math.Bool.{beq}
use Rattle.std.specs.Option.{option_map_or, option_or}
use Rattle.rb_base.specs.Names.{text_eq}
use Rattle.image_model.specs.Image.{ClassOf, EntryOf, ImageOf}
use Rattle.image_model.specs.ImageNames.{OptionNames}
use Rattle.image_model.specs.Words.{text_words}
use Rattle.image_model.specs.Upwards.{first_given}
use Rattle.image_model.specs.Chain.{class_of_name, chain}
use Rattle.image_model.specs.Lookup.{is_method, own_method, on_chain, as_object, lookup, super_lookup}
use Rattle.image_model.proofs.Lists.{all-implies}
use Rattle.image_model.proofs.UpwardsLemmas.{first_given-same}
use Rattle.run_model.specs.Values.{Name}
use Rattle.run_model.proofs.Finite.{and-true_left, and-true_right}
use Rattle.run_model.proofs.RenamingLemmas.{text-same}
use Rattle.mapped_model.specs.NamesOfImages.{HasOrderedClasses}
use Rattle.mapped_model.proofs.RenamedVariableLemmas.{at-all}
use Rattle.agreement_laws.specs.KernelChains.{HasKernelChains}
use Rattle.agreement_laws.proofs.KernelChains.{IsThere}
use Rattle.agreement_laws.proofs.Tests.{class-there}
use Rattle.strip_model.specs.Reach.{ReachOf, has_class, has_selector, has_method, is_closed}
use Rattle.agreement_laws.proofs.Filtered.{find-kept_all}
use Rattle.strip_laws.proofs.Closed.{found-in}
use Rattle.strip_laws.proofs.Chains.{left, Good, good-chain, good-fit, above-good, above-same, word-good}

module _ (i : ImageOf Name) (r : ReachOf Name) (closed : is_closed text_words i r ≡ true) (before : HasOrderedClasses i) where
  abbrev j : ImageOf Name
  j = left i r closed before

  abbrev Fine : Option Name → Type 0
  Fine o = OptionNames (Good i r closed before) o

  module _ (b : Bool) (s : Name) (sent : has_selector text_eq r s ≡ true) where
    -- the own methods of a class that is reached
    own-same : (c : Name) → has_class text_eq r c ≡ true → own_method text_eq j.methods c b s ≡ own_method text_eq i.methods c b s
    own-same c h =
        find-kept_all (has_method text_eq r) (is_method text_eq c b s) i.methods
        (at-all (λ (m : EntryOf Name). is_method text_eq c b s m ≡ true → has_method text_eq r m ≡ true) i.methods
        (λ k m at t.
        let first = and-true_left (option_map_or (text_eq c) m.class false && beq b m.meta) (text_eq s m.tree.selector) t in
        found-in i r closed k m c at (class-there c m.class (and-true_left (option_map_or (text_eq c) m.class false) (beq b m.meta) first)) h
        (ap (has_selector text_eq r) (sym (text-same s m.tree.selector (and-true_right (option_map_or (text_eq c) m.class false && beq b m.meta) (text_eq s m.tree.selector) t))) ∙ sent)))

    -- on the chain of a name
    on-same : (o : Option Name) → Fine o → on_chain text_eq j (class_of_name text_eq j.classes o) b s ≡ on_chain text_eq i (class_of_name text_eq i.classes o) b s
    on-same o g =
        ap (first_given (λ (c : ClassOf Name). own_method text_eq j.methods c.name b s)) (good-chain i r closed before o g)
        ∙ first_given-same (λ (c : ClassOf Name). own_method text_eq j.methods c.name b s) (λ (c : ClassOf Name). own_method text_eq i.methods c.name b s) (chain text_eq i.classes o)
        (all-implies (λ (e : ClassOf Name). IsThere i before e × (has_class text_eq r e.name ≡ true)) (λ (e : ClassOf Name). own_method text_eq j.methods e.name b s ≡ own_method text_eq i.methods e.name b s) (λ e f. own-same e.name f.1) (chain text_eq i.classes o) (good-fit i r closed before o g))

  module _ (chains : HasKernelChains i) (s : Name) (sent : has_selector text_eq r s ≡ true) where
    -- what classes understand as objects
    objects-same : (b : Bool) → (if b then as_object text_words j s else None) ≡ (if b then as_object text_words i s else None)
    objects-same false = refl
    objects-same true = on-same false s sent (Some (codes "Class")) (word-good i r closed before (codes "Class") chains.1.1.1.1.1.1.1.1.1.0)

    -- the same is found
    pub lookup-same : (o : Option Name) (b : Bool) → Fine o → lookup text_words j o b s ≡ lookup text_words i o b s
    lookup-same o b g = λ k. option_or (on-same b s sent o g k) (objects-same b k)

    -- and above
    pub above-found : (o : Option Name) (b : Bool) → Fine o → super_lookup text_words j o b s ≡ super_lookup text_words i o b s
    above-found o b g = ap (λ x. lookup text_words j x b s) (above-same i r closed before o g) ∙ lookup-same _ b (above-good i r closed before o g)
