-- Chains, link by link: behind each class stands the chain of its superclass.
use Rattle.std.proofs.Common.{◌≡◌, ℕ, zero, suc, ◌<◌, List, [], ◌∷◌, length, Option, Some, None, slice_get, refl, sym, ap, ◌∙◌, subst, arith}
use Rattle.std.specs.Prelude.{Bool, true, false, not, ◌||◌, ◌&&◌, option_map}
use Rattle.std.specs.List.{AllByRecursion, list_any}
use Rattle.std.specs.Option.{option_map_or}
use Rattle.std.proofs.lemmas.Bool.{false≢true}
use Rattle.std.proofs.lemmas.Option.{slice_get-map}
use Rattle.rb_base.specs.Names.{text_eq}
use Rattle.rb_base.proofs.NamesLemmas.{text_eq-refl}
use Rattle.image_model.specs.Image.{ClassOf, ImageOf}
use Rattle.image_model.specs.ImageNames.{OptionNames}
use Rattle.image_model.specs.Chain.{class_named, superclass_of, chain_from, chain}
use Rattle.image_model.proofs.ChainLemmas.{superclass_before, chain_from-step}
use Rattle.image_model.proofs.Ends.{find-place}
use Rattle.image_model.proofs.UpwardsLemmas.{upwards-all, upwards-none}
use Rattle.run_model.specs.Values.{Name}
use Rattle.run_model.proofs.Finite.{by_cases}
use Rattle.run_model.proofs.RenamingLemmas.{text-same}
use Rattle.mapped_model.specs.NamesOfImages.{HasOrderedClasses}
use Rattle.command_model.specs.Hierarchy.{is_child}
use Rattle.rename_laws.proofs.OutsideAfter.{find-passes}
use Rattle.rename_laws.proofs.Unnamed.{neither_right}
use Rattle.rename_laws.proofs.ChainFacts.{is_on}
use Rattle.variable_laws.proofs.NamesPut.{or-true}

-- where the first of two alternatives fails, the second holds
pub other-holds : (a b : Bool) → a ≡ false → (a || b) ≡ true → b ≡ true
other-holds a b e h = sym (ap (λ x. x || b) e) ∙ h

-- nothing is no class
nothing-there : (c : ClassOf Name) → None ≡ Some c → ⊥
nothing-there c e = cc

-- no list is both empty and not
empty-apart : (e : ClassOf Name) (es : List (ClassOf Name)) → e ∷ es ≡ [] → ⊥
empty-apart e es q = cc

-- the class that a child has above it
pub child-above : (c : Name) (e : ClassOf Name) → is_child text_eq c e ≡ true → e.superclass ≡ Some c
child-above c e h = by e.superclass h
  where
    by : (o : Option Name) → option_map_or (text_eq c) o false ≡ true → o ≡ Some c
    by None q = absurd (false≢true q)
    by (Some n) q = ap Some (sym (text-same c n q))

module _ (i : ImageOf Name) (ordered : HasOrderedClasses i) where
  -- each class is followed by the chain of its superclass
  abbrev pub Linked : List (ClassOf Name) → Type 0
  Linked [] = Unit {0}
  Linked (e ∷ es) = (es ≡ chain text_eq i.classes e.superclass) × Linked es

  -- the empty chain
  chain-none : chain_from text_eq i.classes None ≡ []
  chain-none = upwards-none (superclass_of text_eq i.classes) (length i.classes)

  linked-from : (bound j : ℕ) (e : ClassOf Name) → j < bound → slice_get i.classes j ≡ Some e → Linked (chain_from text_eq i.classes (Some e))
  linked-from zero j e h at = absurd (omega (arith, h))
  linked-from (suc bound) j e h at =
      subst Linked (sym (chain_from-step text_eq text_eq-refl i.classes ordered.before j e at)) (refl, above (superclass_of text_eq i.classes e) refl (λ k d less there. linked-from bound k d (omega (arith, h, less)) there))
    where
      above : (o : Option (ClassOf Name)) → superclass_of text_eq i.classes e ≡ o → ((k : ℕ) (d : ClassOf Name) → k < j → slice_get i.classes k ≡ Some d → Linked (chain_from text_eq i.classes (Some d))) → Linked (chain_from text_eq i.classes o)
      above None q rest = subst Linked (sym chain-none) tt
      above (Some d) q rest =
          let there = superclass_before text_eq text_eq-refl i.classes ordered.before j e d at q in
          rest there.0 d there.1 there.2

  -- the chain of a class is the class and then that of its superclass
  pub top-of : (n : Name) (d : ClassOf Name) → class_named text_eq i.classes n ≡ Some d → chain text_eq i.classes (Some n) ≡ d ∷ chain text_eq i.classes d.superclass
  top-of n d q =
      let there = find-place (λ (z : ClassOf Name). text_eq n z.name) i.classes d q in
      ap (chain_from text_eq i.classes) q ∙ chain_from-step text_eq text_eq-refl i.classes ordered.before there.0 d there.1

  -- a class that is found by a name has it
  pub found-name : (n : Name) (d : ClassOf Name) → class_named text_eq i.classes n ≡ Some d → text_eq n d.name ≡ true
  found-name n d q = subst (OptionNames (λ (e : ClassOf Name). text_eq n e.name ≡ true)) q (find-passes (λ e. text_eq n e.name) i.classes)

  -- each chain is linked
  pub linked : (o : Option Name) → Linked (chain text_eq i.classes o)
  linked None = subst Linked (sym chain-none) tt
  linked (Some n) = by (class_named text_eq i.classes n) refl
    where
      by : (q : Option (ClassOf Name)) → class_named text_eq i.classes n ≡ q → Linked (chain_from text_eq i.classes q)
      by None e = subst Linked (sym chain-none) tt
      by (Some d) e =
          let there = find-place (λ (z : ClassOf Name). text_eq n z.name) i.classes d e in
          linked-from (suc there.0) there.0 d (omega arith) there.1

  -- the class of a name stands on its chain
  pub on-own : (n : Name) (d : ClassOf Name) → class_named text_eq i.classes n ≡ Some d → is_on n (chain text_eq i.classes (Some n)) ≡ true
  on-own n d q = ap (is_on n) (top-of n d q) ∙ ap (λ b. b || is_on n (chain text_eq i.classes d.superclass)) (found-name n d q)

  -- the first class of a chain is that of its name
  pub starts : (o : Option Name) (e : ClassOf Name) (es : List (ClassOf Name)) → e ∷ es ≡ chain text_eq i.classes o → o ≡ Some e.name
  starts None e es q = absurd (empty-apart e es (q ∙ chain-none))
  starts (Some n) e es q = by (class_named text_eq i.classes n) refl
    where
      by : (p : Option (ClassOf Name)) → class_named text_eq i.classes n ≡ p → Some n ≡ Some e.name
      by None r = absurd (empty-apart e es (q ∙ ap (chain_from text_eq i.classes) r ∙ chain-none))
      by (Some d) r =
          let same : e ∷ es ≡ d ∷ chain text_eq i.classes d.superclass = q ∙ top-of n d r in
          let first : d ≡ e = cc in
          ap Some (text-same n d.name (found-name n d r) ∙ ap (λ (z : ClassOf Name). z.name) first)

  -- no child of a class stands on a chain without the class
  pub child-on : (p : Name) (d : ClassOf Name) → class_named text_eq i.classes p ≡ Some d → (cs : List (ClassOf Name)) → Linked cs → is_on p cs ≡ false → AllByRecursion (λ (e : ClassOf Name). is_child text_eq p e ≡ false) cs
  child-on p d q [] l off = tt
  child-on p d q (e ∷ es) l off =
      let rest : is_on p es ≡ false = neither_right (text_eq p e.name) (is_on p es) off in (
        by_cases (is_child text_eq p e) (λ t. absurd (false≢true (sym rest ∙ ap (is_on p) (l.0 ∙ ap (chain text_eq i.classes) (child-above p e t)) ∙ on-own p d q))) (λ t. t),
        child-on p d q es l.1 rest,
      )

  -- below a class on a chain a child of it stands there
  pub on-child : (c : Name) (e : ClassOf Name) (es : List (ClassOf Name)) → Linked (e ∷ es) → text_eq c e.name ≡ false → is_on c (e ∷ es) ≡ true → list_any (λ (z : ClassOf Name). not (text_eq c z.name) && is_child text_eq c z) (e ∷ es) ≡ true
  on-child c e [] l apart on = absurd (false≢true (sym (λ k. apart k || false) ∙ on))
  on-child c e (d ∷ ds) l apart on =
      by_cases (text_eq c d.name)
      (λ t.
      let above : e.superclass ≡ Some c = starts e.superclass d ds l.0 ∙ ap Some (sym (text-same c d.name t)) in
      let child : is_child text_eq c e ≡ true = ap (λ o. option_map_or (text_eq c) o false) above ∙ text_eq-refl c in
      λ k. (not (apart k) && child k) || list_any (λ (z : ClassOf Name). not (text_eq c z.name) && is_child text_eq c z) (d ∷ ds))
      (λ t. or-true (not (text_eq c e.name) && is_child text_eq c e) _ (on-child c d ds l.1 t (other-holds (text_eq c e.name) (is_on c (d ∷ ds)) apart on)))

  -- a class does not stand above itself
  pub above-apart : (n : Name) (e : ClassOf Name) → class_named text_eq i.classes n ≡ Some e → is_on n (chain text_eq i.classes e.superclass) ≡ false
  above-apart n e q = none (chain text_eq i.classes e.superclass) (upwards-all Higher (superclass_of text_eq i.classes) higher (length i.classes) (superclass_of text_eq i.classes e) first)
    where
      j : ℕ
      j = (find-place (λ (z : ClassOf Name). text_eq n z.name) i.classes e q).0

      at : slice_get i.classes j ≡ Some e
      at = (find-place (λ (z : ClassOf Name). text_eq n z.name) i.classes e q).1

      Higher : ClassOf Name → Type 0
      Higher z = (k : ℕ) × (k < j) × (slice_get i.classes k ≡ Some z)

      above : (k : ℕ) (z : ClassOf Name) → ((l : ℕ) → l < k → l < j) → slice_get i.classes k ≡ Some z → (o : Option (ClassOf Name)) → superclass_of text_eq i.classes z ≡ o → OptionNames Higher o
      above k z less there None r = tt
      above k z less there (Some y) r =
          let up = superclass_before text_eq text_eq-refl i.classes ordered.before k z y there r in
          (up.0, less up.0 up.1, up.2)

      first : OptionNames Higher (superclass_of text_eq i.classes e)
      first = above j e (λ l h. h) at (superclass_of text_eq i.classes e) refl

      higher : (z : ClassOf Name) → Higher z → OptionNames Higher (superclass_of text_eq i.classes z)
      higher z h = above h.0 z (λ l less. let m : h.0 < j = h.1 in omega (arith, less, m)) h.2 (superclass_of text_eq i.classes z) refl

      other : (z : ClassOf Name) → Higher z → text_eq n z.name ≡ false
      other z h =
          by_cases (text_eq n z.name)
          (λ t.
          let named : z.name ≡ e.name = sym (text-same n z.name t) ∙ text-same n e.name (found-name n e q) in
          let same : h.0 ≡ j = ordered.distinct h.0 j e.name (slice_get-map (λ (x : ClassOf Name). x.name) i.classes h.0 ∙ ap (option_map (λ (x : ClassOf Name). x.name)) h.2 ∙ ap Some named) (slice_get-map (λ (x : ClassOf Name). x.name) i.classes j ∙ ap (option_map (λ (x : ClassOf Name). x.name)) at) in
          let less : h.0 < j = h.1 in
          absurd (omega (arith, same, less)))
          (λ t. t)

      none : (cs : List (ClassOf Name)) → AllByRecursion Higher cs → is_on n cs ≡ false
      none [] a = refl
      none (z ∷ zs) a = λ k. other z a.0 k || none zs a.1 k
