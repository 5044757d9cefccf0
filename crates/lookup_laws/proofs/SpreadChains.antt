-- Chains of two images that are alike but for classes that have no methods, no variables and no name that counts.
use Rattle.std.proofs.Common.{◌≡◌, ℕ, zero, suc, ◌<◌, List, [], ◌∷◌, length, Option, Some, None, ◌⊎◌, inl, inr, refl, sym, ap, ◌∙◌, subst, arith}
use Rattle.std.specs.Prelude.{Bool, true, false, ◌||◌, cond, slice_get}
use Rattle.std.specs.List.{list_any}
use Rattle.std.specs.Option.{option_map, option_or}
use Rattle.rb_base.specs.Names.{text_eq}
use Rattle.rb_base.proofs.NamesLemmas.{text_eq-refl}
use Rattle.image_model.specs.Image.{ClassOf, ImageOf}
use Rattle.image_model.specs.ImageNames.{OptionNames}
use Rattle.image_model.specs.Upwards.{first_given}
use Rattle.image_model.specs.Chain.{class_named, class_of_name, superclass_of, chain_from}
use Rattle.image_model.specs.Lookup.{own_method}
use Rattle.image_model.specs.Means.{VariableKind, variables, variable, as_variable, definer}
use Rattle.image_model.proofs.ChainLemmas.{superclass_before}
use Rattle.image_model.proofs.UpwardsLemmas.{upwards-none}
use Rattle.run_model.specs.Values.{Name}
use Rattle.mapped_model.specs.NamesOfImages.{HasOrderedClasses}
use Rattle.agreement_laws.proofs.KernelChains.{IsThere, named-there, there-step}

module _ (i j : ImageOf Name) (gone : Name) where
  -- another name than the one that only one of the images has
  abbrev pub Keep : Name → Type 0
  Keep n = text_eq gone n ≡ false

  -- a class of j that adds nothing to a chain
  pub record Skip (x : ClassOf Name) : Type 0 where
    pub other : (d : Name) → Keep d → text_eq d x.name ≡ false
    pub variables_none : (kind : VariableKind) → variables kind x ≡ []
    pub methods_none : (b : Bool) (t : Name) → own_method text_eq j.methods x.name b t ≡ None

  -- the superclasses of two classes: none, or the same, or one behind a class that adds nothing
  abbrev pub AreAbove : Option Name → Option Name → Type 0
  AreAbove None None = Unit {0}
  AreAbove None (Some q) = ⊥
  AreAbove (Some p) None = ⊥
  AreAbove (Some p) (Some q) = Keep p × ((q ≡ p) ⊎ ((x : ClassOf Name) × (class_named text_eq j.classes q ≡ Some x) × Skip x × (x.superclass ≡ Some p)))

  -- two classes that are alike
  pub record Like (e f : ClassOf Name) : Type 0 where
    pub name : f.name ≡ e.name
    pub variables_same : (kind : VariableKind) → variables kind f ≡ variables kind e
    pub methods_same : (b : Bool) (t : Name) → own_method text_eq j.methods f.name b t ≡ own_method text_eq i.methods e.name b t
    pub above : AreAbove e.superclass f.superclass

  -- classes that there may be
  abbrev pub AreLike : Option (ClassOf Name) → Option (ClassOf Name) → Type 0
  AreLike None None = Unit {0}
  AreLike None (Some f) = ⊥
  AreLike (Some e) None = ⊥
  AreLike (Some e) (Some f) = Like e f

  -- classes in order, with further ones among them that add nothing
  abbrev pub Spread : List (ClassOf Name) → List (ClassOf Name) → Type 0
  Spread [] [] = Unit {0}
  Spread (e ∷ es) [] = ⊥
  Spread [] (f ∷ fs) = Skip f × Spread [] fs
  Spread (e ∷ es) (f ∷ fs) = (Skip f × Spread (e ∷ es) fs) ⊎ (Like e f × Spread es fs)

  -- one more that adds nothing
  spread-skip : (es fs : List (ClassOf Name)) (f : ClassOf Name) → Skip f → Spread es fs → Spread es (f ∷ fs)
  spread-skip [] fs f s h = (s, h)
  spread-skip (e ∷ es) fs f s h = inl (s, h)

  -- the same method is found
  pub first-spread : (b : Bool) (t : Name) (es fs : List (ClassOf Name)) → Spread es fs → first_given (λ c. own_method text_eq j.methods c.name b t) fs ≡ first_given (λ c. own_method text_eq i.methods c.name b t) es
  first-spread b t [] [] h = refl
  first-spread b t (e ∷ es) [] h = absurd h
  first-spread b t [] (f ∷ fs) h = ap (λ o. option_or o (first_given (λ c. own_method text_eq j.methods c.name b t) fs)) (h.0.methods_none b t) ∙ first-spread b t [] fs h.1
  first-spread b t (e ∷ es) (f ∷ fs) (inl h) = ap (λ o. option_or o (first_given (λ c. own_method text_eq j.methods c.name b t) fs)) (h.0.methods_none b t) ∙ first-spread b t (e ∷ es) fs h.1
  first-spread b t (e ∷ es) (f ∷ fs) (inr h) = λ k. option_or (h.0.methods_same b t k) (first-spread b t es fs h.1 k)

  -- the same class defines a variable
  pub variable-spread : (kind : VariableKind) (n : Name) (es fs : List (ClassOf Name)) → Spread es fs → as_variable text_eq kind fs n ≡ as_variable text_eq kind es n
  variable-spread kind n [] [] h = refl
  variable-spread kind n (e ∷ es) [] h = absurd h
  variable-spread kind n [] (f ∷ fs) h = ap (λ vs. option_map (λ (c : ClassOf Name). variable kind c.name) (cond (list_any (text_eq n) vs) (Some f) (definer text_eq kind fs n))) (h.0.variables_none kind) ∙ variable-spread kind n [] fs h.1
  variable-spread kind n (e ∷ es) (f ∷ fs) (inl h) =
      ap (λ vs. option_map (λ (c : ClassOf Name). variable kind c.name) (cond (list_any (text_eq n) vs) (Some f) (definer text_eq kind fs n))) (h.0.variables_none kind) ∙ variable-spread kind n (e ∷ es) fs h.1
  variable-spread kind n (e ∷ es) (f ∷ fs) (inr h) =
      ap (λ vs. option_map (λ (c : ClassOf Name). variable kind c.name) (cond (list_any (text_eq n) vs) (Some f) (definer text_eq kind fs n))) (h.0.variables_same kind) ∙ by (list_any (text_eq n) (variables kind e)) (variable-spread kind n es fs h.1)
    where
      by : (b : Bool) → as_variable text_eq kind fs n ≡ as_variable text_eq kind es n → option_map (λ (c : ClassOf Name). variable kind c.name) (cond b (Some f) (definer text_eq kind fs n)) ≡ option_map (λ (c : ClassOf Name). variable kind c.name) (cond b (Some e) (definer text_eq kind es n))
      by true ih = ap (λ m. Some (variable kind m)) h.0.name
      by false ih = ih

  -- the same names stand there
  pub any-spread : (d : Name) → Keep d → (es fs : List (ClassOf Name)) → Spread es fs → list_any (λ (c : ClassOf Name). text_eq d c.name) fs ≡ list_any (λ (c : ClassOf Name). text_eq d c.name) es
  any-spread d k [] [] h = refl
  any-spread d k (e ∷ es) [] h = absurd h
  any-spread d k [] (f ∷ fs) h = ap (λ b. b || list_any (λ (c : ClassOf Name). text_eq d c.name) fs) (h.0.other d k) ∙ any-spread d k [] fs h.1
  any-spread d k (e ∷ es) (f ∷ fs) (inl h) = ap (λ b. b || list_any (λ (c : ClassOf Name). text_eq d c.name) fs) (h.0.other d k) ∙ any-spread d k (e ∷ es) fs h.1
  any-spread d k (e ∷ es) (f ∷ fs) (inr h) = λ l. text_eq d (h.0.name l) || any-spread d k es fs h.1 l

  module _ (before : HasOrderedClasses i) (after : HasOrderedClasses j) (named : (n : Name) → Keep n → AreLike (class_named text_eq i.classes n) (class_named text_eq j.classes n)) where
    -- chains from nothing
    none-spread : Spread (chain_from text_eq i.classes None) (chain_from text_eq j.classes None)
    none-spread =
        subst (λ es. Spread es (chain_from text_eq j.classes None)) (sym (upwards-none (superclass_of text_eq i.classes) (length i.classes)))
        (subst (λ fs. Spread [] fs) (sym (upwards-none (superclass_of text_eq j.classes) (length j.classes))) tt)

    -- chains from what is above, where those from names are so
    above-spread : (o p : Option Name) → AreAbove o p → ((n : Name) → Keep n → o ≡ Some n → Spread (chain_from text_eq i.classes (class_named text_eq i.classes n)) (chain_from text_eq j.classes (class_named text_eq j.classes n))) →
        Spread (chain_from text_eq i.classes (class_of_name text_eq i.classes o)) (chain_from text_eq j.classes (class_of_name text_eq j.classes p))
    above-spread None None h rest = none-spread
    above-spread None (Some q) h rest = absurd h
    above-spread (Some p) None h rest = absurd h
    above-spread (Some p) (Some q) (k, inl e) rest = subst (λ n. Spread (chain_from text_eq i.classes (class_named text_eq i.classes p)) (chain_from text_eq j.classes (class_named text_eq j.classes n))) (sym e) (rest p k refl)
    above-spread (Some p) (Some q) (k, inr (x, there, skip, up)) rest =
        subst (λ o. Spread (chain_from text_eq i.classes (class_named text_eq i.classes p)) (chain_from text_eq j.classes o)) (sym there)
        (subst (λ fs. Spread (chain_from text_eq i.classes (class_named text_eq i.classes p)) fs) (sym (there-step j after x (subst (OptionNames (IsThere j after)) there (named-there j after (Some q)))))
        (spread-skip (chain_from text_eq i.classes (class_named text_eq i.classes p)) (chain_from text_eq j.classes (superclass_of text_eq j.classes x)) x skip
        (subst (λ o. Spread (chain_from text_eq i.classes (class_named text_eq i.classes p)) (chain_from text_eq j.classes (class_of_name text_eq j.classes o))) (sym up) (rest p k refl))))

    -- chains from classes that are alike
    from-class : (bound k : ℕ) (e f : ClassOf Name) → k < bound → slice_get i.classes k ≡ Some e → Like e f → IsThere j after f → Spread (chain_from text_eq i.classes (Some e)) (chain_from text_eq j.classes (Some f))
    from-class zero k e f less at like there = absurd (omega (arith, less))
    from-class (suc bound) k e f less at like there =
        subst (λ es. Spread es (chain_from text_eq j.classes (Some f))) (sym (there-step i before e (k, at)))
        (subst (λ fs. Spread (e ∷ chain_from text_eq i.classes (superclass_of text_eq i.classes e)) fs) (sym (there-step j after f there))
        (inr (like, above-spread e.superclass f.superclass like.above (λ n keep q. step n q (class_named text_eq i.classes n) (class_named text_eq j.classes n) refl refl (named n keep) (λ l x y lower at' like' there'. from-class bound l x y (omega (arith, less, lower)) at' like' there')))))
      where
        step : (n : Name) → e.superclass ≡ Some n → (o p : Option (ClassOf Name)) → class_named text_eq i.classes n ≡ o → class_named text_eq j.classes n ≡ p → AreLike o p →
            ((l : ℕ) (x y : ClassOf Name) → l < k → slice_get i.classes l ≡ Some x → Like x y → IsThere j after y → Spread (chain_from text_eq i.classes (Some x)) (chain_from text_eq j.classes (Some y))) →
            Spread (chain_from text_eq i.classes o) (chain_from text_eq j.classes p)
        step n q None None r t h rest = none-spread
        step n q None (Some y) r t h rest = absurd h
        step n q (Some x) None r t h rest = absurd h
        step n q (Some x) (Some y) r t h rest =
            let there' = superclass_before text_eq text_eq-refl i.classes before.before k e x at (ap (class_of_name text_eq i.classes) q ∙ r) in
            rest there'.0 x y there'.1 there'.2 h (subst (OptionNames (IsThere j after)) t (named-there j after (Some n)))

    -- chains from a name
    pub name-spread : (n : Name) → Keep n → Spread (chain_from text_eq i.classes (class_named text_eq i.classes n)) (chain_from text_eq j.classes (class_named text_eq j.classes n))
    name-spread n keep = by (class_named text_eq i.classes n) (class_named text_eq j.classes n) refl refl (named n keep)
      where
        by : (o p : Option (ClassOf Name)) → class_named text_eq i.classes n ≡ o → class_named text_eq j.classes n ≡ p → AreLike o p → Spread (chain_from text_eq i.classes o) (chain_from text_eq j.classes p)
        by None None r t h = none-spread
        by None (Some y) r t h = absurd h
        by (Some x) None r t h = absurd h
        by (Some x) (Some y) r t h =
            let there : IsThere i before x = subst (OptionNames (IsThere i before)) r (named-there i before (Some n)) in
            from-class (suc there.0) there.0 x y (omega arith) there.1 h (subst (OptionNames (IsThere j after)) t (named-there j after (Some n)))

    -- chains from a name that there may be, and from what is above two classes
    pub any-name-spread : (o : Option Name) → OptionNames Keep o → Spread (chain_from text_eq i.classes (class_of_name text_eq i.classes o)) (chain_from text_eq j.classes (class_of_name text_eq j.classes o))
    any-name-spread None h = none-spread
    any-name-spread (Some n) h = name-spread n h

    pub above-any-spread : (o p : Option Name) → AreAbove o p → Spread (chain_from text_eq i.classes (class_of_name text_eq i.classes o)) (chain_from text_eq j.classes (class_of_name text_eq j.classes p))
    above-any-spread o p h = above-spread o p h (λ n keep q. name-spread n keep)
