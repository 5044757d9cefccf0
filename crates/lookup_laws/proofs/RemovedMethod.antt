-- Look-ups in an image without one of its methods: those that found it find what is inherited.
use Rattle.std.proofs.Common.{◌≡◌, ℕ, zero, suc, ◌<◌, List, [], ◌∷◌, length, Option, Some, None, ◌⊎◌, inl, inr, refl, sym, ap, ◌∙◌, subst, arith}
use Rattle.std.specs.Prelude.{Bool, true, false, ◌&&◌, find, slice_get, if◌then◌else◌}
use Rattle.std.proofs.Math.Bool.{beq}
use Rattle.std.specs.List.{AllByRecursion}
use Rattle.std.specs.Option.{option_or}
use Rattle.std.proofs.lemmas.Option.{slice_get-map}
use Rattle.rb_base.specs.Names.{text_eq}
use Rattle.rb_base.proofs.NamesLemmas.{text_eq-refl}
use Rattle.image_model.specs.Image.{ClassOf, EntryOf, ImageOf}
use Rattle.image_model.specs.ImageNames.{OptionNames}
use Rattle.image_model.specs.Words.{text_words}
use Rattle.image_model.specs.Upwards.{first_given}
use Rattle.image_model.specs.Chain.{class_named, class_of_name, superclass_of, chain_from}
use Rattle.image_model.specs.Lookup.{is_method, own_method, on_chain, as_object, lookup, super_lookup}
use Rattle.image_model.proofs.ChainLemmas.{superclass_before, chain_from-step}
use Rattle.image_model.proofs.Ends.{find-place}
use Rattle.image_model.proofs.Lists.{all-implies, find-all}
use Rattle.image_model.proofs.UpwardsLemmas.{upwards-all, upwards-none}
use Rattle.image_model.proofs.SearchLemmas.{super_lookup-above}
use Rattle.run_model.specs.Values.{Name}
use Rattle.run_model.specs.ObjectPrimitives.{value_classes}
use Rattle.run_model.specs.Runs.{run}
use Rattle.run_model.specs.Renamings.{no_renaming}
use Rattle.run_model.specs.Matched.{AreMatched}
use Rattle.run_model.proofs.Finite.{by_cases, and-true_left, and-true_right}
use Rattle.run_model.proofs.RenamingLemmas.{text-same}
use Rattle.mapped_model.specs.NamesOfImages.{HasOrderedClasses}
use Rattle.mapped_model.proofs.NamesOfImagesHold.{named-found}
use Rattle.mapped_model.proofs.RenamedVariableLemmas.{at-all}
use Rattle.command_model.specs.SameMethods.{is_same_method}
use Rattle.command_model.specs.MethodEffects.{method_removed}
use Rattle.agreement_laws.proofs.EntriesAgree.{AreBoth}
use Rattle.agreement_laws.proofs.MethodsFound.{IsIn, on_chain-in, object-in}
use Rattle.agreement_laws.proofs.Filtered.{find-filter, find-none}
use Rattle.lookup_laws.proofs.MethodsApart.{is_place, method-apart, chain-same}
use Rattle.agreement_laws.specs.Reaching.{is_super}
use Rattle.agreement_laws.proofs.SameFound.{IsSame, same-both, or-both, found-runs, found-matched}
use Rattle.rename_laws.proofs.OutsideAfter.{find-passes}
use Rattle.agreement_laws.proofs.Tests.{sides-same}

module _ (i : ImageOf Name) (ordered : HasOrderedClasses i) (c : Name) (meta : Bool) (s : Name) where
  -- the image without the method
  abbrev after : ImageOf Name
  after = method_removed text_eq c meta s i

  -- the class of the method has none
  own-removed : own_method text_eq after.methods c meta s ≡ None
  own-removed = find-none (is_method text_eq c meta s) i.methods

  -- other methods stay
  own-kept : (d : Name) (b : Bool) (t : Name) → is_place c meta s d b t ≡ false → own_method text_eq after.methods d b t ≡ own_method text_eq i.methods d b t
  own-kept d b t e = find-filter (is_method text_eq c meta s) (is_method text_eq d b t) (method-apart c meta s d b t e) i.methods

  -- whatever the class, where side or selector are others
  elsewhere-same : (o : Option (ClassOf Name)) (b : Bool) (t : Name) → ((d : Name) → is_place c meta s d b t ≡ false) → on_chain text_eq after o b t ≡ on_chain text_eq i o b t
  elsewhere-same o b t e = chain-same i after refl b t o (each (chain_from text_eq i.classes o))
    where
      each : (cs : List (ClassOf Name)) → AllByRecursion (λ (d : ClassOf Name). own_method text_eq after.methods d.name b t ≡ own_method text_eq i.methods d.name b t) cs
      each [] = tt
      each (d ∷ cs) = (own-kept d.name b t (e d.name), each cs)

  -- on chains without the class
  without-same : (o : Option (ClassOf Name)) (b : Bool) (t : Name) → AllByRecursion (λ (d : ClassOf Name). text_eq d.name c ≡ false) (chain_from text_eq i.classes o) → on_chain text_eq after o b t ≡ on_chain text_eq i o b t
  without-same o b t a =
      chain-same i after refl b t o
      (all-implies (λ (d : ClassOf Name). text_eq d.name c ≡ false) _ (λ d e. own-kept d.name b t (ap (λ x. x && beq b meta && text_eq t s) e)) (chain_from text_eq i.classes o) a)

  module _ (e : ClassOf Name) (named : class_named text_eq i.classes c ≡ Some e) (m : EntryOf Name) (own : own_method text_eq i.methods c meta s ≡ Some m) where
    -- the superclass of the class
    abbrev up : Option (ClassOf Name)
    up = superclass_of text_eq i.classes e

    -- where the class stands
    place : (k : ℕ) × (slice_get i.classes k ≡ Some e)
    place = find-place (λ (d : ClassOf Name). text_eq c d.name) i.classes e named

    -- its name
    called : c ≡ e.name
    called = text-same c e.name (subst (OptionNames (λ (d : ClassOf Name). text_eq c d.name ≡ true)) named (find-passes (λ (d : ClassOf Name). text_eq c d.name) i.classes))

    -- a class that stands before it
    abbrev Before : ClassOf Name → Type 0
    Before d = (k : ℕ) × (k < place.0) × (slice_get i.classes k ≡ Some d)

    -- has another name
    before-other : (d : ClassOf Name) → Before d → text_eq d.name c ≡ false
    before-other d (k, less, at) =
        by_cases (text_eq d.name c)
        (λ t.
        let here = slice_get-map (λ (x : ClassOf Name). x.name) i.classes k ∙ ap (λ o. option_name o) at in
        let there = slice_get-map (λ (x : ClassOf Name). x.name) i.classes place.0 ∙ ap (λ o. option_name o) place.1 in
        absurd (apart (ordered.distinct k place.0 c (here ∙ ap Some (text-same d.name c t)) (there ∙ ap Some (sym called)))))
        (λ t. t)
      where
        option_name : Option (ClassOf Name) → Option Name
        option_name None = None
        option_name (Some x) = Some x.name

        apart : k ≡ place.0 → ⊥
        apart q = absurd (omega (arith, q, less))

    -- and so have all above
    above-other : AllByRecursion (λ (d : ClassOf Name). text_eq d.name c ≡ false) (chain_from text_eq i.classes up)
    above-other =
        all-implies Before (λ (d : ClassOf Name). text_eq d.name c ≡ false) before-other (chain_from text_eq i.classes up)
        (upwards-all Before (superclass_of text_eq i.classes) (λ d h. next d h.0 h.1 h.2 (superclass_of text_eq i.classes d) refl) _ up (next-first up refl))
      where
        next : (d : ClassOf Name) (k : ℕ) → k < place.0 → slice_get i.classes k ≡ Some d → (o : Option (ClassOf Name)) → superclass_of text_eq i.classes d ≡ o → OptionNames Before o
        next d k less at None q = tt
        next d k less at (Some x) q = let there = superclass_before text_eq text_eq-refl i.classes ordered.before k d x at q in (there.0, trans there.0 k there.1 less, there.2)
          where
            trans : (a b : ℕ) → a < b → b < place.0 → a < place.0
            trans a b p r = omega (arith, p, r)

        next-first : (o : Option (ClassOf Name)) → superclass_of text_eq i.classes e ≡ o → OptionNames Before o
        next-first None q = tt
        next-first (Some x) q = superclass_before text_eq text_eq-refl i.classes ordered.before place.0 e x place.1 q

    -- from a class on: the same, or the method that goes and what is inherited
    abbrev Found : Option (ClassOf Name) → Type 0
    Found o = (on_chain text_eq after o meta s ≡ on_chain text_eq i o meta s) ⊎ ((on_chain text_eq i o meta s ≡ Some m) × (on_chain text_eq after o meta s ≡ on_chain text_eq i up meta s))

    -- from nothing
    nothing-found : (x : ImageOf Name) (b : Bool) (t : Name) → on_chain text_eq x None b t ≡ None
    nothing-found x b t = ap (first_given (λ d. own_method text_eq x.methods d.name b t)) (upwards-none (superclass_of text_eq x.classes) (length x.classes))

    from-none : Found None
    from-none = inl (nothing-found after meta s ∙ sym (nothing-found i meta s))

    module _ (k : ℕ) (d : ClassOf Name) (at : slice_get i.classes k ≡ Some d) where
      -- what a class finds, by what its superclass does
      step : (x : ImageOf Name) → x.classes ≡ i.classes → on_chain text_eq x (Some d) meta s ≡ option_or (own_method text_eq x.methods d.name meta s) (on_chain text_eq x (superclass_of text_eq i.classes d) meta s)
      step x same =
          ap (λ cs. first_given (λ y. own_method text_eq x.methods y.name meta s) (chain_from text_eq cs (Some d))) same
          ∙ ap (first_given (λ y. own_method text_eq x.methods y.name meta s)) (chain_from-step text_eq text_eq-refl i.classes ordered.before k d at)
          ∙ ap (λ cs. option_or (own_method text_eq x.methods d.name meta s) (first_given (λ y. own_method text_eq x.methods y.name meta s) (chain_from text_eq cs (superclass_of text_eq i.classes d)))) (sym same)

      -- the class itself
      at-class : text_eq d.name c ≡ true → Found (Some d)
      at-class t =
          inr (
            step i refl ∙ ap (λ n. option_or (own_method text_eq i.methods n meta s) (on_chain text_eq i (superclass_of text_eq i.classes d) meta s)) (text-same d.name c t) ∙ ap (λ o. option_or o (on_chain text_eq i (superclass_of text_eq i.classes d) meta s)) own,
            step after refl ∙ ap (λ n. option_or (own_method text_eq after.methods n meta s) (on_chain text_eq after (superclass_of text_eq i.classes d) meta s)) (text-same d.name c t)
                ∙ ap (λ o. option_or o (on_chain text_eq after (superclass_of text_eq i.classes d) meta s)) own-removed ∙ ap (λ x. on_chain text_eq after (superclass_of text_eq i.classes x) meta s) (same (sym there ∙ named))
                ∙ without-same up meta s above-other,
          )
        where
          there : class_named text_eq i.classes c ≡ Some d
          there = ap (class_named text_eq i.classes) (sym (text-same d.name c t)) ∙ named-found i ordered i.classes ordered.distinct k d at

          same : Some d ≡ Some e → d ≡ e
          same q = cc

      -- another class
      by-own : text_eq d.name c ≡ false → (o : Option (EntryOf Name)) → own_method text_eq i.methods d.name meta s ≡ o → Found (superclass_of text_eq i.classes d) → Found (Some d)
      by-own t o q above = from o q above
        where
          kept : own_method text_eq after.methods d.name meta s ≡ own_method text_eq i.methods d.name meta s
          kept = own-kept d.name meta s (ap (λ x. x && beq meta meta && text_eq s s) t)

          before : (o : Option (EntryOf Name)) → own_method text_eq i.methods d.name meta s ≡ o → on_chain text_eq i (Some d) meta s ≡ option_or o (on_chain text_eq i (superclass_of text_eq i.classes d) meta s)
          before o q = step i refl ∙ ap (λ y. option_or y (on_chain text_eq i (superclass_of text_eq i.classes d) meta s)) q

          later : (o : Option (EntryOf Name)) → own_method text_eq i.methods d.name meta s ≡ o → on_chain text_eq after (Some d) meta s ≡ option_or o (on_chain text_eq after (superclass_of text_eq i.classes d) meta s)
          later o q = step after refl ∙ ap (λ y. option_or y (on_chain text_eq after (superclass_of text_eq i.classes d) meta s)) (kept ∙ q)

          from : (o : Option (EntryOf Name)) → own_method text_eq i.methods d.name meta s ≡ o → Found (superclass_of text_eq i.classes d) → Found (Some d)
          from (Some x) q above = inl (later (Some x) q ∙ sym (before (Some x) q))
          from None q (inl p) = inl (later None q ∙ p ∙ sym (before None q))
          from None q (inr p) = inr (before None q ∙ p.0, later None q ∙ p.1)

    -- from a class at a place
    from-class : (bound k : ℕ) (d : ClassOf Name) → k < bound → slice_get i.classes k ≡ Some d → Found (Some d)
    from-class zero k d less at = absurd (omega (arith, less))
    from-class (suc bound) k d less at =
        by_cases (text_eq d.name c) (at-class k d at)
        (λ t. by-own k d at t (own_method text_eq i.methods d.name meta s) refl (above (superclass_of text_eq i.classes d) refl (λ l x lower there. from-class bound l x (omega (arith, less, lower)) there)))
      where
        above : (o : Option (ClassOf Name)) → superclass_of text_eq i.classes d ≡ o → ((l : ℕ) (x : ClassOf Name) → l < k → slice_get i.classes l ≡ Some x → Found (Some x)) → Found o
        above None q rest = from-none
        above (Some x) q rest = let there = superclass_before text_eq text_eq-refl i.classes ordered.before k d x at q in rest there.0 x there.1 there.2

    -- from a class that is found by a test
    from-found : (p : ClassOf Name → Bool) (o : Option (ClassOf Name)) → find p i.classes ≡ o → Found o
    from-found p None q = from-none
    from-found p (Some d) q = let there = find-place p i.classes d q in from-class (suc there.0) there.0 d (omega arith) there.1

    -- from the class of a name
    from-name : (o : Option Name) → Found (class_of_name text_eq i.classes o)
    from-name None = from-none
    from-name (Some n) = from-found (λ (d : ClassOf Name). text_eq n d.name) (class_named text_eq i.classes n) refl

    -- what classes understand as objects, on the class side
    abbrev as_objects : ImageOf Name → Bool → Name → Option (EntryOf Name)
    as_objects x b t = if b then as_object text_words x t else None

    module _ (n : EntryOf Name) (inherited : super_lookup text_words i (Some c) meta s ≡ Some n) (same : is_same_method text_words is_super i i m n ≡ true) where
      -- what is inherited
      above-class : option_or (on_chain text_eq i up meta s) (as_objects i meta s) ≡ Some n
      above-class = sym (super_lookup-above text_words i c e meta s named) ∙ inherited

      -- the method that goes is the same as what is inherited
      pair : IsSame i after m n
      pair = (subst (OptionNames (IsIn i)) own (find-all (IsIn i) (is_method text_eq c meta s) i.methods (at-all (IsIn i) i.methods (λ k x at. (k, at)))), inr same)

      -- the place of the method, by its side and selector
      at-place : (P : Bool → Name → Type 0) (b : Bool) (t : Name) → (beq b meta && text_eq t s) ≡ true → P meta s → P b t
      at-place P b t h p =
          subst (λ x. P x t) (sym (sides-same b meta (and-true_left (beq b meta) (text_eq t s) h))) (subst (λ x. P meta x) (sym (text-same t s (and-true_right (beq b meta) (text_eq t s) h))) p)

      -- no class has the method there
      nowhere : (b : Bool) (t : Name) → (beq b meta && text_eq t s) ≡ false → (d : Name) → is_place c meta s d b t ≡ false
      nowhere b t h d = by (text_eq d c) (beq b meta) h
        where
          by : (x y : Bool) → (y && text_eq t s) ≡ false → ((x && y) && text_eq t s) ≡ false
          by true y q = q
          by false y q = refl

      -- two that are the same with nothing behind them
      or-none : (o : Option (EntryOf Name)) → option_or o None ≡ o
      or-none None = refl
      or-none (Some x) = refl

      -- on a chain, where the method is one of the instance side
      chain-both : meta ≡ false → (o : Option (ClassOf Name)) → Found o → AreBoth (IsSame i after) (on_chain text_eq i o meta s) (on_chain text_eq after o meta s)
      chain-both side o (inl p) = subst (λ x. AreBoth (IsSame i after) (on_chain text_eq i o meta s) x) (sym p) (same-both i after (on_chain text_eq i o meta s) (on_chain-in i o meta s))
      chain-both side o (inr p) =
          subst (λ x. AreBoth (IsSame i after) x (on_chain text_eq after o meta s)) (sym p.0)
          (subst (λ x. AreBoth (IsSame i after) (Some m) x) (sym (p.1 ∙ sym (or-none (on_chain text_eq i up meta s)) ∙ ap (λ b. option_or (on_chain text_eq i up meta s) (as_objects i b s)) (sym side) ∙ above-class)) pair)

      -- what classes understand as objects
      objects-both : (b : Bool) (t : Name) → AreBoth (IsSame i after) (as_objects i b t) (as_objects after b t)
      objects-both false t = tt
      objects-both true t =
          by_cases (beq false meta && text_eq t s)
          (λ h. at-place (λ b u. AreBoth (IsSame i after) (on_chain text_eq i (find (λ (d : ClassOf Name). text_words.is_class d.name) i.classes) b u) (on_chain text_eq after (find (λ (d : ClassOf Name). text_words.is_class d.name) i.classes) b u)) false t h
          (chain-both (sym (sides-same false meta (and-true_left (beq false meta) (text_eq t s) h))) (find (λ (d : ClassOf Name). text_words.is_class d.name) i.classes) (from-found (λ (d : ClassOf Name). text_words.is_class d.name) (find (λ (d : ClassOf Name). text_words.is_class d.name) i.classes) refl)))
          (λ h. subst (λ x. AreBoth (IsSame i after) (as_objects i true t) x) (sym (elsewhere-same (find (λ (d : ClassOf Name). text_words.is_class d.name) i.classes) false t (nowhere false t h))) (same-both i after (as_objects i true t) (object-in i true t)))

      -- on the side of the method nothing else changes
      objects-same : (x : Bool) → meta ≡ x → as_objects after meta s ≡ as_objects i meta s
      objects-same true q =
          ap (λ b. as_objects after b s) q ∙ elsewhere-same (find (λ (d : ClassOf Name). text_words.is_class d.name) i.classes) false s (nowhere false s (ap (λ b. beq false b && text_eq s s) q)) ∙ ap (λ b. as_objects i b s) (sym q)
      objects-same false q = ap (λ b. as_objects after b s) q ∙ ap (λ b. as_objects i b s) (sym q)

      -- a look-up of the method
      found-both : (o : Option (ClassOf Name)) → Found o → AreBoth (IsSame i after) (option_or (on_chain text_eq i o meta s) (as_objects i meta s)) (option_or (on_chain text_eq after o meta s) (as_objects after meta s))
      found-both o (inl p) =
          subst (λ x. AreBoth (IsSame i after) (option_or (on_chain text_eq i o meta s) (as_objects i meta s)) (option_or x (as_objects after meta s))) (sym p)
          (or-both i after (on_chain text_eq i o meta s) (as_objects i meta s) (as_objects after meta s) (on_chain-in i o meta s) (objects-both meta s))
      found-both o (inr p) =
          subst (λ x. AreBoth (IsSame i after) (option_or x (as_objects i meta s)) (option_or (on_chain text_eq after o meta s) (as_objects after meta s))) (sym p.0)
          (subst (λ x. AreBoth (IsSame i after) (Some m) x) (sym ((λ k. option_or (p.1 k) (objects-same meta refl k)) ∙ above-class)) pair)

      -- a look-up
      lookup-both : (o : Option Name) (b : Bool) (t : Name) → AreBoth (IsSame i after) (lookup text_words i o b t) (lookup text_words after o b t)
      lookup-both o b t =
          by_cases (beq b meta && text_eq t s)
          (λ h. at-place (λ x u. AreBoth (IsSame i after) (lookup text_words i o x u) (lookup text_words after o x u)) b t h (found-both (class_of_name text_eq i.classes o) (from-name o)))
          (λ h. subst (λ x. AreBoth (IsSame i after) (lookup text_words i o b t) (option_or x (as_objects after b t))) (sym (elsewhere-same (class_of_name text_eq i.classes o) b t (nowhere b t h)))
          (or-both i after (on_chain text_eq i (class_of_name text_eq i.classes o) b t) (as_objects i b t) (as_objects after b t) (on_chain-in i (class_of_name text_eq i.classes o) b t) (objects-both b t)))

      each-any : (cs : List Name) → AllByRecursion (λ x. Unit {0}) cs
      each-any [] = tt
      each-any (x ∷ cs) = (tt, each-any cs)

      -- the runs are the same
      pub inherited-runs : (k : ℕ) → run after k ≡ run i k
      inherited-runs k =
          found-runs i after refl refl (λ x. Unit {0}) tt (each-any value_classes) (λ d b t u. lookup-both (Some d) b t) (λ x t at sends. lookup-both _ x.meta t) (λ t. lookup-both _ false t) (λ x d at r. tt) (λ l x d at r. tt) k

      pub inherited-matched : AreMatched i after no_renaming
      inherited-matched =
          found-matched i after refl refl (λ x. Unit {0}) tt (each-any value_classes) (λ d b t u. lookup-both (Some d) b t) (λ x t at sends. lookup-both _ x.meta t) (λ t. lookup-both _ false t) (λ x d at r. tt) (λ l x d at r. tt)
