-- Images whose look-ups agree on lists of classes, selectors and methods have the same runs.
use Rattle.std.proofs.Common.{◌≡◌, ◌≢◌, ℕ, List, [], ◌∷◌, length, Option, Some, None, ◌⊎◌, inl, inr, refl, sym, ap, ◌∙◌, subst}
use Rattle.std.specs.Prelude.{Bool, true, false, ◌||◌, if◌then◌else◌, map, codes, Contains}
use Rattle.std.specs.List.{AllByRecursion, list_any}
use Rattle.std.specs.Option.{option_or}
use Rattle.std.proofs.lemmas.Bool.{false≢true}
use Rattle.rb_base.specs.Names.{text_eq}
use Rattle.rb_base.proofs.NamesLemmas.{text_eq-refl}
use Rattle.tree_model.specs.Path.{statement_trees}
use Rattle.scope_model.specs.Scope.{doit_scope}
use Rattle.image_model.specs.Image.{ClassOf, EntryOf, DoItOf, ImageOf}
use Rattle.image_model.specs.ImageNames.{OptionNames}
use Rattle.image_model.specs.Words.{text_words}
use Rattle.image_model.specs.Upwards.{first_given}
use Rattle.image_model.specs.Chain.{class_named, superclass_of, chain_from, chain}
use Rattle.image_model.specs.Lookup.{own_method, on_chain, as_object, lookup, super_lookup}
use Rattle.image_model.specs.Means.{means, means_in_doit}
use Rattle.image_model.proofs.UpwardsLemmas.{upwards-none}
use Rattle.run_model.specs.Values.{Name, true_value, false_value}
use Rattle.run_model.specs.ObjectPrimitives.{value_classes, is_on_chain}
use Rattle.run_model.specs.Runs.{run, doit_class}
use Rattle.run_model.specs.Renamings.{no_renaming}
use Rattle.run_model.specs.Matched.{AreMatched}
use Rattle.run_model.proofs.MatchedLemmas.{matched-runs}
use Rattle.run_model.proofs.Finite.{by_cases}
use Rattle.run_model.proofs.RenamingLemmas.{text-same}
use Rattle.resolved_model.specs.Resolving.{meant_in_doit, resolved_doit}
use Rattle.resolved_model.specs.ResolvedImages.{plain_class, resolved_image}
use Rattle.agreement_laws.proofs.PlainChains.{plain-chain}
use Rattle.mapped_model.specs.NamesOfImages.{HasOrderedClasses}
use Rattle.mapped_model.proofs.NodesBelow.{among-first}
use Rattle.mapped_model.proofs.RenamedVariableLemmas.{all-at}
use Rattle.command_model.specs.SameMethods.{is_same_method}
use Rattle.lookup_model.specs.AgreeingLookups.{AgreeOn}
use Rattle.lookup_model.proofs.AgreeingRuns.{same-runs}
use Rattle.agreement_laws.specs.Reaching.{is_super, SendsAbove}
use Rattle.agreement_laws.specs.AgreeingImages.{Reached, IsWithin, IsFound, FindsAbove, MeansSameIn, AgreeOnReached}
use Rattle.agreement_laws.proofs.EntriesAgree.{AreBoth, PairOf, entries-agree}
use Rattle.agreement_laws.proofs.CodeKnown.{doing-known, doit-known}
use Rattle.agreement_laws.proofs.KernelChains.{IsThere, named-there, chain-there}
use Rattle.same_trees.proofs.Told.{statements_refl}
use Rattle.agreement_laws.proofs.SameMethods.{doing-same}
use Rattle.agreement_laws.proofs.SameTrees.{MeansSame, scope-same}
use Rattle.rename_laws.proofs.OutsideAfter.{find-passes}
use Rattle.agreement_laws.proofs.SameAbove.{supers-same}
use Rattle.rename_laws.proofs.Unnamed.{fact-of}

module _ (x : ImageOf Name) (ordered : HasOrderedClasses x) where
  -- no class has the empty name
  empty-none : class_named text_eq x.classes [] ≡ None
  empty-none = by (class_named text_eq x.classes []) (named-there x ordered (Some [])) (find-passes (λ (e : ClassOf Name). text_eq [] e.name) x.classes)
    where
      by : (o : Option (ClassOf Name)) → OptionNames (IsThere x ordered) o → OptionNames (λ (e : ClassOf Name). text_eq [] e.name ≡ true) o → o ≡ None
      by None at h = refl
      by (Some e) at h = absurd (all-at (λ (c : ClassOf Name). c.name ≢ []) x.classes at.0 e ordered.named at.1 (sym (text-same [] e.name h)))

  -- nothing is found from it but what classes understand as objects
  empty-found : (b : Bool) (t : Name) → lookup text_words x (Some []) b t ≡ (if b then as_object text_words x t else None)
  empty-found b t =
      ap (λ o. option_or (on_chain text_eq x o b t) (if b then as_object text_words x t else None)) empty-none
      ∙ ap (λ cs. option_or (first_given (λ c. own_method text_eq x.methods c.name b t) cs) (if b then as_object text_words x t else None)) (upwards-none (superclass_of text_eq x.classes) (length x.classes))

  -- no class stands above it, and it stands above none
  empty-above : (d : Name) → list_any (λ (c : ClassOf Name). text_eq d c.name) (chain text_eq x.classes (Some [])) ≡ false
  empty-above d = ap (λ o. list_any (λ (c : ClassOf Name). text_eq d c.name) (chain_from text_eq x.classes o)) empty-none ∙ ap (list_any (λ (c : ClassOf Name). text_eq d c.name)) (upwards-none (superclass_of text_eq x.classes) (length x.classes))

  empty-on : (n : Name) → list_any (λ (c : ClassOf Name). text_eq [] c.name) (chain text_eq x.classes (Some n)) ≡ false
  empty-on n = by (chain text_eq x.classes (Some n)) (chain-there x ordered (class_named text_eq x.classes n) (named-there x ordered (Some n)))
    where
      by : (cs : List (ClassOf Name)) → AllByRecursion (IsThere x ordered) cs → list_any (λ (c : ClassOf Name). text_eq [] c.name) cs ≡ false
      by [] a = refl
      by (c ∷ cs) a =
          by_cases (text_eq [] c.name) (λ t. absurd (all-at (λ (e : ClassOf Name). e.name ≢ []) x.classes a.0.0 c ordered.named a.0.1 (sym (text-same [] c.name t))))
          (λ t. ap (λ b. b || list_any (λ (e : ClassOf Name). text_eq [] e.name) cs) t ∙ by cs a.1)

module _ (r : Reached) (i j : ImageOf Name) (before : HasOrderedClasses i) (after : HasOrderedClasses j) (agree : AgreeOnReached r i j) where
  -- classes that are reached, and the empty name
  abbrev Class : Name → Type 0
  Class c = Contains r.classes c ⊎ (c ≡ [])

  abbrev Selector : Name → Type 0
  Selector s = Contains r.selectors s

  -- a method that is reached, and the same one of j
  abbrev IsSame : EntryOf Name → EntryOf Name → Type 0
  IsSame m n = Contains r.methods m × (is_same_method text_words is_super i j m n ≡ true)

  found-both : (o p : Option (EntryOf Name)) → IsFound r i j o p → AreBoth IsSame o p
  found-both None None h = tt
  found-both None (Some n) h = absurd (false≢true h.1)
  found-both (Some m) None h = absurd (false≢true h.1)
  found-both (Some m) (Some n) h = h

  -- nothing behind
  or-none : (o : Option (EntryOf Name)) → option_or o None ≡ o
  or-none None = refl
  or-none (Some m) = refl

  -- what classes understand as objects is what `Class` finds
  objects-both : (b : Bool) (t : Name) → Selector t → AreBoth IsSame (if b then as_object text_words i t else None) (if b then as_object text_words j t else None)
  objects-both false t k = tt
  objects-both true t k =
      subst (λ o. AreBoth IsSame o (as_object text_words j t)) (or-none (as_object text_words i t))
      (subst (λ o. AreBoth IsSame (option_or (as_object text_words i t) None) o) (or-none (as_object text_words j t))
      (found-both (lookup text_words i (Some (codes "Class")) false t) (lookup text_words j (Some (codes "Class")) false t) (agree.found (codes "Class") false t agree.kernel.1.1.1.1.1.1.1.1.1.0 k)))

  find-same : (c : Name) (b : Bool) (t : Name) → Class c → Selector t → AreBoth IsSame (lookup text_words i (Some c) b t) (lookup text_words j (Some c) b t)
  find-same c b t (inl h) k = found-both (lookup text_words i (Some c) b t) (lookup text_words j (Some c) b t) (agree.found c b t h k)
  find-same c b t (inr e) k =
      subst (λ n. AreBoth IsSame (lookup text_words i (Some n) b t) (lookup text_words j (Some n) b t)) (sym e)
      (subst (λ o. AreBoth IsSame o (lookup text_words j (Some []) b t)) (sym (empty-found i before b t))
      (subst (λ o. AreBoth IsSame (if b then as_object text_words i t else None) o) (sym (empty-found j after b t)) (objects-both b t k)))

  kinds-same : (c d : Name) → Class c → Class d → is_on_chain (map plain_class j.classes) d c ≡ is_on_chain (map plain_class i.classes) d c
  kinds-same c d p q = ap (λ b. if b then true_value else false_value) (plain-chain j d c ∙ by p q ∙ sym (plain-chain i d c))
    where
      by : Class c → Class d → list_any (λ (e : ClassOf Name). text_eq d e.name) (chain text_eq j.classes (Some c)) ≡ list_any (λ (e : ClassOf Name). text_eq d e.name) (chain text_eq i.classes (Some c))
      by (inl h) (inl k) = agree.kinds c d h k
      by (inl h) (inr e) = subst (λ n. list_any (λ (x : ClassOf Name). text_eq n x.name) (chain text_eq j.classes (Some c)) ≡ list_any (λ (x : ClassOf Name). text_eq n x.name) (chain text_eq i.classes (Some c))) (sym e) (empty-on j after c ∙ sym (empty-on i before c))
      by (inr e) k = subst (λ n. list_any (λ (x : ClassOf Name). text_eq d x.name) (chain text_eq j.classes (Some n)) ≡ list_any (λ (x : ClassOf Name). text_eq d x.name) (chain text_eq i.classes (Some n))) (sym e) (empty-above j after d ∙ sym (empty-above i before d))

  -- a do-it
  doit-same : (d : DoItOf Name) → MeansSameIn r i j d → resolved_doit i d ≡ resolved_doit j d
  unfolding resolved_doit
  doit-same d means =
      scope-same (doit_scope d.body) (doit_scope d.body) (meant_in_doit i d) (meant_in_doit j d) (record { arguments = refl; temporaries = refl; statements = statements_refl text_eq text_eq-refl d.body.statements })
      (among-first (MeansSame (meant_in_doit i d) (meant_in_doit j d)) (statement_trees d.body.statements) (λ path u q n e. ap (λ g. record { meaning = g; place = (meant_in_doit i d path n).place }) (means path u n q e)))

  doits-same : map (resolved_doit j) j.doits ≡ map (resolved_doit i) i.doits
  doits-same = ap (map (resolved_doit j)) agree.doits ∙ each i.doits agree.doits_mean
    where
      each : (ds : List (DoItOf Name)) → AllByRecursion (MeansSameIn r i j) ds → map (resolved_doit j) ds ≡ map (resolved_doit i) ds
      each [] a = refl
      each (d ∷ ds) a = λ l. sym (doit-same d a.0) l ∷ each ds a.1 l

  -- methods that are the same find the same above
  supers : (m n : EntryOf Name) → IsSame m n → (t : Name) → SendsAbove m.tree.body t → AreBoth IsSame (super_lookup text_words i m.class m.meta t) (super_lookup text_words j n.class n.meta t)
  supers m n (at, e) t sends =
      supers-same i j (AreBoth IsSame) m n e t sends
      (found-both (super_lookup text_words i m.class m.meta t) (super_lookup text_words j m.class m.meta t)
      (fact-of (λ (x : EntryOf Name). FindsAbove r i j x.class x.meta x.class x.meta x.tree.body) r.methods m agree.methods_above at t sends))

  each-known : (cs : List Name) → AllByRecursion (Contains r.classes) cs → AllByRecursion Class cs
  each-known [] a = tt
  each-known (c ∷ cs) a = (inl a.0, each-known cs a.1)

  agree-on : AgreeOn Class Selector (PairOf i j Class Selector IsSame) (resolved_image i) (resolved_image j)
  agree-on =
      entries-agree i j Class Selector IsSame doits-same kinds-same (inr refl) (each-known value_classes agree.kernel) find-same (λ m n h. doing-same i j m n h.1)
      (λ m n h Above k.
      let within = fact-of (λ (x : EntryOf Name). IsWithin r i j (means text_words i x) x.tree.body) r.methods m agree.methods_within h.0 in
      doing-known Class Selector Above i m (λ c q. inl (within.reads c q)) within.sends (λ t sends. k t (supers m n h t sends)) m.tree.primitive)
      (λ k d at Above h.
      let within = all-at (λ (x : DoItOf Name). IsWithin r i j (means_in_doit text_words i x) x.body) i.doits k d agree.doits_within at in
      let above = all-at (λ (x : DoItOf Name). FindsAbove r i j (doit_class i) false (doit_class j) false x.body) i.doits k d agree.doits_above at in
      doit-known Class Selector Above i d (λ c q. inl (within.reads c q)) within.sends
      (λ t sends. h t (found-both (super_lookup text_words i (doit_class i) false t) (super_lookup text_words j (doit_class j) false t) (above t sends))))

  -- the runs are the same
  pub reached-runs : (n : ℕ) → run j n ≡ run i n
  reached-runs n = same-runs Class Selector (PairOf i j Class Selector IsSame) i j agree-on n

  pub reached-matched : AreMatched i j no_renaming
  reached-matched = matched-runs i j (λ n. sym (reached-runs n))
