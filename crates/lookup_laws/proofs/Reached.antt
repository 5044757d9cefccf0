-- Where no class is reached that finds another method, the runs are the same.
use Rattle.std.proofs.Common.{◌≡◌, ◌≢◌, ℕ, List, [], ◌∷◌, length, Option, Some, None, ◌⊎◌, inl, inr, refl, sym, ap, ◌∙◌, subst}
use Rattle.std.specs.Prelude.{Bool, true, false, not, ◌&&◌, ◌||◌, find, slice_get, if◌then◌else◌, codes}
use Rattle.std.proofs.Math.Bool.{beq}
use Rattle.std.specs.List.{AllByRecursion, list_any}
use Rattle.std.specs.Option.{option_map, option_map_or, option_or, option_and_then}
use Rattle.std.proofs.lemmas.Bool.{false≢true}
use Rattle.rb_base.specs.Names.{text_eq}
use Rattle.rb_base.proofs.NamesLemmas.{text_eq-refl}
use Rattle.tree_model.specs.Tree.{send}
use Rattle.tree_model.specs.Nodes.{Placed, nodes}
use Rattle.tree_model.proofs.NodesLemmas.{Contains-part_in}
use Rattle.scope_model.specs.Control.{is_empty}
use Rattle.image_model.specs.Image.{ClassOf, EntryOf, DoItOf, ImageOf}
use Rattle.image_model.specs.ImageNames.{OptionNames}
use Rattle.image_model.specs.Words.{text_words}
use Rattle.image_model.specs.Chain.{class_named, class_of_name, superclass_of, chain_from}
use Rattle.image_model.specs.Lookup.{own_method, on_chain, as_object, lookup, super_lookup}
use Rattle.image_model.specs.Means.{undeclared, means, means_in_doit}
use Rattle.image_model.specs.Nodes.{NodeOf, image_nodes}
use Rattle.image_model.specs.Uses.{is_that_class, uses, class_uses}
use Rattle.image_model.proofs.UpwardsLemmas.{upwards-none}
use Rattle.run_model.specs.Values.{Name}
use Rattle.run_model.specs.ObjectPrimitives.{value_classes}
use Rattle.run_model.specs.Runs.{run, doit_class}
use Rattle.run_model.proofs.Finite.{by_cases, and-true_left, and-true_right}
use Rattle.run_model.proofs.RenamingLemmas.{text-same}
use Rattle.resolved_model.specs.Resolving.{meant_in, meant_in_doit}
use Rattle.mapped_model.specs.NamesOfImages.{HasOrderedClasses}
use Rattle.mapped_model.proofs.RenamedVariableLemmas.{all-at}
use Rattle.command_model.specs.SameMethods.{is_super_node, is_super_sender, is_same_found}
use Rattle.command_model.specs.MethodConditions.{is_sent_nowhere, begins_in, is_reached, finds_another, is_unreached}
use Rattle.lookup_laws.specs.OtherMethods.{DifferInSelector}
use Rattle.agreement_laws.proofs.EntriesAgree.{AreBoth}
use Rattle.agreement_laws.proofs.MethodsFound.{IsIn, lookup-in}
use Rattle.lookup_laws.proofs.MethodsApart.{chain-same}
use Rattle.rename_laws.proofs.Unnamed.{each-fails}
use Rattle.rename_laws.proofs.NodesOfImages.{none-passes, item-fails, in-method-fails, in-doit-fails}
use Rattle.agreement_laws.proofs.KernelChains.{IsThere, found-there, named-there, one-named, there-step}
use Rattle.agreement_laws.specs.Reaching.{is_super}
use Rattle.agreement_laws.specs.Reaching.{SendsAbove}
use Rattle.agreement_laws.proofs.CodeKnown.{ReadsClass}
use Rattle.agreement_laws.proofs.SameFound.{IsSame, same-both, found-runs}
use Rattle.lookup_laws.proofs.Unsent.{unsent-runs}
use Rattle.rename_laws.proofs.Unnamed.{denied}
use Rattle.rename_laws.proofs.OutsideAfter.{find-passes}
use Rattle.agreement_laws.proofs.Tests.{sides-same}

-- the first of two alternatives
or-left : (a b : Bool) → a ≡ true → (a || b) ≡ true
or-left a b e = ap (λ x. x || b) e

or-right : (a b : Bool) → b ≡ true → (a || b) ≡ true
or-right true b e = refl
or-right false b e = e

-- the first of two where not both hold
not-both : (a b : Bool) → (a && b) ≡ false → b ≡ true → a ≡ false
not-both true b h e = absurd (false≢true (sym h ∙ e))
not-both false b h e = refl

-- what is not denied
denied-false : (b : Bool) → not b ≡ false → b ≡ true
denied-false true e = refl
denied-false false e = absurd (false≢true (sym e))

-- an item of a list passes: some does
item-passes : {X : Type 0} (p : X → Bool) (xs : List X) (k : ℕ) (x : X) → slice_get xs k ≡ Some x → p x ≡ true → list_any p xs ≡ true
item-passes p xs k x at e = by_cases (list_any p xs) (λ t. t) (λ t. absurd (false≢true (sym (all-at (λ y. p y ≡ false) xs k x (each-fails p xs t) at) ∙ e)))

module _ (i j : ImageOf Name) (ordered : HasOrderedClasses i) (meta : Bool) (s : Name) (differ : DifferInSelector s i j)
    (others : (d : Name) (b : Bool) (t : Name) → (beq b meta && text_eq t s) ≡ false → own_method text_eq j.methods d b t ≡ own_method text_eq i.methods d b t)
    (kernel : AllByRecursion (λ (v : Name). AllByRecursion (λ (e : ClassOf Name). own_method text_eq j.methods e.name meta s ≡ own_method text_eq i.methods e.name meta s) (chain_from text_eq i.classes (class_named text_eq i.classes v))) value_classes) where
  -- what is found for another selector or on the other side
  others-chain : (o : Option (ClassOf Name)) (b : Bool) (t : Name) → (beq b meta && text_eq t s) ≡ false → on_chain text_eq j o b t ≡ on_chain text_eq i o b t
  others-chain o b t e = chain-same i j differ.classes b t o (each (chain_from text_eq i.classes o))
    where
      each : (cs : List (ClassOf Name)) → AllByRecursion (λ (d : ClassOf Name). own_method text_eq j.methods d.name b t ≡ own_method text_eq i.methods d.name b t) cs
      each [] = tt
      each (d ∷ cs) = (others d.name b t e, each cs)

  -- the side and the selector
  at-place : (P : Bool → Name → Type 0) (b : Bool) (t : Name) → (beq b meta && text_eq t s) ≡ true → P meta s → P b t
  at-place P b t h p =
      subst (λ x. P x t) (sym (sides-same b meta (and-true_left (beq b meta) (text_eq t s) h))) (subst (λ x. P meta x) (sym (text-same t s (and-true_right (beq b meta) (text_eq t s) h))) p)

  -- the same is found from a class
  abbrev ChainSame : Option (ClassOf Name) → Bool → Name → Type 0
  ChainSame o b t = on_chain text_eq j o b t ≡ on_chain text_eq i o b t

  -- for every selector and side, where it is so for the one
  chain-any : (o : Option (ClassOf Name)) → ChainSame o meta s → (b : Bool) (t : Name) → ChainSame o b t
  chain-any o h b t = by_cases (beq b meta && text_eq t s) (λ e. at-place (ChainSame o) b t e h) (λ e. others-chain o b t e)

  -- from nothing
  from-none : ChainSame None meta s
  from-none = chain-same i j differ.classes meta s None (subst (AllByRecursion _) (sym (upwards-none (superclass_of text_eq i.classes) (length i.classes))) tt)

  -- from classes of which the language speaks
  value-chains : AllByRecursion (λ (v : Name). ChainSame (class_named text_eq i.classes v) meta s) value_classes
  value-chains = each value_classes kernel
    where
      each : (vs : List Name) → AllByRecursion (λ (v : Name). AllByRecursion (λ (e : ClassOf Name). own_method text_eq j.methods e.name meta s ≡ own_method text_eq i.methods e.name meta s) (chain_from text_eq i.classes (class_named text_eq i.classes v))) vs →
          AllByRecursion (λ (v : Name). ChainSame (class_named text_eq i.classes v) meta s) vs
      each [] a = tt
      each (v ∷ vs) a = (chain-same i j differ.classes meta s (class_named text_eq i.classes v) a.0, each vs a.1)

  -- what classes understand as objects
  abbrev as_objects : ImageOf Name → Bool → Name → Option (EntryOf Name)
  as_objects x b t = if b then as_object text_words x t else None

  objects-same : (b : Bool) (t : Name) → as_objects j b t ≡ as_objects i b t
  objects-same true t =
      ap (λ cs. on_chain text_eq j (find (λ (d : ClassOf Name). text_words.is_class d.name) cs) false t) differ.classes
      ∙ chain-any (class_named text_eq i.classes (codes "Class")) value-chains.1.1.1.1.1.1.1.1.1.0 false t
  objects-same false t = refl

  -- a look-up from a class from which the same is found
  lookup-chain : (o : Option Name) → ChainSame (class_of_name text_eq i.classes o) meta s → (b : Bool) (t : Name) → lookup text_words j o b t ≡ lookup text_words i o b t
  lookup-chain o h b t =
      λ k. option_or ((ap (λ cs. on_chain text_eq j (class_of_name text_eq cs o) b t) differ.classes ∙ chain-any (class_of_name text_eq i.classes o) h b t) k) (objects-same b t k)

  both-chain : (o : Option Name) → ChainSame (class_of_name text_eq i.classes o) meta s → (b : Bool) (t : Name) → AreBoth (IsSame i j) (lookup text_words i o b t) (lookup text_words j o b t)
  both-chain o h b t = subst (λ x. AreBoth (IsSame i j) (lookup text_words i o b t) x) (sym (lookup-chain o h b t)) (same-both i j (lookup text_words i o b t) (lookup-in i o b t))

  -- what is told to be the same
  told-both : (o p : Option (EntryOf Name)) → OptionNames (IsIn i) o → is_same_found text_words is_super i j o p ≡ true → AreBoth (IsSame i j) o p
  told-both None None h e = tt
  told-both None (Some n) h e = absurd (false≢true e)
  told-both (Some m) None h e = absurd (false≢true e)
  told-both (Some m) (Some n) h e = (h, inr e)

  module _ (none : list_any (λ (e : ClassOf Name). finds_another text_words is_super i j e.name meta s && is_reached text_words is_super i e.name s) i.classes ≡ false) where
    -- a class that is reached finds the same
    reached-same : (e : ClassOf Name) → IsThere i ordered e → is_reached text_words is_super i e.name s ≡ true → is_same_found text_words is_super i j (lookup text_words i (Some e.name) meta s) (lookup text_words j (Some e.name) meta s) ≡ true
    reached-same e at r =
        denied-false _ (not-both (finds_another text_words is_super i j e.name meta s) (is_reached text_words is_super i e.name s) (all-at (λ (x : ClassOf Name). (finds_another text_words is_super i j x.name meta s && is_reached text_words is_super i x.name s) ≡ false) i.classes at.0 e (each-fails _ i.classes none) at.1) r)

    -- so does its name
    reached-both : (c : Name) → is_reached text_words is_super i c s ≡ true → (b : Bool) (t : Name) → AreBoth (IsSame i j) (lookup text_words i (Some c) b t) (lookup text_words j (Some c) b t)
    reached-both c r b t =
        by_cases (beq b meta && text_eq t s)
        (λ h. at-place (λ x u. AreBoth (IsSame i j) (lookup text_words i (Some c) x u) (lookup text_words j (Some c) x u)) b t h (by (class_named text_eq i.classes c) refl))
        (λ h. subst (λ x. AreBoth (IsSame i j) (lookup text_words i (Some c) b t) x)
        (sym (λ k. option_or ((ap (λ cs. on_chain text_eq j (class_named text_eq cs c) b t) differ.classes ∙ others-chain (class_named text_eq i.classes c) b t h) k) (objects-same b t k)))
        (same-both i j (lookup text_words i (Some c) b t) (lookup-in i (Some c) b t)))
      where
        by : (o : Option (ClassOf Name)) → class_named text_eq i.classes c ≡ o → AreBoth (IsSame i j) (lookup text_words i (Some c) meta s) (lookup text_words j (Some c) meta s)
        by None q = both-chain (Some c) (subst (λ o. ChainSame o meta s) (sym q) from-none) meta s
        by (Some e) q =
            let at : IsThere i ordered e = subst (OptionNames (IsThere i ordered)) q (named-there i ordered (Some c)) in
            let called : c ≡ e.name = text-same c e.name (subst (OptionNames (λ (x : ClassOf Name). text_eq c x.name ≡ true)) q (find-passes (λ (x : ClassOf Name). text_eq c x.name) i.classes)) in
            told-both (lookup text_words i (Some c) meta s) (lookup text_words j (Some c) meta s) (lookup-in i (Some c) meta s)
            (subst (λ x. is_same_found text_words is_super i j (lookup text_words i (Some x) meta s) (lookup text_words j (Some x) meta s) ≡ true) (sym called)
            (reached-same e at (subst (λ x. is_reached text_words is_super i x s ≡ true) called r)))

    -- a class is meant by a node
    abbrev IsMeant : Name → Type 0
    IsMeant c = not (is_empty (class_uses text_words i c)) ≡ true

    -- classes that runs reach
    abbrev Class : Name → Type 0
    Class c = ChainSame (class_named text_eq i.classes c) meta s ⊎ IsMeant c

    find-same : (c : Name) (b : Bool) (t : Name) → Class c → AreBoth (IsSame i j) (lookup text_words i (Some c) b t) (lookup text_words j (Some c) b t)
    find-same c b t (inl h) = both-chain (Some c) h b t
    find-same c b t (inr h) = reached-both c (or-left _ (list_any (begins_in text_words is_super i c s) i.methods) h) b t

    -- no class has the empty name
    nothing-same : Class []
    nothing-same = inl (by (class_named text_eq i.classes []) (found-there i ordered (λ e. text_eq [] e.name) (class_named text_eq i.classes []) refl) refl)
      where
        by : (o : Option (ClassOf Name)) → OptionNames (IsThere i ordered) o → class_named text_eq i.classes [] ≡ o → ChainSame o meta s
        by None at q = from-none
        by (Some e) at q = absurd (all-at (λ (c : ClassOf Name). c.name ≢ []) i.classes at.0 e ordered.named at.1 (sym (text-same [] e.name (subst (OptionNames (λ (x : ClassOf Name). text_eq [] x.name ≡ true)) q (find-passes (λ (x : ClassOf Name). text_eq [] x.name) i.classes)))))

    kernel-known : AllByRecursion Class value_classes
    kernel-known = each value_classes value-chains
      where
        each : (vs : List Name) → AllByRecursion (λ (v : Name). ChainSame (class_named text_eq i.classes v) meta s) vs → AllByRecursion Class vs
        each [] a = tt
        each (v ∷ vs) a = (inl a.0, each vs a.1)

    -- the superclass of a class that there may be
    abbrev above_of : Option Name → Option Name
    above_of o = option_and_then (λ (d : ClassOf Name). d.superclass) (class_of_name text_eq i.classes o)

    -- a message to `super` begins its look-up there
    super-both : (o : Option Name) (b : Bool) (t : Name) → AreBoth (IsSame i j) (lookup text_words i (above_of o) b t) (lookup text_words j (above_of o) b t) → AreBoth (IsSame i j) (super_lookup text_words i o b t) (super_lookup text_words j o b t)
    super-both o b t h = subst (λ cs. AreBoth (IsSame i j) (super_lookup text_words i o b t) (lookup text_words j (option_and_then (λ (d : ClassOf Name). d.superclass) (class_of_name text_eq cs o)) b t)) (sym differ.classes) h

    -- a method sends the selector to `super` from below a class
    begins : (d : Name) (m : EntryOf Name) → above_of m.class ≡ Some d → SendsAbove m.tree.body s → begins_in text_words is_super i d s m ≡ true
    begins d m above (path, r, args, at, super) =
        both (option_map_or (λ x. option_map_or (text_eq d) (option_and_then (λ (e : ClassOf Name). e.superclass) (class_named text_eq i.classes x)) false) m.class false) _ (by m.class above)
        (by_cases (list_any (λ (e : Placed Name). is_super_sender is_super text_eq s e.1) (nodes m.tree.body)) (λ t. t)
        (λ t. absurd (false≢true (sym (item-fails (λ (e : Placed Name). is_super_sender is_super text_eq s e.1) (nodes m.tree.body) (path, send r s args) t (Contains-part_in m.tree.body path (send r s args) at)) ∙ both (is_super_node is_super r) (text_eq s s) super (text_eq-refl s)))))
      where
        both : (a b : Bool) → a ≡ true → b ≡ true → (a && b) ≡ true
        both true b p q = q
        both false b p q = absurd (false≢true p)

        by : (o : Option Name) → above_of o ≡ Some d → option_map_or (λ x. option_map_or (text_eq d) (option_and_then (λ (e : ClassOf Name). e.superclass) (class_named text_eq i.classes x)) false) o false ≡ true
        by (Some x) q = ap (λ o. option_map_or (text_eq d) o false) q ∙ text_eq-refl d
        by None q = absurd (cc)

    -- a message to `super` in a method
    above-same : (m : EntryOf Name) (t : Name) → IsIn i m → SendsAbove m.tree.body t → AreBoth (IsSame i j) (super_lookup text_words i m.class m.meta t) (super_lookup text_words j m.class m.meta t)
    above-same m t at sends = super-both m.class m.meta t (by (above_of m.class) refl)
      where
        from : (d : Name) → above_of m.class ≡ Some d → (b : Bool) → (beq m.meta meta && text_eq t s) ≡ b → AreBoth (IsSame i j) (lookup text_words i (Some d) m.meta t) (lookup text_words j (Some d) m.meta t)
        from d q true h =
            reached-both d
            (or-right (not (is_empty (class_uses text_words i d))) _
            (item-passes (begins_in text_words is_super i d s) i.methods at.0 m at.1
            (begins d m q (subst (SendsAbove m.tree.body) (text-same t s (and-true_right (beq m.meta meta) (text_eq t s) h)) sends))))
            m.meta t
        from d q false h =
            subst (λ x. AreBoth (IsSame i j) (lookup text_words i (Some d) m.meta t) x)
            (sym (λ k. option_or ((ap (λ cs. on_chain text_eq j (class_named text_eq cs d) m.meta t) differ.classes ∙ others-chain (class_named text_eq i.classes d) m.meta t h) k) (objects-same m.meta t k)))
            (same-both i j (lookup text_words i (Some d) m.meta t) (lookup-in i (Some d) m.meta t))

        by : (o : Option Name) → above_of m.class ≡ o → AreBoth (IsSame i j) (lookup text_words i o m.meta t) (lookup text_words j o m.meta t)
        by None q = both-chain None from-none m.meta t
        by (Some d) q = from d q (beq m.meta meta && text_eq t s) refl

    -- a message to `super` in a do-it
    doits-above : (t : Name) → AreBoth (IsSame i j) (super_lookup text_words i (doit_class i) false t) (super_lookup text_words j (doit_class i) false t)
    doits-above t = super-both (doit_class i) false t (by (class_named text_eq i.classes (codes "UndefinedObject")) (found-there i ordered (λ e. text_eq (codes "UndefinedObject") e.name) (class_named text_eq i.classes (codes "UndefinedObject")) refl) kernel.0)
      where
        by : (o : Option (ClassOf Name)) → OptionNames (IsThere i ordered) o → AllByRecursion (λ (e : ClassOf Name). own_method text_eq j.methods e.name meta s ≡ own_method text_eq i.methods e.name meta s) (chain_from text_eq i.classes o) →
            AreBoth (IsSame i j) (lookup text_words i (above_of (option_map (λ (c : ClassOf Name). c.name) o)) false t) (lookup text_words j (above_of (option_map (λ (c : ClassOf Name). c.name) o)) false t)
        by None at a = both-chain None from-none false t
        by (Some e) at a =
            subst (λ o. AreBoth (IsSame i j) (lookup text_words i o false t) (lookup text_words j o false t)) (sym (ap (λ o. option_and_then (λ (d : ClassOf Name). d.superclass) o) (one-named i ordered e at)))
            (both-chain e.superclass (chain-same i j differ.classes meta s (superclass_of text_eq i.classes e) (subst (AllByRecursion _) (there-step i ordered e at) a).1) false t)

    -- a class that a node reads is meant
    reads : (m : EntryOf Name) (c : Name) → IsIn i m → ReadsClass (meant_in i m) m.tree.body c → Class c
    reads m c at (path, n, q, e) =
        inr (by_cases (is_empty (class_uses text_words i c))
        (λ h. absurd (false≢true (sym (in-method-fails i (uses text_words i (λ x meaning. is_that_class text_eq c meaning)) (none-passes (λ (x : NodeOf Name). x.use_of) (uses text_words i (λ x meaning. is_that_class text_eq c meaning)) (image_nodes i) h) at.0 m at.1 path _ q)
        ∙ ap (λ o. is_that_class text_eq c (option_map_or (λ (x : EntryOf Name). means text_words i x path n) o undeclared)) at.1 ∙ ap (is_that_class text_eq c) e ∙ text_eq-refl c)))
        (λ h. ap not h))

    doits-read : (k : ℕ) (d : DoItOf Name) (c : Name) → slice_get i.doits k ≡ Some d → ReadsClass (meant_in_doit i d) d.body c → Class c
    doits-read k d c at (path, n, q, e) =
        inr (by_cases (is_empty (class_uses text_words i c))
        (λ h. absurd (false≢true (sym (in-doit-fails i (uses text_words i (λ x meaning. is_that_class text_eq c meaning)) (none-passes (λ (x : NodeOf Name). x.use_of) (uses text_words i (λ x meaning. is_that_class text_eq c meaning)) (image_nodes i) h) k d at path _ q)
        ∙ ap (λ o. is_that_class text_eq c (option_map_or (λ (x : DoItOf Name). means_in_doit text_words i x path n) o undeclared)) at ∙ ap (is_that_class text_eq c) e ∙ text_eq-refl c)))
        (λ h. ap not h))

    reached-runs : (n : ℕ) → run j n ≡ run i n
    reached-runs n = found-runs i j differ.classes differ.doits Class nothing-same kernel-known find-same above-same doits-above reads doits-read n

  -- the runs are the same, by the condition
  pub unreached-runs : is_unreached text_words is_super i j meta s ≡ true → (n : ℕ) → run j n ≡ run i n
  unreached-runs h n =
      by_cases (is_sent_nowhere text_words i s) (λ t. unsent-runs i j s differ t n)
      (λ t. reached-runs (denied _ (sym (ap (λ b. b || not (list_any (λ (e : ClassOf Name). finds_another text_words is_super i j e.name meta s && is_reached text_words is_super i e.name s) i.classes)) t) ∙ h)) n)
