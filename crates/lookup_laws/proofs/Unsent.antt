-- Images that differ in methods of a selector that no node sends.
use Rattle.std.proofs.Common.{◌≡◌, ℕ, List, [], ◌∷◌, ◌++◌, Option, Some, None, refl, sym, ap, subst}
use Rattle.std.specs.Prelude.{Bool, true, false, slice_get}
use Rattle.std.specs.List.{AllByRecursion, list_any}
use Rattle.rb_base.specs.Names.{text_eq}
use Rattle.tree_model.specs.Tree.{TreeOf, var, literal, send, cascade, assign, block, brace, return, MessagesOf, no_messages, more_messages}
use Rattle.scope_model.specs.Scope.{method_scope, doit_scope}
use Rattle.image_model.specs.Image.{EntryOf, DoItOf, ImageOf}
use Rattle.image_model.specs.ImageNames.{OptionNames}
use Rattle.image_model.specs.Words.{text_words}
use Rattle.image_model.specs.Lookup.{lookup, super_lookup}
use Rattle.image_model.specs.Nodes.{NodeOf, image_nodes}
use Rattle.image_model.specs.Uses.{has_message, is_sender}
use Rattle.run_model.specs.Values.{Name}
use Rattle.run_model.specs.ObjectPrimitives.{value_classes}
use Rattle.run_model.specs.Runs.{run, doit_class}
use Rattle.run_model.specs.Renamings.{no_renaming}
use Rattle.run_model.specs.Matched.{AreMatched}
use Rattle.resolved_model.specs.ResolvedTrees.{Reference, of_word, of_local, of_instance_variable, of_class_side_variable, of_class_variable, of_named_class, of_transcript, of_nothing}
use Rattle.resolved_model.specs.Resolving.{MeantAt, reference_of, meant_in, meant_in_doit, resolved_method, resolved_doit}
use Rattle.resolved_model.specs.ResolvedImages.{by_code, doing_of, resolved_entry, resolved_image}
use Rattle.command_model.specs.MethodConditions.{is_sent_nowhere}
use Rattle.lookup_model.specs.KnownCode.{KnownReference, KnownMessage, KnownCode, KnownDoing}
use Rattle.lookup_model.specs.AgreeingLookups.{AgreeOn}
use Rattle.lookup_model.proofs.AgreeingRuns.{same-runs, matched-runs-agreeing}
use Rattle.lookup_laws.specs.OtherMethods.{DifferInSelector}
use Rattle.agreement_laws.proofs.KnownNodes.{is_super_at, KnownSelectors, KnownNode, scope-known}
use Rattle.rename_laws.proofs.NodesOfImages.{none-passes, in-method-fails, in-doit-fails}
use Rattle.lookup_laws.proofs.OtherSelectors.{lookup-same, super_lookup-same}
use Rattle.agreement_laws.proofs.MethodsFound.{IsIn, lookup-in}
use Rattle.agreement_laws.proofs.EntriesAgree.{AreBoth, PairOf, method-same, doits-equal, kinds-equal, entries-agree}
use Rattle.rename_laws.proofs.Unnamed.{neither_left, neither_right}

module _ (i j : ImageOf Name) (s : Name) (differ : DifferInSelector s i j) (unsent : is_sent_nowhere text_words i s ≡ true) where
  -- any class
  abbrev AnyClass : Name → Type 0
  AnyClass c = Unit {0}

  -- another selector
  abbrev Other : Name → Type 0
  Other t = text_eq s t ≡ false

  -- the same method of the image
  abbrev IsSame : EntryOf Name → EntryOf Name → Type 0
  IsSame m n = (m ≡ n) × IsIn i m

  none : list_any (λ (e : NodeOf Name). is_sender text_eq s e.tree) (image_nodes i) ≡ false
  none = none-passes (λ (e : NodeOf Name). e.use_of) (λ (e : NodeOf Name). is_sender text_eq s e.tree) (image_nodes i) unsent

  module _ (Above : Name → Type 0) (others : (t : Name) → Other t → Above t) where
    reference-known : (r : Reference) → KnownReference AnyClass Other Above r
    reference-known (of_word n) = tt
    reference-known (of_local k) = tt
    reference-known (of_instance_variable n) = tt
    reference-known (of_class_side_variable n) = tt
    reference-known (of_class_variable c n) = tt
    reference-known (of_named_class c) = tt
    reference-known of_transcript = tt
    reference-known (of_nothing n) = tt

    message-known : (b : Bool) (t : Name) → Other t → KnownMessage AnyClass Other Above b t
    message-known true t h = others t h
    message-known false t h = h

    selectors-known : (ms : MessagesOf Name) → has_message text_eq s ms ≡ false → KnownSelectors AnyClass Other Above ms
    selectors-known no_messages h = tt
    selectors-known (more_messages t args ms) h = (neither_left (text_eq s t) (has_message text_eq s ms) h, selectors-known ms (neither_right (text_eq s t) (has_message text_eq s ms) h))

    -- a node that does not send the selector
    node-known : (at : MeantAt) (path : List ℕ) (u : TreeOf Name) → is_sender text_eq s u ≡ false → KnownNode AnyClass Other Above at path u
    node-known at path (var n) h = reference-known (reference_of (at path n).meaning (at path n).place n)
    node-known at path (literal l) h = tt
    node-known at path (send r t args) h = message-known (is_super_at at (path ++ 0 ∷ []) r) t h
    node-known at path (cascade r ms) h = selectors-known ms h
    node-known at path (assign n t) h = tt
    node-known at path (block ps ts ss e) h = tt
    node-known at path (brace ts) h = tt
    node-known at path (return t) h = tt

    -- what a method does, by its primitive
    doing-known : (m : EntryOf Name) → IsIn i m → (p : Option ℕ) → KnownDoing AnyClass Other Above (doing_of i m p)
    unfolding resolved_method
    doing-known m at (Some n) = tt
    doing-known m at None =
        scope-known AnyClass Other Above (method_scope m.tree) (meant_in i m) (λ path u q. node-known (meant_in i m) path u (in-method-fails i (λ (e : NodeOf Name). is_sender text_eq s e.tree) none at.0 m at.1 path u q))

    -- a do-it
    doit-known : (k : ℕ) (d : DoItOf Name) → slice_get i.doits k ≡ Some d → KnownCode AnyClass Other Above (resolved_doit i d)
    unfolding resolved_doit
    doit-known k d at =
        scope-known AnyClass Other Above (doit_scope d.body) (meant_in_doit i d) (λ path u q. node-known (meant_in_doit i d) path u (in-doit-fails i (λ (e : NodeOf Name). is_sender text_eq s e.tree) none k d at path u q))

  -- the same is found
  same-both : (o : Option (EntryOf Name)) → OptionNames (IsIn i) o → AreBoth IsSame o o
  same-both (Some m) h = (refl, h)
  same-both None h = tt

  find-same : (c : Option Name) (b : Bool) (t : Name) → Other t → AreBoth IsSame (lookup text_words i c b t) (lookup text_words j c b t)
  find-same c b t h = subst (λ o. AreBoth IsSame (lookup text_words i c b t) o) (sym (lookup-same s t h i j differ c b)) (same-both (lookup text_words i c b t) (lookup-in i c b t))

  above-same : (c : Option Name) (b : Bool) (t : Name) → Other t → AreBoth IsSame (super_lookup text_words i c b t) (super_lookup text_words j c b t)
  above-same c b t h = subst (λ o. AreBoth IsSame (super_lookup text_words i c b t) o) (sym (super_lookup-same s t h i j differ c b)) (same-both (super_lookup text_words i c b t) (lookup-in i _ b t))

  -- what a method does means the same in both
  doing-same : (m : EntryOf Name) (p : Option ℕ) → doing_of j m p ≡ doing_of i m p
  doing-same m (Some n) = refl
  doing-same m None = ap by_code (method-same i j differ.classes m)

  each : (P : Name → Type 0) → ((c : Name) → P c) → (cs : List Name) → AllByRecursion P cs
  each P h [] = tt
  each P h (c ∷ cs) = (h c, each P h cs)

  agree : AgreeOn AnyClass Other (PairOf i j AnyClass Other IsSame) (resolved_image i) (resolved_image j)
  agree =
      entries-agree i j AnyClass Other IsSame (doits-equal i j differ.classes differ.doits) (λ c d p q. kinds-equal i j differ.classes c d) tt (each AnyClass (λ c. tt) value_classes) (λ c b t p q. find-same (Some c) b t q)
      (λ m n h. subst (λ x. (resolved_entry j x).doing ≡ (resolved_entry i m).doing) h.0 (doing-same m m.tree.primitive))
      (λ m n h Above k. doing-known Above (λ t o. k t (subst (λ x. AreBoth IsSame (super_lookup text_words i m.class m.meta t) (super_lookup text_words j x.class x.meta t)) h.0 (above-same m.class m.meta t o))) m h.1 m.tree.primitive)
      (λ k d at Above h. doit-known Above (λ t o. h t (subst (λ c. AreBoth IsSame (super_lookup text_words i (doit_class i) false t) (super_lookup text_words j c false t)) (sym doit-classes) (above-same (doit_class i) false t o))) k d at)
    where
      doit-classes : doit_class j ≡ doit_class i
      doit-classes = ap (λ cs. doit_class (record i { classes = cs })) differ.classes

  -- the runs are the same
  pub unsent-runs : (n : ℕ) → run j n ≡ run i n
  unsent-runs n = same-runs AnyClass Other (PairOf i j AnyClass Other IsSame) i j agree n

  pub unsent-matched : AreMatched i j no_renaming
  unsent-matched = matched-runs-agreeing AnyClass Other (PairOf i j AnyClass Other IsSame) i j agree
