-- Two images that differ in one class, which no run reaches, have the same runs.
use Rattle.std.proofs.Common.{◌≡◌, ℕ, List, [], ◌∷◌, Option, Some, None, ◌⊎◌, inl, inr, refl, sym, ap, ◌∙◌, subst}
use Rattle.std.specs.Prelude.{Bool, true, false, if◌then◌else◌, map, slice_get, codes, unwrap_or, option_map}
use Rattle.std.specs.List.{AllByRecursion, list_any}
use Rattle.std.specs.Option.{option_or, option_and_then}
use Rattle.rb_base.specs.Names.{text_eq}
use Rattle.rb_base.proofs.NamesLemmas.{text_eq-refl}
use Rattle.tree_model.specs.Tree.{TreeOf}
use Rattle.tree_model.specs.Path.{statement_trees, part_in}
use Rattle.scope_model.specs.declared.local.Local.{Local}
use Rattle.scope_model.specs.declared.local.Local.TheVariants.{Argument, Temporary, NotLocal}
use Rattle.scope_model.specs.SpecialNames.{is_pseudo_variable}
use Rattle.scope_model.specs.Scope.{method_scope, doit_scope, local_in, local_in_doit}
use Rattle.image_model.specs.Image.{ClassOf, EntryOf, DoItOf, ImageOf}
use Rattle.image_model.specs.ImageNames.{OptionNames}
use Rattle.image_model.specs.Words.{text_words}
use Rattle.image_model.specs.Chain.{class_named, class_of_name, chain_from, chain}
use Rattle.image_model.specs.Lookup.{on_chain, as_object, lookup, super_lookup}
use Rattle.image_model.specs.Means.{of_class, MeaningOf, pseudo, a_class, transcript, undeclared, as_variable, side_kind, means_outside, means_by, means, means_in_doit}
use Rattle.image_model.specs.Uses.{name_used}
use Rattle.run_model.specs.Values.{Name, true_value, false_value}
use Rattle.run_model.specs.ObjectPrimitives.{value_classes, is_on_chain}
use Rattle.run_model.specs.Runs.{run, doit_class}
use Rattle.resolved_model.specs.Resolving.{meant_in, meant_in_doit, resolved_method, resolved_doit}
use Rattle.resolved_model.specs.ResolvedImages.{by_code, doing_of, plain_class, resolved_entry, resolved_image}
use Rattle.agreement_laws.proofs.PlainChains.{plain-chain}
use Rattle.mapped_model.specs.NamesOfImages.{HasOrderedClasses}
use Rattle.mapped_model.proofs.NodesBelow.{among-first}
use Rattle.mapped_model.proofs.RenamedVariableLemmas.{at-all}
use Rattle.lookup_model.specs.AgreeingLookups.{AgreeOn}
use Rattle.lookup_model.proofs.AgreeingRuns.{same-runs}
use Rattle.agreement_laws.proofs.EntriesAgree.{AreBoth, PairOf, entries-agree}
use Rattle.agreement_laws.proofs.MethodsFound.{IsIn, lookup-all}
use Rattle.agreement_laws.proofs.CodeKnown.{ReadsClass, AnySelector, doing-known, doit-known}
use Rattle.agreement_laws.proofs.SameTrees.{MeansSame, scope-same}
use Rattle.same_trees.proofs.Told.{statements_refl}
use Rattle.lookup_laws.proofs.SpreadChains.{Keep, AreLike, Spread, first-spread, variable-spread, any-spread, name-spread, any-name-spread, above-any-spread}

module _ (i j : ImageOf Name) (gone : Name) (before : HasOrderedClasses i) (after : HasOrderedClasses j) (named : (n : Name) → Keep i j gone n → AreLike i j gone (class_named text_eq i.classes n) (class_named text_eq j.classes n))
    (words : AllByRecursion (Keep i j gone) value_classes) where
  -- names that count
  abbrev Kept : Name → Type 0
  Kept n = Keep i j gone n

  -- what is found on chains that are spread
  found-spread : (o p : Option (ClassOf Name)) → Spread i j gone (chain_from text_eq i.classes o) (chain_from text_eq j.classes p) → (b : Bool) (t : Name) → on_chain text_eq j p b t ≡ on_chain text_eq i o b t
  found-spread o p h b t = first-spread i j gone b t (chain_from text_eq i.classes o) (chain_from text_eq j.classes p) h

  -- what classes understand as objects
  abbrev as_objects : ImageOf Name → Bool → Name → Option (EntryOf Name)
  as_objects x b t = if b then as_object text_words x t else None

  objects-same : (b : Bool) (t : Name) → as_objects j b t ≡ as_objects i b t
  objects-same true t = found-spread (class_named text_eq i.classes (codes "Class")) (class_named text_eq j.classes (codes "Class")) (name-spread i j gone before after named (codes "Class") words.1.1.1.1.1.1.1.1.1.0) false t
  objects-same false t = refl

  -- look-ups on such chains
  lookup-spread : (o p : Option Name) → Spread i j gone (chain_from text_eq i.classes (class_of_name text_eq i.classes o)) (chain_from text_eq j.classes (class_of_name text_eq j.classes p)) → (b : Bool) (t : Name) → lookup text_words j p b t ≡ lookup text_words i o b t
  lookup-spread o p h b t = λ k. option_or (found-spread (class_of_name text_eq i.classes o) (class_of_name text_eq j.classes p) h b t k) (objects-same b t k)

  lookup-same : (o : Option Name) → OptionNames Kept o → (b : Bool) (t : Name) → lookup text_words j o b t ≡ lookup text_words i o b t
  lookup-same o h = lookup-spread o o (any-name-spread i j gone before after named o h)

  -- look-ups for `super`
  above_of : Option (ClassOf Name) → Option Name
  above_of o = option_and_then (λ (d : ClassOf Name). d.superclass) o

  super-same : (o : Option Name) → OptionNames Kept o → (b : Bool) (t : Name) → super_lookup text_words j o b t ≡ super_lookup text_words i o b t
  super-same None h b t = lookup-same None tt b t
  super-same (Some n) h b t = by (class_named text_eq i.classes n) (class_named text_eq j.classes n) (named n h)
    where
      by : (o p : Option (ClassOf Name)) → AreLike i j gone o p → lookup text_words j (option_and_then (λ (d : ClassOf Name). d.superclass) p) b t ≡ lookup text_words i (option_and_then (λ (d : ClassOf Name). d.superclass) o) b t
      by None None h = lookup-same None tt b t
      by None (Some y) h = absurd h
      by (Some x) None h = absurd h
      by (Some x) (Some y) h = lookup-spread x.superclass y.superclass (above-any-spread i j gone before after named x.superclass y.superclass h.above) b t

  -- on which chains classes stand
  any-same : (d n : Name) → Kept d → Kept n → list_any (λ (c : ClassOf Name). text_eq d c.name) (chain text_eq j.classes (Some n)) ≡ list_any (λ (c : ClassOf Name). text_eq d c.name) (chain text_eq i.classes (Some n))
  any-same d n h k = any-spread i j gone d h (chain_from text_eq i.classes (class_named text_eq i.classes n)) (chain_from text_eq j.classes (class_named text_eq j.classes n)) (name-spread i j gone before after named n k)

  kinds-same : (c d : Name) → Kept c → Kept d → is_on_chain (map plain_class j.classes) d c ≡ is_on_chain (map plain_class i.classes) d c
  kinds-same c d p q = ap (λ b. if b then true_value else false_value) (plain-chain j d c ∙ any-same d c q p ∙ sym (plain-chain i d c))

  -- what a name stands for outside, by the searches for it
  abbrev outside_by : Bool → Name → Option (MeaningOf Name) → Option (MeaningOf Name) → Option (ClassOf Name) → MeaningOf Name
  outside_by meta n side shared class =
      unwrap_or (option_or side (option_or shared (option_or (option_map (λ (c : ClassOf Name). a_class c.name) class) (if text_words.is_transcript n then Some transcript else None)))) undeclared

  abbrev side_of : ImageOf Name → Option Name → Bool → Name → Option (MeaningOf Name)
  side_of x o meta n = as_variable text_eq (side_kind meta) (chain text_eq x.classes o) n

  abbrev shared_of : ImageOf Name → Option Name → Name → Option (MeaningOf Name)
  shared_of x o n = as_variable text_eq of_class (chain text_eq x.classes o) n

  side-same : (o : Option Name) → OptionNames Kept o → (meta : Bool) (n : Name) → side_of j o meta n ≡ side_of i o meta n
  side-same o h meta n = variable-spread i j gone (side_kind meta) n (chain text_eq i.classes o) (chain text_eq j.classes o) (any-name-spread i j gone before after named o h)

  shared-same : (o : Option Name) → OptionNames Kept o → (n : Name) → shared_of j o n ≡ shared_of i o n
  shared-same o h n = variable-spread i j gone of_class n (chain text_eq i.classes o) (chain text_eq j.classes o) (any-name-spread i j gone before after named o h)

  -- classes that are alike are meant alike
  class-same : (n : Name) → Kept n → option_map (λ (c : ClassOf Name). a_class c.name) (class_named text_eq j.classes n) ≡ option_map (λ (c : ClassOf Name). a_class c.name) (class_named text_eq i.classes n)
  class-same n h = by (class_named text_eq i.classes n) (class_named text_eq j.classes n) (named n h)
    where
      by : (o p : Option (ClassOf Name)) → AreLike i j gone o p → option_map (λ (c : ClassOf Name). a_class c.name) p ≡ option_map (λ (c : ClassOf Name). a_class c.name) o
      by None None h = refl
      by None (Some y) h = absurd h
      by (Some x) None h = absurd h
      by (Some x) (Some y) h = ap (λ m. Some (a_class m)) h.name

  -- what a name that counts stands for outside
  outside-same : (o : Option Name) → OptionNames Kept o → (meta : Bool) (n : Name) → Kept n → means_outside text_words i o meta n ≡ means_outside text_words j o meta n
  outside-same o h meta n k =
      sym (λ l. unwrap_or (option_or (side-same o h meta n l) (option_or (shared-same o h n l) (option_or (class-same n k l) (if text_words.is_transcript n then Some transcript else None)))) undeclared)

  -- what another stands for, where it is no class
  outside-other : (o : Option Name) → OptionNames Kept o → (meta : Bool) (n : Name) (e : ClassOf Name) → class_named text_eq i.classes n ≡ Some e → (means_outside text_words i o meta n ≡ a_class e.name → ⊥) → means_outside text_words i o meta n ≡ means_outside text_words j o meta n
  outside-other o h meta n e q none =
      by (side_of i o meta n) (shared_of i o n) (λ r. none (ap (outside_by meta n (side_of i o meta n) (shared_of i o n)) q ∙ r))
      ∙ sym (λ l. outside_by meta n (side-same o h meta n l) (shared-same o h n l) (class_named text_eq j.classes n))
    where
      by : (a b : Option (MeaningOf Name)) → (outside_by meta n a b (Some e) ≡ a_class e.name → ⊥) → outside_by meta n a b (class_named text_eq i.classes n) ≡ outside_by meta n a b (class_named text_eq j.classes n)
      by (Some x) b r = refl
      by None (Some y) r = refl
      by None None r = absurd (r refl)

  -- a name that a node uses counts, or is a class's that the node does not mean
  abbrev pub Counts : Name → MeaningOf Name → Type 0
  Counts n g = Kept n ⊎ ((e : ClassOf Name) × (class_named text_eq i.classes n ≡ Some e) × (g ≡ a_class e.name → ⊥))

  -- so it stands for the same
  place-same : (o : Option Name) → OptionNames Kept o → (meta : Bool) (n : Name) (l : Local) (b : Bool) → Counts n (if b then pseudo else means_by l (means_outside text_words i o meta n)) →
      (if b then pseudo else means_by l (means_outside text_words i o meta n)) ≡ (if b then pseudo else means_by l (means_outside text_words j o meta n))
  place-same o h meta n l true c = refl
  place-same o h meta n (Argument scope) false c = refl
  place-same o h meta n (Temporary scope) false c = refl
  place-same o h meta n NotLocal false (inl k) = outside-same o h meta n k
  place-same o h meta n NotLocal false (inr (e, q, none)) = outside-other o h meta n e q none

  -- the class of do-its
  doit-classes : doit_class j ≡ doit_class i
  doit-classes = by (class_named text_eq i.classes (codes "UndefinedObject")) (class_named text_eq j.classes (codes "UndefinedObject")) (named (codes "UndefinedObject") words.0)
    where
      by : (o p : Option (ClassOf Name)) → AreLike i j gone o p → option_map (λ (c : ClassOf Name). c.name) p ≡ option_map (λ (c : ClassOf Name). c.name) o
      by None None h = refl
      by None (Some y) h = absurd h
      by (Some x) None h = absurd h
      by (Some x) (Some y) h = ap Some h.name

  module _ (nothing : Kept []) (doit_kept : OptionNames Kept (doit_class i)) (doits : j.doits ≡ i.doits)
      (methods : AllByRecursion (λ (m : EntryOf Name). IsIn i m × OptionNames Kept m.class) j.methods)
      (nodes : (m : EntryOf Name) → IsIn i m → OptionNames Kept m.class → (path : List ℕ) (u : TreeOf Name) (n : Name) → part_in m.tree.body path ≡ Some u → name_used u ≡ Some n → Counts n (means text_words i m path n))
      (doit_nodes : (k : ℕ) (d : DoItOf Name) → slice_get i.doits k ≡ Some d → (path : List ℕ) (u : TreeOf Name) (n : Name) → part_in d.body path ≡ Some u → name_used u ≡ Some n → Counts n (means_in_doit text_words i d path n))
      (reads : (m : EntryOf Name) → IsIn i m → OptionNames Kept m.class → (c : Name) → ReadsClass (meant_in i m) m.tree.body c → Kept c)
      (doits_read : (k : ℕ) (d : DoItOf Name) → slice_get i.doits k ≡ Some d → (c : Name) → ReadsClass (meant_in_doit i d) d.body c → Kept c) where
    -- a method that is there in both
    abbrev IsSame : EntryOf Name → EntryOf Name → Type 0
    IsSame m n = (m ≡ n) × IsIn i m × OptionNames Kept m.class

    -- what is found in the one is found in the other
    both-found : (o p : Option (EntryOf Name)) → OptionNames (λ (m : EntryOf Name). IsIn i m × OptionNames Kept m.class) p → p ≡ o → AreBoth IsSame o p
    both-found o p h e = subst (λ x. AreBoth IsSame x p) e (own p h)
      where
        own : (p : Option (EntryOf Name)) → OptionNames (λ (m : EntryOf Name). IsIn i m × OptionNames Kept m.class) p → AreBoth IsSame p p
        own (Some m) h = (refl, h.0, h.1)
        own None h = tt

    found : (o p : Option Name) (b : Bool) (t : Name) → lookup text_words j p b t ≡ lookup text_words i o b t → AreBoth IsSame (lookup text_words i o b t) (lookup text_words j p b t)
    found o p b t e = both-found (lookup text_words i o b t) (lookup text_words j p b t) (lookup-all j (λ (m : EntryOf Name). IsIn i m × OptionNames Kept m.class) methods p b t) e

    super-found : (o : Option Name) → OptionNames Kept o → (b : Bool) (t : Name) → AreBoth IsSame (super_lookup text_words i o b t) (super_lookup text_words j o b t)
    super-found o h b t = both-found (super_lookup text_words i o b t) (super_lookup text_words j o b t) (lookup-all j (λ (m : EntryOf Name). IsIn i m × OptionNames Kept m.class) methods _ b t) (super-same o h b t)

    -- a scope is the same as itself
    method-same : (m : EntryOf Name) → IsIn i m → OptionNames Kept m.class → resolved_method i m ≡ resolved_method j m
    unfolding resolved_method
    method-same m at h =
        scope-same (method_scope m.tree) (method_scope m.tree) (meant_in i m) (meant_in j m) (record { arguments = refl; temporaries = refl; statements = statements_refl text_eq text_eq-refl m.tree.body.statements })
        (among-first (MeansSame (meant_in i m) (meant_in j m)) (statement_trees m.tree.body.statements)
        (λ path u q n e. ap (λ g. record { meaning = g; place = (meant_in i m path n).place }) (place-same m.class h m.meta n (local_in text_eq is_pseudo_variable m.tree path n) (is_pseudo_variable n) (nodes m at h path u n q e))))

    doing-same : (m : EntryOf Name) → IsIn i m → OptionNames Kept m.class → (p : Option ℕ) → doing_of j m p ≡ doing_of i m p
    doing-same m at h (Some n) = refl
    doing-same m at h None = ap by_code (sym (method-same m at h))

    -- a do-it
    doit-same : (k : ℕ) (d : DoItOf Name) → slice_get i.doits k ≡ Some d → resolved_doit i d ≡ resolved_doit j d
    unfolding resolved_doit
    doit-same k d at =
        scope-same (doit_scope d.body) (doit_scope d.body) (meant_in_doit i d) (meant_in_doit j d) (record { arguments = refl; temporaries = refl; statements = statements_refl text_eq text_eq-refl d.body.statements })
        (among-first (MeansSame (meant_in_doit i d) (meant_in_doit j d)) (statement_trees d.body.statements)
        (λ path u q n e. ap (λ g. record { meaning = g; place = (meant_in_doit i d path n).place })
        (place-same (doit_class i) doit_kept false n (local_in_doit text_eq is_pseudo_variable d.body path n) (is_pseudo_variable n) (doit_nodes k d at path u n q e)
        ∙ ap (λ o. if is_pseudo_variable n then pseudo else means_by (local_in_doit text_eq is_pseudo_variable d.body path n) (means_outside text_words j o false n)) (sym doit-classes))))

    doits-same : map (resolved_doit j) j.doits ≡ map (resolved_doit i) i.doits
    doits-same = ap (map (resolved_doit j)) doits ∙ each i.doits (at-all (λ (d : DoItOf Name). resolved_doit i d ≡ resolved_doit j d) i.doits doit-same)
      where
        each : (ds : List (DoItOf Name)) → AllByRecursion (λ (d : DoItOf Name). resolved_doit i d ≡ resolved_doit j d) ds → map (resolved_doit j) ds ≡ map (resolved_doit i) ds
        each [] a = refl
        each (d ∷ ds) a = λ l. sym a.0 l ∷ each ds a.1 l

    agree : AgreeOn Kept AnySelector (PairOf i j Kept AnySelector IsSame) (resolved_image i) (resolved_image j)
    agree =
        entries-agree i j Kept AnySelector IsSame doits-same kinds-same nothing words (λ c b t p q. found (Some c) (Some c) b t (lookup-same (Some c) p b t))
        (λ m n h. subst (λ x. (resolved_entry j x).doing ≡ (resolved_entry i m).doing) h.0 (doing-same m h.1 h.2 m.tree.primitive))
        (λ m n h Above k. doing-known Kept AnySelector Above i m (λ c r. reads m h.1 h.2 c r) (λ t sends. tt)
        (λ t sends. k t (subst (λ x. AreBoth IsSame (super_lookup text_words i m.class m.meta t) (super_lookup text_words j x.class x.meta t)) h.0 (super-found m.class h.2 m.meta t))) m.tree.primitive)
        (λ k d at Above h. doit-known Kept AnySelector Above i d (λ c r. doits_read k d at c r) (λ t sends. tt)
        (λ t sends. h t (subst (λ c. AreBoth IsSame (super_lookup text_words i (doit_class i) false t) (super_lookup text_words j c false t)) (sym doit-classes) (super-found (doit_class i) doit_kept false t))))

    -- the runs are the same
    pub apart-runs : (n : ℕ) → run j n ≡ run i n
    apart-runs n = same-runs Kept AnySelector (PairOf i j Kept AnySelector IsSame) i j agree n
