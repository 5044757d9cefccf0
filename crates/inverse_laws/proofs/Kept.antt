-- Maps that keep the names in use keep an image.
use Rattle.std.proofs.Common.{◌≡◌, List, [], ◌∷◌, Option, Some, None, refl, ap}
use Rattle.std.specs.Prelude.{map, option_map}
use Rattle.std.specs.List.{AllByRecursion}
use Rattle.run_model.specs.Values.{Name}
use Rattle.resolved_model.specs.ResolvedTrees.{Reference, of_word, of_local, of_instance_variable, of_class_side_variable, of_class_variable, of_named_class, of_transcript, of_nothing, Target, to_temporary, to_instance_variable, to_class_side_variable, to_class_variable, to_fixed, to_nothing, ResolvedTree, reading, constant, sending, cascading, assigning, block_of, brace_of, returning, ResolvedTrees, no_nodes, more_nodes, ResolvedMessages, no_sends, more_sends, ResolvedStatements, no_lines, more_lines, ResolvedCode}
use Rattle.resolved_model.specs.ResolvedImages.{Doing, by_primitive, by_code, ResolvedImage, class_of_doits}
use Rattle.mapped_model.specs.NameMaps.{NameMaps}
use Rattle.mapped_model.specs.MappedImages.{class_or_none, mapped_reference, mapped_target, mapped_tree, mapped_trees, mapped_messages, mapped_statements, mapped_code, mapped_doing, mapped_method, mapped_class, mapped_image}
use Rattle.mapped_model.specs.NamesInUse.{NamesInUse, IsAmong, IsAnyAmong, UsesReference, UsesTarget, UsesTree, UsesTrees, UsesMessages, UsesStatements, UsesDoing, UsesMethod, UsesDoIt, UsesClass, UsesOnly}
use Rattle.mapped_model.specs.RenamedVariables.{same_names}

module _ (u : NamesInUse) (classes selectors : Name → Name) (class_kept : (c : Name) → IsAmong u.classes c → classes c ≡ c) (selector_kept : (s : Name) → IsAmong u.selectors s → selectors s ≡ s) where
  -- the maps, of classes and selectors alone
  abbrev pub maps : NameMaps
  maps = record same_names { class = classes; selector = selectors }

  -- a class that there may be
  any-kept : (o : Option Name) → IsAnyAmong u o → option_map classes o ≡ o
  any-kept (Some c) t = ap Some (class_kept c t)
  any-kept None t = refl

  -- code of a class
  module _ (c : Name) where
    -- what is read
    reference-kept : (r : Reference) → UsesReference u r → mapped_reference maps c r ≡ r
    reference-kept (of_word x) t = refl
    reference-kept (of_local k) t = refl
    reference-kept (of_instance_variable x) t = refl
    reference-kept (of_class_side_variable x) t = refl
    reference-kept (of_class_variable d x) t = refl
    reference-kept (of_named_class d) t = ap of_named_class (class_kept d t)
    reference-kept of_transcript t = refl
    reference-kept (of_nothing x) t = refl

    -- what is assigned
    target-kept : (r : Target) → UsesTarget u r → mapped_target maps c r ≡ r
    target-kept (to_temporary k) t = refl
    target-kept (to_instance_variable x) t = refl
    target-kept (to_class_side_variable x) t = refl
    target-kept (to_class_variable d x) t = refl
    target-kept (to_fixed x) t = ap to_fixed (class_kept x t)
    target-kept (to_nothing x) t = refl

    mutual
      -- a node
      tree-kept : (t : ResolvedTree) → UsesTree u t → mapped_tree maps c t ≡ t
      tree-kept (reading r) h = ap reading (reference-kept r h)
      tree-kept (constant l) h = refl
      tree-kept (sending r s args) h = λ i. sending (tree-kept r h.0 i) (selector_kept s h.1 i) (trees-kept args h.2 i)
      tree-kept (cascading r ms) h = λ i. cascading (tree-kept r h.0 i) (messages-kept ms h.1 i)
      tree-kept (assigning x t) h = λ i. assigning (target-kept x h.0 i) (tree-kept t h.1 i)
      tree-kept (block_of ps ts ss) h = ap (block_of ps ts) (statements-kept ss h)
      tree-kept (brace_of ts) h = ap brace_of (trees-kept ts h)
      tree-kept (returning t) h = ap returning (tree-kept t h)

      trees-kept : (ts : ResolvedTrees) → UsesTrees u ts → mapped_trees maps c ts ≡ ts
      trees-kept no_nodes h = refl
      trees-kept (more_nodes t ts) h = λ i. more_nodes (tree-kept t h.0 i) (trees-kept ts h.1 i)

      messages-kept : (ms : ResolvedMessages) → UsesMessages u ms → mapped_messages maps c ms ≡ ms
      messages-kept no_sends h = refl
      messages-kept (more_sends s args ms) h = λ i. more_sends (selector_kept s h.0 i) (trees-kept args h.1 i) (messages-kept ms h.2 i)

      statements-kept : (ss : ResolvedStatements) → UsesStatements u ss → mapped_statements maps c ss ≡ ss
      statements-kept no_lines h = refl
      statements-kept (more_lines t ss) h = λ i. more_lines (tree-kept t h.0 i) (statements-kept ss h.1 i)

    -- code
    code-kept : (x : ResolvedCode) → UsesStatements u x.statements → mapped_code maps c x ≡ x
    code-kept x h = ap (λ ss. record x { statements = ss }) (statements-kept x.statements h)

    -- what a method does
    doing-kept : (d : Doing) → UsesDoing u d → mapped_doing maps c d ≡ d
    doing-kept (by_primitive k) h = refl
    doing-kept (by_code x) h = ap by_code (code-kept x h)

  -- lists
  each-kept : {X : Type 0} (P : X → Type 0) (a : X → X) → ((x : X) → P x → a x ≡ x) → (xs : List X) → AllByRecursion P xs → map a xs ≡ xs
  each-kept P a e [] h = refl
  each-kept P a e (x ∷ xs) h = λ i. e x h.0 i ∷ each-kept P a e xs h.1 i

  -- an image
  pub image-kept : (i : ResolvedImage) → UsesOnly u i → mapped_image maps i ≡ i
  image-kept i h = λ j. record {
    classes = each-kept (UsesClass u) (mapped_class maps) (λ c t. λ k. record c { name = class_kept c.name t.name k; superclass = any-kept c.superclass t.superclass k }) i.classes h.classes j;
    methods = each-kept (UsesMethod u) (mapped_method maps) (λ m t. λ k. record { class = any-kept m.class t.class k; meta = m.meta; selector = selector_kept m.selector t.selector k; doing = doing-kept (class_or_none m.class) m.doing t.doing k }) i.methods h.methods j;
    doits = each-kept (UsesDoIt u (class_or_none (class_of_doits i))) (mapped_code maps (class_or_none (class_of_doits i))) (λ d t. code-kept (class_or_none (class_of_doits i)) d t.statements) i.doits h.doits j;
  }
