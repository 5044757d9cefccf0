-- Maps that agree on the names in use.
use Rattle.std.proofs.Common.{◌≡◌, List, [], ◌∷◌, Option, Some, None, refl, sym, ap, ◌∙◌}
use Rattle.std.specs.Prelude.{Bool, false, map, option_map}
use Rattle.std.specs.List.{AllByRecursion}
use Rattle.image_model.specs.Image.{ClassOf}
use Rattle.image_model.proofs.Lists.{all-implies}
use Rattle.run_model.specs.Values.{Name}
use Rattle.run_model.specs.Renamings.{OfClass}
use Rattle.resolved_model.specs.ResolvedTrees.{Reference, of_word, of_local, of_instance_variable, of_class_side_variable, of_class_variable, of_named_class, of_transcript, of_nothing, Target, to_temporary, to_instance_variable, to_class_side_variable, to_class_variable, to_fixed, to_nothing, ResolvedTree, reading, constant, sending, cascading, assigning, block_of, brace_of, returning, ResolvedTrees, no_nodes, more_nodes, ResolvedMessages, no_sends, more_sends, ResolvedStatements, no_lines, more_lines, ResolvedCode}
use Rattle.resolved_model.specs.ResolvedImages.{Doing, by_primitive, by_code, ResolvedImage, class_of_doits}
use Rattle.mapped_model.specs.NameMaps.{NameMaps}
use Rattle.mapped_model.specs.MappedImages.{class_or_none, mapped_reference, mapped_target, mapped_tree, mapped_trees, mapped_messages, mapped_statements, mapped_code, mapped_doing, mapped_method, mapped_class, mapped_image}
use Rattle.mapped_model.specs.NamesInUse.{NamesInUse, IsAmong, IsAmongPairs, IsAnyAmong, UsesReference, UsesTarget, UsesTree, UsesTrees, UsesMessages, UsesStatements, UsesDoing, HasInstance, HasClassSide, UsesMethod, UsesDoIt, UsesClass, UsesOnly, Inherits, IsInherited}
use Rattle.mapped_model.specs.OwnVariables.{OwnReference, OwnTarget, OwnTree, OwnTrees, OwnMessages, OwnStatements, OwnDoing}

-- other maps agree with maps on the names in use
pub record AgreesOn (u : NamesInUse) (f g : NameMaps) : Type 0 where
  pub class : (c : Name) → IsAmong u.classes c → g.class c ≡ f.class c
  pub selector : (s : Name) → IsAmong u.selectors s → g.selector s ≡ f.selector s
  pub shared : (k : OfClass) → IsAmongPairs u.shared k → g.shared k ≡ f.shared k
  pub instance : (k : OfClass) → IsAmongPairs u.instance k → g.instance k ≡ f.instance k
  pub class_side : (k : OfClass) → IsAmongPairs u.class_side k → g.class_side k ≡ f.class_side k

module _ (u : NamesInUse) (f g : NameMaps) (agrees : AgreesOn u f g) where
  -- a class that there may be
  any-in : (o : Option Name) → IsAnyAmong u o → option_map g.class o ≡ option_map f.class o
  any-in (Some c) t = ap Some (agrees.class c t)
  any-in None t = refl

  -- code of a class and side
  module _ (c : Name) (meta : Bool) where
    -- it has no variables but those in use
    abbrev Own : {X : Type 0} → ((Name → Type 0) → (Name → Type 0) → X → Type 0) → X → Type 0
    Own P x = P (HasInstance u c) (HasClassSide u c meta) x

    -- what is read
    reference-in : (r : Reference) → UsesReference u r → Own OwnReference r → mapped_reference g c r ≡ mapped_reference f c r
    reference-in (of_word x) t o = refl
    reference-in (of_local k) t o = refl
    reference-in (of_instance_variable x) t o = ap of_instance_variable (agrees.instance (c, x) o)
    reference-in (of_class_side_variable x) t o = ap of_class_side_variable (agrees.class_side (c, x) o.1)
    reference-in (of_class_variable d x) t o = ap (λ (k : OfClass). of_class_variable k.0 k.1) (agrees.shared (d, x) t)
    reference-in (of_named_class d) t o = ap of_named_class (agrees.class d t)
    reference-in of_transcript t o = refl
    reference-in (of_nothing x) t o = refl

    -- what is assigned
    target-in : (r : Target) → UsesTarget u r → Own OwnTarget r → mapped_target g c r ≡ mapped_target f c r
    target-in (to_temporary k) t o = refl
    target-in (to_instance_variable x) t o = ap to_instance_variable (agrees.instance (c, x) o)
    target-in (to_class_side_variable x) t o = ap to_class_side_variable (agrees.class_side (c, x) o.1)
    target-in (to_class_variable d x) t o = ap (λ (k : OfClass). to_class_variable k.0 k.1) (agrees.shared (d, x) t)
    target-in (to_fixed x) t o = ap to_fixed (agrees.class x t)
    target-in (to_nothing x) t o = refl

    mutual
      -- a node
      tree-in : (t : ResolvedTree) → UsesTree u t → Own OwnTree t → mapped_tree g c t ≡ mapped_tree f c t
      tree-in (reading r) h o = ap reading (reference-in r h o)
      tree-in (constant l) h o = refl
      tree-in (sending r s args) h o = λ i. sending (tree-in r h.0 o.0 i) (agrees.selector s h.1 i) (trees-in args h.2 o.1 i)
      tree-in (cascading r ms) h o = λ i. cascading (tree-in r h.0 o.0 i) (messages-in ms h.1 o.1 i)
      tree-in (assigning x t) h o = λ i. assigning (target-in x h.0 o.0 i) (tree-in t h.1 o.1 i)
      tree-in (block_of ps ts ss) h o = ap (block_of ps ts) (statements-in ss h o)
      tree-in (brace_of ts) h o = ap brace_of (trees-in ts h o)
      tree-in (returning t) h o = ap returning (tree-in t h o)

      trees-in : (ts : ResolvedTrees) → UsesTrees u ts → Own OwnTrees ts → mapped_trees g c ts ≡ mapped_trees f c ts
      trees-in no_nodes h o = refl
      trees-in (more_nodes t ts) h o = λ i. more_nodes (tree-in t h.0 o.0 i) (trees-in ts h.1 o.1 i)

      messages-in : (ms : ResolvedMessages) → UsesMessages u ms → Own OwnMessages ms → mapped_messages g c ms ≡ mapped_messages f c ms
      messages-in no_sends h o = refl
      messages-in (more_sends s args ms) h o = λ i. more_sends (agrees.selector s h.0 i) (trees-in args h.1 o.0 i) (messages-in ms h.2 o.1 i)

      statements-in : (ss : ResolvedStatements) → UsesStatements u ss → Own OwnStatements ss → mapped_statements g c ss ≡ mapped_statements f c ss
      statements-in no_lines h o = refl
      statements-in (more_lines t ss) h o = λ i. more_lines (tree-in t h.0 o.0 i) (statements-in ss h.1 o.1 i)

    -- code
    code-in : (x : ResolvedCode) → UsesStatements u x.statements → Own OwnStatements x.statements → mapped_code g c x ≡ mapped_code f c x
    code-in x h o = ap (λ ss. record x { statements = ss }) (statements-in x.statements h o)

    -- what a method does
    doing-in : (d : Doing) → UsesDoing u d → Own OwnDoing d → mapped_doing g c d ≡ mapped_doing f c d
    doing-in (by_primitive k) h o = refl
    doing-in (by_code x) h o = ap by_code (code-in x h o)

  -- lists
  each-in : {X : Type 0} (P : X → Type 0) (a b : X → X) → ((x : X) → P x → a x ≡ b x) → (xs : List X) → AllByRecursion P xs → map a xs ≡ map b xs
  each-in P a b e [] h = refl
  each-in P a b e (x ∷ xs) h = λ i. e x h.0 i ∷ each-in P a b e xs h.1 i

  -- an image
  pub image-in : (i : ResolvedImage) → UsesOnly u i → mapped_image g i ≡ mapped_image f i
  image-in i h = λ j. record {
    classes = each-in (UsesClass u) (mapped_class g) (mapped_class f) (λ c t. λ k. record c { name = agrees.class c.name t.name k; superclass = any-in c.superclass t.superclass k }) i.classes h.classes j;
    methods = each-in (UsesMethod u) (mapped_method g) (mapped_method f) (λ m t. λ k. record { class = any-in m.class t.class k; meta = m.meta; selector = agrees.selector m.selector t.selector k; doing = doing-in (class_or_none m.class) m.meta m.doing t.doing t.own k }) i.methods h.methods j;
    doits = each-in (UsesDoIt u (class_or_none (class_of_doits i))) (mapped_code g (class_or_none (class_of_doits i))) (mapped_code f (class_or_none (class_of_doits i))) (λ d t. code-in (class_or_none (class_of_doits i)) false d t.statements t.own) i.doits h.doits j;
  }

  -- a class has the variables of another, and calls them the same after
  inherits-in : (c d : Name) → Inherits u f c d → Inherits u g c d
  inherits-in c d h = record {
    instance = λ x t. ((h.instance x t).0, agrees.instance (d, x) t ∙ (h.instance x t).1 ∙ sym (agrees.instance (c, x) (h.instance x t).0));
    class_side = λ x t. ((h.class_side x t).0, agrees.class_side (d, x) t ∙ (h.class_side x t).1 ∙ sym (agrees.class_side (c, x) (h.class_side x t).0));
  }

  -- so does each class of its superclass
  pub inherited-in : (classes : List (ClassOf Name)) → AllByRecursion (IsInherited u f) classes → AllByRecursion (IsInherited u g) classes
  inherited-in classes h = all-implies (IsInherited u f) (IsInherited u g) (λ c k. record { named = k.named; superclass = λ d e. inherits-in c.name d (k.superclass d e) }) classes h
