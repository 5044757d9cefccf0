-- A tree in which one name has another is, once its names are resolved, the tree before.
use Rattle.std.proofs.Common.{◌≡◌, ℕ, suc, ◌+◌, List, [], ◌∷◌, ◌++◌, Some, refl, sym, ap, ◌∙◌}
use Rattle.std.specs.Prelude.{Bool, true, false, not, ◌&&◌, if◌then◌else◌, map, is_some}
use Rattle.std.specs.List.{list_any}
use Rattle.std.specs.Option.{option_map_or}
use Rattle.std.proofs.lemmas.Bool.{false≢true}
use Rattle.rb_base.specs.Names.{text_eq}
use Rattle.tree_model.specs.Tree.{TreeOf, var, literal, send, cascade, assign, block, brace, return, TreesOf, no_trees, more_trees, MessagesOf, no_messages, more_messages, StatementsOf, no_statements, more_statements}
use Rattle.tree_model.specs.Path.{count, all_arguments, statement_trees}
use Rattle.scope_model.specs.declared.local.Local.{Local}
use Rattle.scope_model.specs.declared.local.Local.TheVariants.{Argument, Temporary, NotLocal}
use Rattle.scope_model.specs.SpecialNames.{is_pseudo_variable}
use Rattle.scope_model.specs.Scope.{PlacedScope, local_by, own_scope}
use Rattle.image_model.specs.Means.{MeaningOf, pseudo, argument, temporary, undeclared, means_by}
use Rattle.image_model.specs.Uses.{name_used}
use Rattle.image_model.proofs.Lists.{length-map}
use Rattle.run_model.specs.Values.{Name}
use Rattle.run_model.proofs.Finite.{by_cases}
use Rattle.run_model.proofs.RenamingLemmas.{text-same}
use Rattle.resolved_model.specs.ResolvedTrees.{reading, sending, cascading, assigning, block_of, brace_of, returning, more_nodes, more_sends, more_lines}
use Rattle.resolved_model.specs.Resolving.{Meant, MeantAt, below}
use Rattle.resolved_model.specs.Environments.{kind_in, declared_in, reference_in, target_in, tree_in, trees_in, messages_in, statements_in}
use Rattle.resolved_model.proofs.Environments.{kind_of, kind-scopes}
use Rattle.resolved_model.proofs.ResolvingLemmas.{meant_by, IsInScopes, AreInScopes, below-node, first-node, other-nodes, first-arguments, other-arguments}
use Rattle.mapped_model.proofs.NodesBelow.{FactAt, Below, Among, below-children, first-below, others-below, first-message, other-messages}
use Rattle.rename_model.specs.NamesThere.{declared_by, is_named_by}
use Rattle.rename_laws.specs.BehindKernel.{is_fixed}
use Rattle.rename_laws.proofs.Unnamed.{neither_left, neither_right}
use Rattle.command_model.specs.Walk.{Making, onward, rebuilt, rebuilt_trees, rebuilt_messages, rebuilt_statements}
use Rattle.temporary_laws.proofs.Declarations.{to, anew, knows-told, called_among, called_inside, other-called, Lacks, reference-kept, target-kept, opened-anew, lacks-opened}

-- nothing is declared outside all scopes
abbrev pub alone : Name → MeaningOf Name
alone n = undeclared

-- whether a name that means this is declared in code
abbrev pub is_of_code : MeaningOf Name → Bool
is_of_code (argument scope) = true
is_of_code (temporary scope) = true
is_of_code meaning = false

-- an argument is fixed
argument-fixed : (l : Local) → kind_of l ≡ Some false → is_fixed (means_by l undeclared) ≡ true
argument-fixed (Argument s) e = refl
argument-fixed (Temporary s) e = absurd (cc)
argument-fixed NotLocal e = absurd (cc)

-- so no argument is assigned
loose : (ps : List (PlacedScope Name)) (n : Name) → is_fixed (meant_by alone ps n).meaning ≡ false → kind_in (declared_in ps) n ≡ Some false → ⊥
loose ps n = by (is_pseudo_variable n)
  where
    by : (b : Bool) → is_fixed (if b then pseudo else means_by (if b then NotLocal else local_by text_eq ps n) undeclared) ≡ false → kind_in (declared_in ps) n ≡ Some false → ⊥
    by true e k = false≢true (sym e)
    by false e k = false≢true (sym e ∙ argument-fixed (local_by text_eq ps n) (sym (kind-scopes ps n) ∙ k))

-- a name is declared in code where the scopes have it
of-local : (l : Local) → is_of_code (means_by l undeclared) ≡ is_some (kind_of l)
of-local (Argument s) = refl
of-local (Temporary s) = refl
of-local NotLocal = refl

of-scopes : (ps : List (PlacedScope Name)) (n : Name) → is_of_code (meant_by alone ps n).meaning ≡ (not (is_pseudo_variable n) && is_some (kind_in (declared_in ps) n))
of-scopes ps n = by (is_pseudo_variable n)
  where
    by : (b : Bool) → is_of_code (if b then pseudo else means_by (if b then NotLocal else local_by text_eq ps n) undeclared) ≡ (not b && is_some (kind_in (declared_in ps) n))
    by true = refl
    by false = of-local (local_by text_eq ps n) ∙ ap is_some (sym (kind-scopes ps n))

module _ (x y : Name) where
  -- what a name is called that means this, where it is used
  abbrev pub name_called : Meant → Name → Name
  name_called m n = called_inside x y (is_of_code m.meaning) n

  -- a node, where names mean this: what it declares is called anew, and what it uses where that is declared in code
  abbrev pub node_called : (Name → Meant) → TreeOf Name → TreeOf Name
  node_called here (var n) = var (name_called (here n) n)
  node_called here (literal l) = literal l
  node_called here (send r s args) = send r s args
  node_called here (cascade r ms) = cascade r ms
  node_called here (assign n t) = assign (name_called (here n) n) t
  node_called here (block ps ts ss e) = block (map (to x y) ps) (map (to x y) ts) ss e
  node_called here (brace ts) = brace ts
  node_called here (return t) = return t

  -- nodes are made so anew
  abbrev pub Calls : Making Name → MeantAt → Type 0
  Calls f at = (path : List ℕ) (u : TreeOf Name) → f path u ≡ node_called (at path) u

  -- what a name is called is told by what the scopes declare
  called-there : (ps : List (PlacedScope Name)) (m : Meant) (n : Name) → m ≡ meant_by alone ps n → name_called m n ≡ called_among x y (declared_in ps) n
  called-there ps m n e =
      by_cases (text_eq x n)
      (λ t. ap (λ b. called_inside x y b n) (ap (λ (z : Meant). is_of_code z.meaning) e ∙ of-scopes ps n ∙ ap (λ z. not (is_pseudo_variable z) && is_some (kind_in (declared_in ps) z)) (sym (text-same x n t)) ∙ sym (knows-told x y (declared_in ps))))
      (λ f. other-called x y (is_of_code m.meaning) n f ∙ sym (other-called x y _ n f))

  -- the name that a node uses is not the new one
  used-other : (u : TreeOf Name) (n : Name) → is_named_by text_eq y u ≡ false → name_used u ≡ Some n → text_eq y n ≡ false
  used-other u n h e = sym (ap (λ o. option_map_or (text_eq y) o false) e) ∙ neither_left (option_map_or (text_eq y) (name_used u) false) (list_any (text_eq y) (declared_by u)) h

  -- a node does not have the new name, and assigns nothing that is fixed
  abbrev pub Fine : MeantAt → FactAt
  Fine at path u = (is_named_by text_eq y u ≡ false) × ((n : Name) (t : TreeOf Name) → u ≡ assign n t → is_fixed (at path n).meaning ≡ false)

  module _ (g : Name → MeaningOf Name) (proper : is_pseudo_variable y ≡ false) where
    mutual
      -- a node
      tree-kept : (t : TreeOf Name) (f : Making Name) (d : ℕ) (ps : List (PlacedScope Name)) (at : MeantAt) → Calls f at → IsInScopes alone d t ps at → Below (Fine at) t → Lacks x y (declared_in ps) →
          tree_in g (map (anew x y) (declared_in ps)) (rebuilt f t) ≡ tree_in g (declared_in ps) t
      tree-kept (var n) f d ps at c h p l =
          ap (tree_in g (map (anew x y) (declared_in ps))) (c [] (var n))
          ∙ ap (λ z. reading (reference_in (map (anew x y) (declared_in ps)) (g z) z)) (called-there ps (at [] n) n (h [] n))
          ∙ ap reading (reference-kept x y proper (declared_in ps) l g n (used-other (var n) n (p [] (var n) refl).0 refl))
      tree-kept (literal q) f d ps at c h p l = ap (tree_in g (map (anew x y) (declared_in ps))) (c [] (literal q))
      tree-kept (send r s args) f d ps at c h p l =
          let k = below-node alone d (send r s args) ps at h in
          let j = below-children (Fine at) (send r s args) p in
          ap (tree_in g (map (anew x y) (declared_in ps))) (c [] (send (rebuilt (onward 0 f) r) s (rebuilt_trees f 1 args)))
          ∙ (λ z. sending (tree-kept r (onward 0 f) (d + 1) ps (below 0 at) (λ path u. c (0 ∷ path) u) (first-node alone (d + 1) r args 0 ps at k) (first-below (Fine at) r args 0 j) l z) s
          (trees-kept args f (d + 1) 1 ps at c (other-nodes alone (d + 1) r args 0 ps at k) (others-below (Fine at) r args 0 j) l z))
      tree-kept (cascade r ms) f d ps at c h p l =
          let k = below-node alone d (cascade r ms) ps at h in
          let j = below-children (Fine at) (cascade r ms) p in
          ap (tree_in g (map (anew x y) (declared_in ps))) (c [] (cascade (rebuilt (onward 0 f) r) (rebuilt_messages f 1 ms)))
          ∙ (λ z. cascading (tree-kept r (onward 0 f) (d + 1) ps (below 0 at) (λ path u. c (0 ∷ path) u) (first-node alone (d + 1) r (all_arguments ms) 0 ps at k) (first-below (Fine at) r (all_arguments ms) 0 j) l z)
          (messages-kept ms f (d + 1) 1 ps at c (other-nodes alone (d + 1) r (all_arguments ms) 0 ps at k) (others-below (Fine at) r (all_arguments ms) 0 j) l z))
      tree-kept (assign n t) f d ps at c h p l =
          let k = below-node alone d (assign n t) ps at h in
          let j = below-children (Fine at) (assign n t) p in
          let here = p [] (assign n t) refl in
          ap (tree_in g (map (anew x y) (declared_in ps))) (c [] (assign n (rebuilt (onward 0 f) t)))
          ∙ ap (λ z. assigning (target_in (map (anew x y) (declared_in ps)) (g z) z) (tree_in g (map (anew x y) (declared_in ps)) (rebuilt (onward 0 f) t))) (called-there ps (at [] n) n (h [] n))
          ∙ (λ z. assigning (target-kept x y proper (declared_in ps) l g n (used-other (assign n t) n here.0 refl) (loose ps n (ap (λ (m : Meant). is_fixed m.meaning) (sym (h [] n)) ∙ here.1 n t refl)) z)
          (tree-kept t (onward 0 f) (d + 1) ps (below 0 at) (λ path u. c (0 ∷ path) u) (first-node alone (d + 1) t no_trees 0 ps at k) (first-below (Fine at) t no_trees 0 j) l z))
      tree-kept (block qs ts ss e) f d ps at c h p l =
          let inner : List (PlacedScope Name) = own_scope d (block qs ts ss e) ++ ps in
          let body =
          ap (λ env. statements_in g env (rebuilt_statements f 0 ss)) (opened-anew x y qs ts (declared_in ps))
          ∙ statements-kept ss f (d + 1) 0 inner at c (below-node alone d (block qs ts ss e) ps at h) (below-children (Fine at) (block qs ts ss e) p)
          (lacks-opened x y qs ts (declared_in ps) (neither_right (option_map_or (text_eq y) (name_used (block qs ts ss e)) false) (list_any (text_eq y) (qs ++ ts)) (p [] (block qs ts ss e) refl).0) l) in
          ap (tree_in g (map (anew x y) (declared_in ps))) (c [] (block qs ts (rebuilt_statements f 0 ss) e))
          ∙ (λ z. block_of (length-map (to x y) qs z) (length-map (to x y) ts z) (body z))
      tree-kept (brace ts) f d ps at c h p l =
          ap (tree_in g (map (anew x y) (declared_in ps))) (c [] (brace (rebuilt_trees f 0 ts)))
          ∙ ap brace_of (trees-kept ts f (d + 1) 0 ps at c (below-node alone d (brace ts) ps at h) (below-children (Fine at) (brace ts) p) l)
      tree-kept (return t) f d ps at c h p l =
          let k = below-node alone d (return t) ps at h in
          ap (tree_in g (map (anew x y) (declared_in ps))) (c [] (return (rebuilt (onward 0 f) t)))
          ∙ ap returning (tree-kept t (onward 0 f) (d + 1) ps (below 0 at) (λ path u. c (0 ∷ path) u) (first-node alone (d + 1) t no_trees 0 ps at k) (first-below (Fine at) t no_trees 0 (below-children (Fine at) (return t) p)) l)

      trees-kept : (ts : TreesOf Name) (f : Making Name) (d k : ℕ) (ps : List (PlacedScope Name)) (at : MeantAt) → Calls f at → AreInScopes alone d ts k ps at → Among (Fine at) ts k → Lacks x y (declared_in ps) →
          trees_in g (map (anew x y) (declared_in ps)) (rebuilt_trees f k ts) ≡ trees_in g (declared_in ps) ts
      trees-kept no_trees f d k ps at c h p l = refl
      trees-kept (more_trees t ts) f d k ps at c h p l =
          λ z. more_nodes (tree-kept t (onward k f) d ps (below k at) (λ path u. c (k ∷ path) u) (first-node alone d t ts k ps at h) (first-below (Fine at) t ts k p) l z)
          (trees-kept ts f d (suc k) ps at c (other-nodes alone d t ts k ps at h) (others-below (Fine at) t ts k p) l z)

      messages-kept : (ms : MessagesOf Name) (f : Making Name) (d k : ℕ) (ps : List (PlacedScope Name)) (at : MeantAt) → Calls f at → AreInScopes alone d (all_arguments ms) k ps at → Among (Fine at) (all_arguments ms) k → Lacks x y (declared_in ps) →
          messages_in g (map (anew x y) (declared_in ps)) (rebuilt_messages f k ms) ≡ messages_in g (declared_in ps) ms
      messages-kept no_messages f d k ps at c h p l = refl
      messages-kept (more_messages s args ms) f d k ps at c h p l =
          λ z. more_sends s (trees-kept args f d k ps at c (first-arguments alone d args (all_arguments ms) k ps at h) (first-message (Fine at) args (all_arguments ms) k p) l z)
          (messages-kept ms f d (k + count args) ps at c (other-arguments alone d args (all_arguments ms) k ps at h) (other-messages (Fine at) args (all_arguments ms) k p) l z)

      pub statements-kept : (ss : StatementsOf Name) (f : Making Name) (d k : ℕ) (ps : List (PlacedScope Name)) (at : MeantAt) → Calls f at → AreInScopes alone d (statement_trees ss) k ps at → Among (Fine at) (statement_trees ss) k → Lacks x y (declared_in ps) →
          statements_in g (map (anew x y) (declared_in ps)) (rebuilt_statements f k ss) ≡ statements_in g (declared_in ps) ss
      statements-kept no_statements f d k ps at c h p l = refl
      statements-kept (more_statements n t ss) f d k ps at c h p l =
          λ z. more_lines (tree-kept t (onward k f) d ps (below k at) (λ path u. c (k ∷ path) u) (first-node alone d t (statement_trees ss) k ps at h) (first-below (Fine at) t (statement_trees ss) k p) l z)
          (statements-kept ss f d (suc k) ps at c (other-nodes alone d t (statement_trees ss) k ps at h) (others-below (Fine at) t (statement_trees ss) k p) l z)
