-- Code that assigns no argument, by what is declared round each node.
use Rattle.std.proofs.Common.{◌≡◌, ℕ, suc, ◌+◌, List, [], ◌∷◌, ◌++◌, Some, None, refl, sym, ap, ◌∙◌, arith}
use Rattle.std.specs.Prelude.{Bool, true, false, if◌then◌else◌, option_map, unwrap_or}
use Rattle.std.proofs.lemmas.Bool.{true≢false}
use Rattle.rb_base.specs.Names.{text_eq}
use Rattle.scope_model.specs.SpecialNames.{is_pseudo_variable}
use Rattle.tree_model.specs.Tree.{TreeOf, var, literal, send, cascade, assign, block, brace, return, TreesOf, no_trees, more_trees, MessagesOf, no_messages, more_messages, StatementsOf, no_statements, more_statements}
use Rattle.tree_model.specs.Path.{count, nth, all_arguments, statement_trees}
use Rattle.scope_model.specs.Scope.{PlacedScope, method_scope, doit_scope, own_scope, entered, local_by}
use Rattle.scope_model.specs.declared.local.Local.{Local}
use Rattle.scope_model.specs.declared.local.Local.TheVariants.{Argument, Temporary, NotLocal}
use Rattle.image_model.specs.Image.{EntryOf, DoItOf, ImageOf}
use Rattle.image_model.specs.Words.{text_words}
use Rattle.image_model.specs.Means.{MeaningOf, pseudo, means_by, means_outside, means, means_in_doit}
use Rattle.run_model.specs.Values.{Name}
use Rattle.run_model.specs.Runs.{doit_class}
use Rattle.resolved_model.specs.Resolving.{Meant, MeantAt, below, meant_in, meant_in_doit}
use Rattle.mapped_model.proofs.NodesBelow.{FactAt, Below, Among, among-first, below-children, first-below, others-below, first-message, other-messages}
use Rattle.rename_laws.specs.BehindKernel.{is_fixed, AssignsNothingFixed}
use Rattle.resolved_model.specs.Environments.{Declared, opened, kind_in, declared_in}
use Rattle.resolved_model.proofs.Environments.{kind_of, kind-scopes}
use Rattle.resolved_model.proofs.ResolvingLemmas.{meant_by, IsInScopes, AreInScopes, below-node, first-node, other-nodes, first-arguments, other-arguments}

-- no node assigns an argument, by what is declared round the tree
abbrev mutual
  pub FreeTree : List Declared → TreeOf Name → Type 0
  FreeTree env (var n) = Unit {0}
  FreeTree env (literal l) = Unit {0}
  FreeTree env (send r s args) = FreeTree env r × FreeTrees env args
  FreeTree env (cascade r ms) = FreeTree env r × FreeMessages env ms
  FreeTree env (assign n t) = (is_pseudo_variable n ≡ false → kind_in env n ≡ Some false → ⊥) × FreeTree env t
  FreeTree env (block ps ts ss e) = FreeLines (opened ps ts env) ss
  FreeTree env (brace ts) = FreeTrees env ts
  FreeTree env (return t) = FreeTree env t

  pub FreeTrees : List Declared → TreesOf Name → Type 0
  FreeTrees env no_trees = Unit {0}
  FreeTrees env (more_trees t ts) = FreeTree env t × FreeTrees env ts

  pub FreeMessages : List Declared → MessagesOf Name → Type 0
  FreeMessages env no_messages = Unit {0}
  FreeMessages env (more_messages s args ms) = FreeTrees env args × FreeMessages env ms

  pub FreeLines : List Declared → StatementsOf Name → Type 0
  FreeLines env no_statements = Unit {0}
  FreeLines env (more_statements c t ss) = FreeTree env t × FreeLines env ss

-- what a node assigns is not fixed
abbrev Free : MeantAt → FactAt
Free at path u = (n : Name) (t : TreeOf Name) → u ≡ assign n t → is_fixed (at path n).meaning ≡ false

-- what is not fixed is no argument
not-argument : (l : Local) (g : MeaningOf Name) (b : Bool) → b ≡ false → is_fixed (if b then pseudo else means_by (if b then NotLocal else l) g) ≡ false → kind_of l ≡ Some false → ⊥
not-argument l g true e h q = true≢false e
not-argument (Argument scope) g false e h q = true≢false h
not-argument (Temporary scope) g false e h q = unlike q
  where
    unlike : Some true ≡ Some false → ⊥
    unlike p = cc
not-argument NotLocal g false e h q = unlike q
  where
    unlike : None ≡ Some false → ⊥
    unlike p = cc

module _ (g : Name → MeaningOf Name) where
  -- the name of a node in scopes
  name-free : (ps : List (PlacedScope Name)) (n : Name) → is_fixed (meant_by g ps n).meaning ≡ false → is_pseudo_variable n ≡ false → kind_in (declared_in ps) n ≡ Some false → ⊥
  name-free ps n h e q = not-argument (local_by text_eq ps n) (g n) (is_pseudo_variable n) e h (sym (kind-scopes ps n) ∙ q)

  mutual
    tree-free : (t : TreeOf Name) (d : ℕ) (ps : List (PlacedScope Name)) (at : MeantAt) → IsInScopes g d t ps at → Below (Free at) t → FreeTree (declared_in ps) t
    tree-free (var n) d ps at h f = tt
    tree-free (literal l) d ps at h f = tt
    tree-free (send r s args) d ps at h f =
        let k = below-node g d (send r s args) ps at h in
        let l = below-children (Free at) (send r s args) f in
        (tree-free r (d + 1) ps (below 0 at) (first-node g (d + 1) r args 0 ps at k) (first-below (Free at) r args 0 l), trees-free args (d + 1) 1 ps at (other-nodes g (d + 1) r args 0 ps at k) (others-below (Free at) r args 0 l))
    tree-free (cascade r ms) d ps at h f =
        let k = below-node g d (cascade r ms) ps at h in
        let l = below-children (Free at) (cascade r ms) f in (
          tree-free r (d + 1) ps (below 0 at) (first-node g (d + 1) r (all_arguments ms) 0 ps at k) (first-below (Free at) r (all_arguments ms) 0 l),
          messages-free ms (d + 1) 1 ps at (other-nodes g (d + 1) r (all_arguments ms) 0 ps at k) (others-below (Free at) r (all_arguments ms) 0 l),
        )
    tree-free (assign n t) d ps at h f =
        let k = below-node g d (assign n t) ps at h in
        let l = below-children (Free at) (assign n t) f in
        (name-free ps n (ap (λ (m : Meant). is_fixed m.meaning) (sym (h [] n)) ∙ f [] (assign n t) refl n t refl), tree-free t (d + 1) ps (below 0 at) (first-node g (d + 1) t no_trees 0 ps at k) (first-below (Free at) t no_trees 0 l))
    tree-free (block qs ts ss e) d ps at h f =
        lines-free ss (d + 1) 0 (own_scope d (block qs ts ss e) ++ ps) at (below-node g d (block qs ts ss e) ps at h) (below-children (Free at) (block qs ts ss e) f)
    tree-free (brace ts) d ps at h f = trees-free ts (d + 1) 0 ps at (below-node g d (brace ts) ps at h) (below-children (Free at) (brace ts) f)
    tree-free (return t) d ps at h f =
        let k = below-node g d (return t) ps at h in
        tree-free t (d + 1) ps (below 0 at) (first-node g (d + 1) t no_trees 0 ps at k) (first-below (Free at) t no_trees 0 (below-children (Free at) (return t) f))

    trees-free : (ts : TreesOf Name) (d k : ℕ) (ps : List (PlacedScope Name)) (at : MeantAt) → AreInScopes g d ts k ps at → Among (Free at) ts k → FreeTrees (declared_in ps) ts
    trees-free no_trees d k ps at h f = tt
    trees-free (more_trees t ts) d k ps at h f =
        (tree-free t d ps (below k at) (first-node g d t ts k ps at h) (first-below (Free at) t ts k f), trees-free ts d (suc k) ps at (other-nodes g d t ts k ps at h) (others-below (Free at) t ts k f))

    messages-free : (ms : MessagesOf Name) (d k : ℕ) (ps : List (PlacedScope Name)) (at : MeantAt) → AreInScopes g d (all_arguments ms) k ps at → Among (Free at) (all_arguments ms) k → FreeMessages (declared_in ps) ms
    messages-free no_messages d k ps at h f = tt
    messages-free (more_messages s args ms) d k ps at h f = (
      trees-free args d k ps at (first-arguments g d args (all_arguments ms) k ps at h) (first-message (Free at) args (all_arguments ms) k f),
      messages-free ms d (k + count args) ps at (other-arguments g d args (all_arguments ms) k ps at h) (other-messages (Free at) args (all_arguments ms) k f),
    )

    lines-free : (ss : StatementsOf Name) (d k : ℕ) (ps : List (PlacedScope Name)) (at : MeantAt) → AreInScopes g d (statement_trees ss) k ps at → Among (Free at) (statement_trees ss) k → FreeLines (declared_in ps) ss
    lines-free no_statements d k ps at h f = tt
    lines-free (more_statements c t ss) d k ps at h f = (
      tree-free t d ps (below k at) (first-node g d t (statement_trees ss) k ps at h) (first-below (Free at) t (statement_trees ss) k f),
      lines-free ss d (suc k) ps at (other-nodes g d t (statement_trees ss) k ps at h) (others-below (Free at) t (statement_trees ss) k f),
    )

-- a method that assigns nothing fixed
pub method-free : (i : ImageOf Name) (m : EntryOf Name) → AssignsNothingFixed (means text_words i m) m.tree.body → FreeLines (opened m.tree.arguments m.tree.body.temporaries []) m.tree.body.statements
method-free i m free =
    let scope = method_scope m.tree in
    let at = meant_in i m in
    lines-free (λ n. means_outside text_words i m.class m.meta n) m.tree.body.statements 1 0 ((0, scope) ∷ []) at
    (λ j k c path n e q.
    let here : k ≡ j = omega (arith, e) in
    ap (λ x. meant_by (λ n. means_outside text_words i m.class m.meta n) (unwrap_or (option_map (λ c. entered 1 c path) (nth (statement_trees scope.statements) x)) [] ++ (0, scope) ∷ []) n) here
    ∙ ap (λ o. meant_by (λ n. means_outside text_words i m.class m.meta n) (unwrap_or (option_map (λ c. entered 1 c path) o) [] ++ (0, scope) ∷ []) n) q)
    (among-first (Free at) (statement_trees scope.statements) (λ path u q n t e. free path n t (q ∙ ap Some e)))

-- and a do-it
pub doit-free : (i : ImageOf Name) (d : DoItOf Name) → AssignsNothingFixed (means_in_doit text_words i d) d.body → FreeLines (opened [] d.body.temporaries []) d.body.statements
doit-free i d free =
    let scope = doit_scope d.body in
    let at = meant_in_doit i d in
    lines-free (λ n. means_outside text_words i (doit_class i) false n) d.body.statements 1 0 ((0, scope) ∷ []) at
    (λ j k c path n e q.
    let here : k ≡ j = omega (arith, e) in
    ap (λ x. meant_by (λ n. means_outside text_words i (doit_class i) false n) (unwrap_or (option_map (λ c. entered 1 c path) (nth (statement_trees scope.statements) x)) [] ++ (0, scope) ∷ []) n) here
    ∙ ap (λ o. meant_by (λ n. means_outside text_words i (doit_class i) false n) (unwrap_or (option_map (λ c. entered 1 c path) o) [] ++ (0, scope) ∷ []) n) q)
    (among-first (Free at) (statement_trees scope.statements) (λ path u q n t e. free path n t (q ∙ ap Some e)))
