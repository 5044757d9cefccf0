-- Code is known where each of its nodes is.
use Rattle.std.proofs.Common.{◌≡◌, ℕ, suc, ◌+◌, List, [], ◌∷◌, ◌++◌, Some, refl, subst}
use Rattle.std.specs.Prelude.{Bool, false}
use Rattle.tree_model.specs.Tree.{TreeOf, var, literal, send, cascade, assign, block, brace, return, TreesOf, no_trees, more_trees, MessagesOf, no_messages, more_messages, StatementsOf, no_statements, more_statements}
use Rattle.tree_model.specs.Path.{count, all_arguments, statement_trees, part_among}
use Rattle.scope_model.specs.Scope.{ScopeOf}
use Rattle.run_model.specs.Values.{Name}
use Rattle.resolved_model.specs.ResolvedTrees.{reading}
use Rattle.resolved_model.specs.Resolving.{MeantAt, below, reference_of, resolved, resolved_trees, resolved_messages, resolved_statements, resolved_scope}
use Rattle.resolved_model.specs.ResolvedEval.{reads_super}
use Rattle.mapped_model.proofs.NodesBelow.{Below, Among, among-first, below-children, first-below, others-below, first-message, other-messages}
use Rattle.lookup_model.specs.KnownCode.{KnownReference, KnownMessage, KnownTree, KnownTrees, KnownMessages, KnownStatements, KnownCode}

-- whether a node, to which a path leads, is the name `super`
abbrev pub is_super_at : MeantAt → List ℕ → TreeOf Name → Bool
is_super_at at path (var n) = reads_super (reading (reference_of (at path n).meaning (at path n).place n))
is_super_at at path (literal l) = false
is_super_at at path (send r s args) = false
is_super_at at path (cascade r ms) = false
is_super_at at path (assign n t) = false
is_super_at at path (block ps ts ss e) = false
is_super_at at path (brace ts) = false
is_super_at at path (return t) = false

module _ (Class Selector Above : Name → Type 0) where
  -- the selectors of a cascade
  abbrev pub KnownSelectors : MessagesOf Name → Type 0
  KnownSelectors no_messages = Unit {0}
  KnownSelectors (more_messages s args ms) = Selector s × KnownSelectors ms

  -- a node by itself, to which a path leads
  abbrev pub KnownNode : MeantAt → List ℕ → TreeOf Name → Type 0
  KnownNode at path (var n) = KnownReference Class Selector Above (reference_of (at path n).meaning (at path n).place n)
  KnownNode at path (literal l) = Unit {0}
  KnownNode at path (send r s args) = KnownMessage Class Selector Above (is_super_at at (path ++ 0 ∷ []) r) s
  KnownNode at path (cascade r ms) = KnownSelectors ms
  KnownNode at path (assign n t) = Unit {0}
  KnownNode at path (block ps ts ss e) = Unit {0}
  KnownNode at path (brace ts) = Unit {0}
  KnownNode at path (return t) = Unit {0}

  -- the name `super`, resolved
  super-resolved : (at : MeantAt) (t : TreeOf Name) → is_super_at at [] t ≡ reads_super (resolved at t)
  super-resolved at (var n) = refl
  super-resolved at (literal l) = refl
  super-resolved at (send r s args) = refl
  super-resolved at (cascade r ms) = refl
  super-resolved at (assign n t) = refl
  super-resolved at (block ps ts ss e) = refl
  super-resolved at (brace ts) = refl
  super-resolved at (return t) = refl

  -- the receiver, where one step leads
  super-below : (at : MeantAt) (t : TreeOf Name) → is_super_at at (0 ∷ []) t ≡ is_super_at (below 0 at) [] t
  super-below at (var n) = refl
  super-below at (literal l) = refl
  super-below at (send r s args) = refl
  super-below at (cascade r ms) = refl
  super-below at (assign n t) = refl
  super-below at (block ps ts ss e) = refl
  super-below at (brace ts) = refl
  super-below at (return t) = refl

  mutual
    -- a node
    tree-known : (t : TreeOf Name) (at : MeantAt) → Below (KnownNode at) t → KnownTree Class Selector Above (resolved at t)
    tree-known (var n) at h = h [] (var n) refl
    tree-known (literal l) at h = tt
    tree-known (send r s args) at h =
        let k = below-children (KnownNode at) (send r s args) h in (
          tree-known r (below 0 at) (λ path u q. first-below (KnownNode at) r args 0 k path u q),
          subst (λ b. KnownMessage Class Selector Above b s) (super-resolved (below 0 at) r) (subst (λ b. KnownMessage Class Selector Above b s) (super-below at r) (h [] (send r s args) refl)),
          trees-known args at 1 (others-below (KnownNode at) r args 0 k),
        )
    tree-known (cascade r ms) at h =
        let k = below-children (KnownNode at) (cascade r ms) h in
        (tree-known r (below 0 at) (first-below (KnownNode at) r (all_arguments ms) 0 k), messages-known ms at 1 (h [] (cascade r ms) refl) (others-below (KnownNode at) r (all_arguments ms) 0 k))
    tree-known (assign n t) at h = tree-known t (below 0 at) (first-below (KnownNode at) t no_trees 0 (below-children (KnownNode at) (assign n t) h))
    tree-known (block ps ts ss e) at h = lines-known ss at 0 (below-children (KnownNode at) (block ps ts ss e) h)
    tree-known (brace ts) at h = trees-known ts at 0 (below-children (KnownNode at) (brace ts) h)
    tree-known (return t) at h = tree-known t (below 0 at) (first-below (KnownNode at) t no_trees 0 (below-children (KnownNode at) (return t) h))

    trees-known : (ts : TreesOf Name) (at : MeantAt) (k : ℕ) → Among (KnownNode at) ts k → KnownTrees Class Selector Above (resolved_trees at k ts)
    trees-known no_trees at k h = tt
    trees-known (more_trees t ts) at k h = (tree-known t (below k at) (first-below (KnownNode at) t ts k h), trees-known ts at (suc k) (others-below (KnownNode at) t ts k h))

    messages-known : (ms : MessagesOf Name) (at : MeantAt) (k : ℕ) → KnownSelectors ms → Among (KnownNode at) (all_arguments ms) k → KnownMessages Class Selector Above (resolved_messages at k ms)
    messages-known no_messages at k own h = tt
    messages-known (more_messages s args ms) at k own h =
        (own.0, trees-known args at k (first-message (KnownNode at) args (all_arguments ms) k h), messages-known ms at (k + count args) own.1 (other-messages (KnownNode at) args (all_arguments ms) k h))

    lines-known : (ss : StatementsOf Name) (at : MeantAt) (k : ℕ) → Among (KnownNode at) (statement_trees ss) k → KnownStatements Class Selector Above (resolved_statements at k ss)
    lines-known no_statements at k h = tt
    lines-known (more_statements c t ss) at k h =
        (tree-known t (below k at) (first-below (KnownNode at) t (statement_trees ss) k h), lines-known ss at (suc k) (others-below (KnownNode at) t (statement_trees ss) k h))

  -- a scope
  pub scope-known : (scope : ScopeOf Name) (at : MeantAt) → ((path : List ℕ) (u : TreeOf Name) → part_among (statement_trees scope.statements) path ≡ Some u → KnownNode at path u) →
      KnownCode Class Selector Above (resolved_scope at scope)
  scope-known scope at h = lines-known scope.statements at 0 (among-first (KnownNode at) (statement_trees scope.statements) h)
