-- A tree in which nodes read and assign other names is one with names changed at its places.
use Rattle.std.proofs.Common.{◌≡◌, ℕ, suc, ◌+◌, List, [], ◌∷◌, Option, Some, None, refl, sym, ap}
use Rattle.std.specs.Prelude.{map}
use Rattle.tree_model.specs.Tree.{TreeOf, var, literal, send, cascade, assign, block, brace, return, TreesOf, no_trees, more_trees, MessagesOf, no_messages, more_messages, StatementsOf, no_statements, more_statements}
use Rattle.tree_model.specs.Path.{count, part_among, all_arguments, statement_trees}
use Rattle.scope_model.specs.Scope.{ScopeOf}
use Rattle.run_model.specs.Values.{Name}
use Rattle.mapped_model.specs.ChangedTrees.{NewNames, further, changed, changed_trees, changed_messages, changed_statements, changed_scope}
use Rattle.mapped_model.proofs.NodesBelow.{FactAt, Below, Among, among-first, below-children, first-below, others-below, first-message, other-messages}
use Rattle.rename_model.specs.Renamed.{NewName, beyond, renamed, renamed_trees, renamed_messages, renamed_statements}
use Rattle.rename_laws.proofs.ScopesAfter.{renamed_scope}

-- what a name becomes at a node that there may be: the new name, but not where a block declares it
abbrev pub name_at_node : Option (TreeOf Name) → Name → Name → Name
name_at_node None m n = n
name_at_node (Some (var x)) m n = m
name_at_node (Some (literal l)) m n = m
name_at_node (Some (send r s args)) m n = m
name_at_node (Some (cascade r ms)) m n = m
name_at_node (Some (assign x t)) m n = m
name_at_node (Some (block ps ts ss e)) m n = n
name_at_node (Some (brace ts)) m n = m
name_at_node (Some (return t)) m n = m

-- the new names of nodes as those of places
abbrev pub names_of : ScopeOf Name → NewName Name → NewNames
names_of s to path n = name_at_node (part_among (statement_trees s.statements) path) (to path n) n

-- so they are called at a node
abbrev CalledAt : NewNames → NewName Name → FactAt
CalledAt names to path u = (n : Name) → names path n ≡ name_at_node (Some u) (to path n) n

-- names that stay
names-stay : (names : NewNames) → ((n : Name) → names [] n ≡ n) → (ns : List Name) → map (names []) ns ≡ ns
names-stay names h [] = refl
names-stay names h (n ∷ ns) = λ i. h n i ∷ names-stay names h ns i

mutual
  -- a node
  tree-called : (t : TreeOf Name) (names : NewNames) (to : NewName Name) → Below (CalledAt names to) t → renamed to t ≡ changed names (λ s. s) t
  tree-called (var n) names to h = ap var (sym (h [] (var n) refl n))
  tree-called (literal l) names to h = refl
  tree-called (send r s args) names to h =
      let k = below-children (CalledAt names to) (send r s args) h in
      λ i. send (tree-called r (further 0 names) (beyond 0 to) (first-below (CalledAt names to) r args 0 k) i) s (trees-called args names to 1 (others-below (CalledAt names to) r args 0 k) i)
  tree-called (cascade r ms) names to h =
      let k = below-children (CalledAt names to) (cascade r ms) h in
      λ i. cascade (tree-called r (further 0 names) (beyond 0 to) (first-below (CalledAt names to) r (all_arguments ms) 0 k) i) (messages-called ms names to 1 (others-below (CalledAt names to) r (all_arguments ms) 0 k) i)
  tree-called (assign n t) names to h =
      let k = below-children (CalledAt names to) (assign n t) h in
      λ i. assign (sym (h [] (assign n t) refl n) i) (tree-called t (further 0 names) (beyond 0 to) (first-below (CalledAt names to) t no_trees 0 k) i)
  tree-called (block ps ts ss e) names to h =
      let k = below-children (CalledAt names to) (block ps ts ss e) h in
      λ i. block (sym (names-stay names (h [] (block ps ts ss e) refl) ps) i) (sym (names-stay names (h [] (block ps ts ss e) refl) ts) i) (lines-called ss names to 0 k i) e
  tree-called (brace ts) names to h = ap brace (trees-called ts names to 0 (below-children (CalledAt names to) (brace ts) h))
  tree-called (return t) names to h =
      let k = below-children (CalledAt names to) (return t) h in
      ap return (tree-called t (further 0 names) (beyond 0 to) (first-below (CalledAt names to) t no_trees 0 k))

  trees-called : (ts : TreesOf Name) (names : NewNames) (to : NewName Name) (k : ℕ) → Among (CalledAt names to) ts k → renamed_trees to k ts ≡ changed_trees names (λ s. s) k ts
  trees-called no_trees names to k h = refl
  trees-called (more_trees t ts) names to k h =
      λ i. more_trees (tree-called t (further k names) (beyond k to) (first-below (CalledAt names to) t ts k h) i) (trees-called ts names to (suc k) (others-below (CalledAt names to) t ts k h) i)

  messages-called : (ms : MessagesOf Name) (names : NewNames) (to : NewName Name) (k : ℕ) → Among (CalledAt names to) (all_arguments ms) k → renamed_messages to k ms ≡ changed_messages names (λ s. s) k ms
  messages-called no_messages names to k h = refl
  messages-called (more_messages s args ms) names to k h =
      λ i. more_messages s (trees-called args names to k (first-message (CalledAt names to) args (all_arguments ms) k h) i) (messages-called ms names to (k + count args) (other-messages (CalledAt names to) args (all_arguments ms) k h) i)

  lines-called : (ss : StatementsOf Name) (names : NewNames) (to : NewName Name) (k : ℕ) → Among (CalledAt names to) (statement_trees ss) k → renamed_statements to k ss ≡ changed_statements names (λ s. s) k ss
  lines-called no_statements names to k h = refl
  lines-called (more_statements c t ss) names to k h =
      λ i. more_statements c (tree-called t (further k names) (beyond k to) (first-below (CalledAt names to) t (statement_trees ss) k h) i) (lines-called ss names to (suc k) (others-below (CalledAt names to) t (statement_trees ss) k h) i)

-- a scope
pub scope-called : (s : ScopeOf Name) (to : NewName Name) → renamed_scope to s ≡ changed_scope (names_of s to) (λ x. x) s
scope-called s to =
    λ i. record {
      arguments = sym (names-stay (names_of s to) (λ n. refl) s.arguments) i;
      temporaries = sym (names-stay (names_of s to) (λ n. refl) s.temporaries) i;
      statements = lines-called s.statements (names_of s to) to 0 (among-first (CalledAt (names_of s to) to) (statement_trees s.statements) (λ path u e n. ap (λ o. name_at_node o (to path n) n) e)) i;
    }
