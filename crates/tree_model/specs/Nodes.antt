-- All nodes of a sequence with their paths, each node before the nodes below it.
use Rattle.std.specs.Prelude.{ℕ, ◌+◌, List, [], ◌∷◌, ◌++◌, map}
use Rattle.tree_model.specs.Tree.{TreeOf, var, literal, send, cascade, assign, block, brace, return, TreesOf, no_trees, more_trees, MessagesOf, no_messages, more_messages, StatementsOf, no_statements, more_statements, SequenceOf, map_names}
use Rattle.tree_model.specs.Path.{count}

-- a node and the path that leads to it
abbrev pub Placed : Type 0 → Type 0
Placed N = List ℕ × TreeOf N

-- the same nodes, one step deeper
abbrev pub below_step : {N : Type 0} → ℕ → List (Placed N) → List (Placed N)
below_step k = map (λ e. (k ∷ e.0, e.1))

-- the same nodes with each name changed
abbrev pub map_placed : {M N : Type 0} → (M → N) → List (Placed M) → List (Placed N)
map_placed f = map (λ e. (e.0, map_names f e.1))

-- the node itself, and then the nodes below it
abbrev mutual
  pub tree_nodes : {N : Type 0} → TreeOf N → List (Placed N)
  tree_nodes (var n) = ([], var n) ∷ []
  tree_nodes (literal l) = ([], literal l) ∷ []
  tree_nodes (send r s args) = ([], send r s args) ∷ below_step 0 (tree_nodes r) ++ trees_nodes 1 args
  tree_nodes (cascade r ms) = ([], cascade r ms) ∷ below_step 0 (tree_nodes r) ++ messages_nodes 1 ms
  tree_nodes (assign n t) = ([], assign n t) ∷ below_step 0 (tree_nodes t)
  tree_nodes (block ps ts ss e) = ([], block ps ts ss e) ∷ statements_nodes 0 ss
  tree_nodes (brace ts) = ([], brace ts) ∷ trees_nodes 0 ts
  tree_nodes (return t) = ([], return t) ∷ below_step 0 (tree_nodes t)

  -- the nodes of trees whose numbers go up from k
  pub trees_nodes : {N : Type 0} → ℕ → TreesOf N → List (Placed N)
  trees_nodes k no_trees = []
  trees_nodes k (more_trees t ts) = below_step k (tree_nodes t) ++ trees_nodes (k + 1) ts

  pub messages_nodes : {N : Type 0} → ℕ → MessagesOf N → List (Placed N)
  messages_nodes k no_messages = []
  messages_nodes k (more_messages s args ms) = trees_nodes k args ++ messages_nodes (k + count args) ms

  pub statements_nodes : {N : Type 0} → ℕ → StatementsOf N → List (Placed N)
  statements_nodes k no_statements = []
  statements_nodes k (more_statements c t ss) = below_step k (tree_nodes t) ++ statements_nodes (k + 1) ss

-- all nodes of a sequence
abbrev pub nodes : {N : Type 0} → SequenceOf N → List (Placed N)
nodes b = statements_nodes 0 b.statements
