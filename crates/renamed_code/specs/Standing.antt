-- Whether something stands in code, where names are told by the paths to their nodes.
use Rattle.std.specs.Prelude.{ℕ, ◌+◌, List, [], ◌∷◌, ◌++◌, Bool, false, ◌||◌}
use Rattle.tree_model.specs.Tree.{TreeOf, var, literal, send, cascade, assign, block, brace, return, TreesOf, no_trees, more_trees, MessagesOf, no_messages, more_messages, StatementsOf, no_statements, more_statements}
use Rattle.tree_model.specs.Path.{count}

-- what is told of names by their paths, told by the rest of the path behind a place
abbrev pub beneath : {N X : Type 0} → List ℕ → (List ℕ → N → X) → List ℕ → N → X
beneath path f rest n = f (path ++ rest) n

-- whether a node reads or assigns a name that passes the one test, or sends a selector that passes the other
abbrev mutual
  pub stands_in : {N : Type 0} → (N → Bool) → (List ℕ → N → Bool) → TreeOf N → Bool
  stands_in sent named (var n) = named [] n
  stands_in sent named (literal l) = false
  stands_in sent named (send r s args) = sent s || (stands_in sent (beneath (0 ∷ []) named) r || stands_in_trees sent named 1 args)
  stands_in sent named (cascade r ms) = stands_in sent (beneath (0 ∷ []) named) r || stands_in_messages sent named 1 ms
  stands_in sent named (assign n t) = named [] n || stands_in sent (beneath (0 ∷ []) named) t
  stands_in sent named (block ps ts ss e) = stands_in_statements sent named 0 ss
  stands_in sent named (brace ts) = stands_in_trees sent named 0 ts
  stands_in sent named (return t) = stands_in sent (beneath (0 ∷ []) named) t

  -- the nodes to which the steps from k on lead
  pub stands_in_trees : {N : Type 0} → (N → Bool) → (List ℕ → N → Bool) → ℕ → TreesOf N → Bool
  stands_in_trees sent named k no_trees = false
  stands_in_trees sent named k (more_trees t ts) = stands_in sent (beneath (k ∷ []) named) t || stands_in_trees sent named (k + 1) ts

  pub stands_in_messages : {N : Type 0} → (N → Bool) → (List ℕ → N → Bool) → ℕ → MessagesOf N → Bool
  stands_in_messages sent named k no_messages = false
  stands_in_messages sent named k (more_messages s args ms) =
      sent s || (stands_in_trees sent named k args || stands_in_messages sent named (k + count args) ms)

  pub stands_in_statements : {N : Type 0} → (N → Bool) → (List ℕ → N → Bool) → ℕ → StatementsOf N → Bool
  stands_in_statements sent named k no_statements = false
  stands_in_statements sent named k (more_statements c t ss) =
      stands_in sent (beneath (k ∷ []) named) t || stands_in_statements sent named (k + 1) ss
