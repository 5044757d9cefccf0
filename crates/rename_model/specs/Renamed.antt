-- Trees in which nodes read and assign other names. What is declared, and each selector, stays.
use Rattle.std.specs.Prelude.{ℕ, suc, ◌+◌, List, [], ◌∷◌}
use Rattle.tree_model.specs.Tree.{TreeOf, var, literal, send, cascade, assign, block, brace, return, TreesOf, no_trees, more_trees, MessagesOf, no_messages, more_messages, StatementsOf, no_statements, more_statements, SequenceOf, MethodOf}
use Rattle.tree_model.specs.Path.{count}

-- what the name at the end of a path becomes
abbrev pub NewName : Type 0 → Type 0
NewName N = List ℕ → N → N

-- the same, on from the node to which one step leads
abbrev pub beyond : {N : Type 0} → ℕ → NewName N → NewName N
beyond k to path n = to (k ∷ path) n

-- the node, in which each node that reads or assigns a name has the new one
abbrev mutual
  pub renamed : {N : Type 0} → NewName N → TreeOf N → TreeOf N
  renamed to (var n) = var (to [] n)
  renamed to (literal l) = literal l
  renamed to (send r s args) = send (renamed (beyond 0 to) r) s (renamed_trees to 1 args)
  renamed to (cascade r ms) = cascade (renamed (beyond 0 to) r) (renamed_messages to 1 ms)
  renamed to (assign n t) = assign (to [] n) (renamed (beyond 0 to) t)
  renamed to (block ps ts ss e) = block ps ts (renamed_statements to 0 ss) e
  renamed to (brace ts) = brace (renamed_trees to 0 ts)
  renamed to (return t) = return (renamed (beyond 0 to) t)

  -- nodes to which the steps from k on lead
  pub renamed_trees : {N : Type 0} → NewName N → ℕ → TreesOf N → TreesOf N
  renamed_trees to k no_trees = no_trees
  renamed_trees to k (more_trees t ts) = more_trees (renamed (beyond k to) t) (renamed_trees to (suc k) ts)

  pub renamed_messages : {N : Type 0} → NewName N → ℕ → MessagesOf N → MessagesOf N
  renamed_messages to k no_messages = no_messages
  renamed_messages to k (more_messages s args ms) = more_messages s (renamed_trees to k args) (renamed_messages to (k + count args) ms)

  pub renamed_statements : {N : Type 0} → NewName N → ℕ → StatementsOf N → StatementsOf N
  renamed_statements to k no_statements = no_statements
  renamed_statements to k (more_statements c t ss) = more_statements c (renamed (beyond k to) t) (renamed_statements to (suc k) ss)

-- a sequence so
abbrev pub renamed_sequence : {N : Type 0} → NewName N → SequenceOf N → SequenceOf N
renamed_sequence to b = record b { statements = renamed_statements to 0 b.statements }

-- a method so
abbrev pub renamed_method : {N : Type 0} → NewName N → MethodOf N → MethodOf N
renamed_method to m = record m { body = renamed_sequence to m.body }
