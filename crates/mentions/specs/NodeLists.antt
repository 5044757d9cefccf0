-- The nodes of a tree without their paths, each node before the nodes below it.
use Rattle.std.specs.Prelude.{List, [], ◌∷◌, ◌++◌}
use Rattle.tree_model.specs.Tree.{TreeOf, var, literal, send, cascade, assign, block, brace, return, TreesOf, no_trees, more_trees, MessagesOf, no_messages, more_messages, StatementsOf, no_statements, more_statements}

-- the node itself, and then the nodes below it
abbrev mutual
  pub nodes_in_tree : {N : Type 0} → TreeOf N → List (TreeOf N)
  nodes_in_tree (var n) = var n ∷ []
  nodes_in_tree (literal l) = literal l ∷ []
  nodes_in_tree (send r s args) = send r s args ∷ nodes_in_tree r ++ nodes_in_trees args
  nodes_in_tree (cascade r ms) = cascade r ms ∷ nodes_in_tree r ++ nodes_in_messages ms
  nodes_in_tree (assign n t) = assign n t ∷ nodes_in_tree t
  nodes_in_tree (block ps ts ss e) = block ps ts ss e ∷ nodes_in_statements ss
  nodes_in_tree (brace ts) = brace ts ∷ nodes_in_trees ts
  nodes_in_tree (return t) = return t ∷ nodes_in_tree t

  pub nodes_in_trees : {N : Type 0} → TreesOf N → List (TreeOf N)
  nodes_in_trees no_trees = []
  nodes_in_trees (more_trees t ts) = nodes_in_tree t ++ nodes_in_trees ts

  pub nodes_in_messages : {N : Type 0} → MessagesOf N → List (TreeOf N)
  nodes_in_messages no_messages = []
  nodes_in_messages (more_messages s args ms) = nodes_in_trees args ++ nodes_in_messages ms

  pub nodes_in_statements : {N : Type 0} → StatementsOf N → List (TreeOf N)
  nodes_in_statements no_statements = []
  nodes_in_statements (more_statements c t ss) = nodes_in_tree t ++ nodes_in_statements ss
