-- Nodes with their paths, as trees.
use Rattle.std.specs.Prelude.{ℕ, ◌+◌, List, [], ◌∷◌, ◌++◌, map}
use Rattle.tree_model.specs.Tree.{TreeOf, var, literal, send, cascade, assign, block, brace, return, TreesOf, no_trees, more_trees, MessagesOf, no_messages, more_messages, StatementsOf, no_statements, more_statements}
use Rattle.tree_model.specs.Path.{count}
use Rattle.tree_model.specs.Nodes.{Placed}
use Rattle.placed_nodes.specs.declared.placed.PlacedNode.{PlacedNode}

-- what the list says
abbrev pub placed : List PlacedNode → List (Placed ℕ)
placed found = map (λ (f : PlacedNode). (f.path, f.node.now)) found

-- the node to which a path leads, and then the nodes below it, in order
abbrev mutual
  pub in_tree : List ℕ → TreeOf ℕ → List (Placed ℕ)
  in_tree p (var n) = (p, var n) ∷ []
  in_tree p (literal l) = (p, literal l) ∷ []
  in_tree p (send r s args) = ((p, send r s args) ∷ []) ++ (in_tree (p ++ 0 ∷ []) r ++ in_trees p 1 args)
  in_tree p (cascade r ms) = ((p, cascade r ms) ∷ []) ++ (in_tree (p ++ 0 ∷ []) r ++ in_messages p 1 ms)
  in_tree p (assign n t) = ((p, assign n t) ∷ []) ++ in_tree (p ++ 0 ∷ []) t
  in_tree p (block ps ts ss e) = ((p, block ps ts ss e) ∷ []) ++ in_statements p 0 ss
  in_tree p (brace ts) = ((p, brace ts) ∷ []) ++ in_trees p 0 ts
  in_tree p (return t) = ((p, return t) ∷ []) ++ in_tree (p ++ 0 ∷ []) t

  -- those of trees whose numbers go up from k
  pub in_trees : List ℕ → ℕ → TreesOf ℕ → List (Placed ℕ)
  in_trees p k no_trees = []
  in_trees p k (more_trees t ts) = in_tree (p ++ k ∷ []) t ++ in_trees p (k + 1) ts

  pub in_messages : List ℕ → ℕ → MessagesOf ℕ → List (Placed ℕ)
  in_messages p k no_messages = []
  in_messages p k (more_messages s args ms) = in_trees p k args ++ in_messages p (k + count args) ms

  pub in_statements : List ℕ → ℕ → StatementsOf ℕ → List (Placed ℕ)
  in_statements p k no_statements = []
  in_statements p k (more_statements c t ss) = in_tree (p ++ k ∷ []) t ++ in_statements p (k + 1) ss
