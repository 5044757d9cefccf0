-- The nodes of a sequence in preorder, each with the path that leads to it: a node comes before the nodes in it.
use Rattle.std.specs.Prelude.{ℕ, suc, ◌+◌, List, [], ◌∷◌, ◌++◌}
use Rattle.grammar_model.specs.Spanned.{SpannedTree, Var, Literal, Send, Cascade, Assign, Block, Brace, Return, SpannedTrees, NoTrees, MoreTrees, SpannedMessages, NoMessages, MoreMessages, SpannedStatements, NoStatements, MoreStatements, SpannedSequence}
use Rattle.parse_events.specs.Found.{count_trees}

-- a path and the node where it leads
abbrev pub Reached : Type 0
Reached = List ℕ × SpannedTree

-- the node to which a path leads, and the nodes in it
abbrev mutual
  pub tree_nodes : List ℕ → SpannedTree → List Reached
  tree_nodes path (Var f e n) = (path, Var f e n) ∷ []
  tree_nodes path (Literal f e l) = (path, Literal f e l) ∷ []
  tree_nodes path (Send f e r s xs) = (path, Send f e r s xs) ∷ tree_nodes (path ++ 0 ∷ []) r ++ trees_nodes path 1 xs
  tree_nodes path (Cascade f e r ms) = (path, Cascade f e r ms) ∷ tree_nodes (path ++ 0 ∷ []) r ++ messages_nodes path 1 ms
  tree_nodes path (Assign f e n t) = (path, Assign f e n t) ∷ tree_nodes (path ++ 0 ∷ []) t
  tree_nodes path (Block f e ps ds ss c) = (path, Block f e ps ds ss c) ∷ statements_nodes path 0 ss
  tree_nodes path (Brace f e ts) = (path, Brace f e ts) ∷ trees_nodes path 0 ts
  tree_nodes path (Return f e t) = (path, Return f e t) ∷ tree_nodes (path ++ 0 ∷ []) t

  -- those of trees whose numbers go up from k
  pub trees_nodes : List ℕ → ℕ → SpannedTrees → List Reached
  trees_nodes path k NoTrees = []
  trees_nodes path k (MoreTrees t ts) = tree_nodes (path ++ k ∷ []) t ++ trees_nodes path (suc k) ts

  -- those of the arguments of messages
  pub messages_nodes : List ℕ → ℕ → SpannedMessages → List Reached
  messages_nodes path k NoMessages = []
  messages_nodes path k (MoreMessages s xs ms) = trees_nodes path k xs ++ messages_nodes path (count_trees xs + k) ms

  -- those of statements
  pub statements_nodes : List ℕ → ℕ → SpannedStatements → List Reached
  statements_nodes path k NoStatements = []
  statements_nodes path k (MoreStatements c f t ss) = tree_nodes (path ++ k ∷ []) t ++ statements_nodes path (suc k) ss

-- the nodes of a sequence
abbrev pub nodes : SpannedSequence → List Reached
nodes s = statements_nodes [] 0 s.statements
