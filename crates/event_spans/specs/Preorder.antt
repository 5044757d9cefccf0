-- The nodes of a tree in preorder: each before the nodes in it.
use Rattle.std.specs.Prelude.{ℕ, suc, Bool, true, false, List, [], ◌∷◌, ◌++◌, length}
use Rattle.grammar_model.specs.Spanned.{SpannedTree, Var, Literal, Send, Cascade, Assign, Block, Brace, Return, SpannedTrees, NoTrees, MoreTrees, SpannedMessages, NoMessages, MoreMessages, SpannedStatements, NoStatements, MoreStatements, SpannedSequence}
use Rattle.event_spans.specs.declared.place.Place.{Place}

-- a node at a depth, before the nodes in it
abbrev pub above : ℕ → ℕ → ℕ → Bool → List Place → List Place
above d f e block ps = record { from = f; to = e; depth = d; below = length ps; block = block } ∷ ps

-- a node at a depth, and the nodes in it
abbrev mutual
  pub tree_places : ℕ → SpannedTree → List Place
  tree_places d (Var f e n) = above d f e false []
  tree_places d (Literal f e l) = above d f e false []
  tree_places d (Send f e r s xs) = above d f e false (tree_places (suc d) r ++ trees_places (suc d) xs)
  tree_places d (Cascade f e r ms) = above d f e false (tree_places (suc d) r ++ messages_places (suc d) ms)
  tree_places d (Assign f e n t) = above d f e false (tree_places (suc d) t)
  tree_places d (Block f e ps ds ss c) = above d f e true (statements_places (suc d) ss)
  tree_places d (Brace f e ts) = above d f e false (trees_places (suc d) ts)
  tree_places d (Return f e t) = above d f e false (tree_places (suc d) t)

  -- those of nodes in order
  pub trees_places : ℕ → SpannedTrees → List Place
  trees_places d NoTrees = []
  trees_places d (MoreTrees t ts) = tree_places d t ++ trees_places d ts

  -- those of the arguments of messages in order
  pub messages_places : ℕ → SpannedMessages → List Place
  messages_places d NoMessages = []
  messages_places d (MoreMessages s xs ms) = trees_places d xs ++ messages_places d ms

  -- those of statements in order
  pub statements_places : ℕ → SpannedStatements → List Place
  statements_places d NoStatements = []
  statements_places d (MoreStatements c f t ss) = tree_places d t ++ statements_places d ss

-- the nodes of a sequence
abbrev pub sequence_places : SpannedSequence → List Place
sequence_places s = statements_places 0 s.statements
