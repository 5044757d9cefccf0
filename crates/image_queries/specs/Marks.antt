-- Tests of all nodes of a tree, in their order, and the lines of those that pass.
use Rattle.std.specs.Prelude.{ℕ, List, [], ◌∷◌, ◌++◌, Bool, ◌&&◌, if◌then◌else◌}
use Rattle.tree_model.specs.Tree.{TreeOf, var, literal, send, cascade, assign, block, brace, return, TreesOf, no_trees, more_trees, MessagesOf, no_messages, more_messages, StatementsOf, no_statements, more_statements}
use Rattle.event_spans.specs.declared.search.NodeSpan.{NodeSpan}
use Rattle.event_spans.specs.Answers.{of_span}
use Rattle.query_model.specs.Lines.{node_line}

-- what a test answers at the node itself, and then at the nodes below it
abbrev mutual
  pub tree_marks : (TreeOf ℕ → Bool) → TreeOf ℕ → List Bool
  tree_marks test (var n) = test (var n) ∷ []
  tree_marks test (literal l) = test (literal l) ∷ []
  tree_marks test (send r s args) = test (send r s args) ∷ tree_marks test r ++ trees_marks test args
  tree_marks test (cascade r ms) = test (cascade r ms) ∷ tree_marks test r ++ messages_marks test ms
  tree_marks test (assign n t) = test (assign n t) ∷ tree_marks test t
  tree_marks test (block ps ts ss e) = test (block ps ts ss e) ∷ statements_marks test ss
  tree_marks test (brace ts) = test (brace ts) ∷ trees_marks test ts
  tree_marks test (return t) = test (return t) ∷ tree_marks test t

  pub trees_marks : (TreeOf ℕ → Bool) → TreesOf ℕ → List Bool
  trees_marks test no_trees = []
  trees_marks test (more_trees t ts) = tree_marks test t ++ trees_marks test ts

  pub messages_marks : (TreeOf ℕ → Bool) → MessagesOf ℕ → List Bool
  messages_marks test no_messages = []
  messages_marks test (more_messages s args ms) = trees_marks test args ++ messages_marks test ms

  pub statements_marks : (TreeOf ℕ → Bool) → StatementsOf ℕ → List Bool
  statements_marks test no_statements = []
  statements_marks test (more_statements c t ss) = tree_marks test t ++ statements_marks test ss

-- the lines of those marked nodes at whose paths a test holds
abbrev pub marked_lines : (List ℕ → Bool) → List ℕ → List NodeSpan → List Bool → List ℕ
marked_lines test owner [] marks = []
marked_lines test owner (e ∷ es) [] = []
marked_lines test owner (e ∷ es) (b ∷ marks) = (if b && test e.path then node_line owner (of_span e.span) else []) ++ marked_lines test owner es marks
