-- Which blocks stand on one line.
use Rattle.std.specs.Prelude.{◌&&◌, Bool, true, false, List, [], ◌∷◌}
use Rattle.tree_model.specs.Tree.{TreeOf, var, literal, send, cascade, assign, block, brace, return, TreesOf, no_trees, more_trees, MessagesOf, no_messages, more_messages, StatementsOf, no_statements, more_statements}

-- whether nothing is in the list
abbrev pub is_none_in : {A : Type 0} → List A → Bool
is_none_in [] = true
is_none_in (x ∷ xs) = false

-- Whether each block in a tree is flat. A block is flat where it has no temporaries, no comments and at most one statement, and each block in that one is flat.
abbrev mutual
  pub is_flat : {N : Type 0} → TreeOf N → Bool
  is_flat (var n) = true
  is_flat (literal l) = true
  is_flat (send r s args) = is_flat r && are_trees_flat args
  is_flat (cascade r ms) = is_flat r && are_messages_flat ms
  is_flat (assign n t) = is_flat t
  is_flat (block ps ts ss e) = is_none_in ts && is_none_in e && is_flat_row ss
  is_flat (brace ts) = are_trees_flat ts
  is_flat (return t) = is_flat t

  pub are_trees_flat : {N : Type 0} → TreesOf N → Bool
  are_trees_flat no_trees = true
  are_trees_flat (more_trees t ts) = is_flat t && are_trees_flat ts

  pub are_messages_flat : {N : Type 0} → MessagesOf N → Bool
  are_messages_flat no_messages = true
  are_messages_flat (more_messages s args ms) = are_trees_flat args && are_messages_flat ms

  -- whether there is at most one statement, without comments, and each block in it is flat
  pub is_flat_row : {N : Type 0} → StatementsOf N → Bool
  is_flat_row no_statements = true
  is_flat_row (more_statements c t no_statements) = is_none_in c && is_flat t
  is_flat_row (more_statements c t (more_statements d u ss)) = false
