-- Comments in nodes: a tree is proper where it is so without them and each of them is one.
use Rattle.std.proofs.Common.{List, ◌++◌}
use Rattle.tree_model.specs.Tree.{TreeOf, var, literal, send, cascade, assign, block, brace, return, TreesOf, no_trees, more_trees, MessagesOf, no_messages, more_messages, StatementsOf, no_statements, more_statements}
use Rattle.tree_model.specs.Bare.{bare, bare_trees, bare_messages, bare_statements}
use Rattle.grammar_model.specs.Checks.{Known}
use Rattle.reread_law.specs.WellFormed.{AllNotes, IsValue, NoReturn, IsStatement, AreTwo}
use Rattle.reread_law.specs.Declarations.{known_names}
use Rattle.file_model.specs.Filing.{Text}
use Rattle.code_effect_laws.proofs.Proper.{IsProper, AreProper, AreProperMessages, AreProperStatements}
use Rattle.rule_kept.proofs.Kept.{SameCount, fits_same}

abbrev mutual
  -- the comments in a node
  pub HasNotes : TreeOf Text → Type 0
  HasNotes (var n) = Unit {0}
  HasNotes (literal l) = Unit {0}
  HasNotes (send r s ts) = HasNotes r × TreesNotes ts
  HasNotes (cascade r ms) = HasNotes r × MessagesNotes ms
  HasNotes (assign n t) = HasNotes t
  HasNotes (block ps ts ss e) = LinesNotes ss × AllNotes e
  HasNotes (brace ts) = TreesNotes ts
  HasNotes (return t) = HasNotes t

  pub TreesNotes : TreesOf Text → Type 0
  TreesNotes no_trees = Unit {0}
  TreesNotes (more_trees t ts) = HasNotes t × TreesNotes ts

  pub MessagesNotes : MessagesOf Text → Type 0
  MessagesNotes no_messages = Unit {0}
  MessagesNotes (more_messages s ts ms) = TreesNotes ts × MessagesNotes ms

  pub LinesNotes : StatementsOf Text → Type 0
  LinesNotes no_statements = Unit {0}
  LinesNotes (more_statements c t ss) = AllNotes c × HasNotes t × LinesNotes ss

-- what nodes are does not depend on comments
pub no_return_bare : (t : TreeOf Text) → NoReturn t → NoReturn (bare t)
no_return_bare (var n) h = h
no_return_bare (literal l) h = h
no_return_bare (send r s ts) h = h
no_return_bare (cascade r ms) h = h
no_return_bare (assign n t) h = h
no_return_bare (block ps ts ss e) h = h
no_return_bare (brace ts) h = h
no_return_bare (return t) h = h

no_return_noted : (t : TreeOf Text) → NoReturn (bare t) → NoReturn t
no_return_noted (var n) h = h
no_return_noted (literal l) h = h
no_return_noted (send r s ts) h = h
no_return_noted (cascade r ms) h = h
no_return_noted (assign n t) h = h
no_return_noted (block ps ts ss e) h = h
no_return_noted (brace ts) h = h
no_return_noted (return t) h = h

value_bare : (t : TreeOf Text) → IsValue t → IsValue (bare t)
value_bare (var n) h = h
value_bare (literal l) h = h
value_bare (send r s ts) h = h
value_bare (cascade r ms) h = h
value_bare (assign n t) h = h
value_bare (block ps ts ss e) h = h
value_bare (brace ts) h = h
value_bare (return t) h = h

value_noted : (t : TreeOf Text) → IsValue (bare t) → IsValue t
value_noted (var n) h = h
value_noted (literal l) h = h
value_noted (send r s ts) h = h
value_noted (cascade r ms) h = h
value_noted (assign n t) h = h
value_noted (block ps ts ss e) h = h
value_noted (brace ts) h = h
value_noted (return t) h = h

return_bare : (t : TreeOf Text) (ss : StatementsOf Text) → IsStatement (return t) ss → IsStatement (return (bare t)) (bare_statements ss)
return_bare t no_statements h = h
return_bare t (more_statements c u ss) h = h

return_noted : (t : TreeOf Text) (ss : StatementsOf Text) → IsStatement (return (bare t)) (bare_statements ss) → IsStatement (return t) ss
return_noted t no_statements h = h
return_noted t (more_statements c u ss) h = h

statement_bare : (t : TreeOf Text) (ss : StatementsOf Text) → IsStatement t ss → IsStatement (bare t) (bare_statements ss)
statement_bare (var n) ss h = h
statement_bare (literal l) ss h = h
statement_bare (send r s ts) ss h = h
statement_bare (cascade r ms) ss h = h
statement_bare (assign n t) ss h = h
statement_bare (block ps ts rs e) ss h = h
statement_bare (brace ts) ss h = h
statement_bare (return t) ss h = return_bare t ss h

statement_noted : (t : TreeOf Text) (ss : StatementsOf Text) → IsStatement (bare t) (bare_statements ss) → IsStatement t ss
statement_noted (var n) ss h = h
statement_noted (literal l) ss h = h
statement_noted (send r s ts) ss h = h
statement_noted (cascade r ms) ss h = h
statement_noted (assign n t) ss h = h
statement_noted (block ps ts rs e) ss h = h
statement_noted (brace ts) ss h = h
statement_noted (return t) ss h = return_noted t ss h

two_bare : (ms : MessagesOf Text) → AreTwo ms → AreTwo (bare_messages ms)
two_bare no_messages h = h
two_bare (more_messages s xs no_messages) h = h
two_bare (more_messages s xs (more_messages t ys ms)) h = h

two_noted : (ms : MessagesOf Text) → AreTwo (bare_messages ms) → AreTwo ms
two_noted no_messages h = h
two_noted (more_messages s xs no_messages) h = h
two_noted (more_messages s xs (more_messages t ys ms)) h = h

count_bare : (ts : TreesOf Text) → SameCount ts (bare_trees ts)
count_bare no_trees = tt
count_bare (more_trees t ts) = count_bare ts

count_noted : (ts : TreesOf Text) → SameCount (bare_trees ts) ts
count_noted no_trees = tt
count_noted (more_trees t ts) = count_noted ts

-- a proper tree is so without comments
mutual
  tree_bare : (t : TreeOf Text) (ks : List Known) → IsProper ks t → IsProper ks (bare t)
  tree_bare (var n) ks h = h
  tree_bare (literal l) ks h = h
  tree_bare (send r s xs) ks h = (tree_bare r ks h.0, no_return_bare r h.1, fits_same h.2 (bare_trees xs) (count_bare xs), trees_bare xs ks h.3)
  tree_bare (cascade r ms) ks h = (tree_bare r ks h.0, value_bare r h.1, two_bare ms h.2, messages_bare ms ks h.3)
  tree_bare (assign n t) ks h = (h.0, h.1, h.2, tree_bare t ks h.3, value_bare t h.4)
  tree_bare (block ps ds ss c) ks h = (h.0, h.1, h.2, lines_bare ss (known_names ps ds ++ ks) h.3, tt)
  tree_bare (brace ts) ks h = trees_bare ts ks h
  tree_bare (return t) ks h = (tree_bare t ks h.0, value_bare t h.1)

  trees_bare : (ts : TreesOf Text) (ks : List Known) → AreProper ks ts → AreProper ks (bare_trees ts)
  trees_bare no_trees ks h = tt
  trees_bare (more_trees t ts) ks h = (tree_bare t ks h.0, value_bare t h.1, trees_bare ts ks h.2)

  messages_bare : (ms : MessagesOf Text) (ks : List Known) → AreProperMessages ks ms → AreProperMessages ks (bare_messages ms)
  messages_bare no_messages ks h = tt
  messages_bare (more_messages s xs ms) ks h = (fits_same h.0 (bare_trees xs) (count_bare xs), trees_bare xs ks h.1, messages_bare ms ks h.2)

  pub lines_bare : (ss : StatementsOf Text) (ks : List Known) → AreProperStatements ks ss → AreProperStatements ks (bare_statements ss)
  lines_bare no_statements ks h = tt
  lines_bare (more_statements c t ss) ks h = (tt, tree_bare t ks h.1, statement_bare t ss h.2, lines_bare ss ks h.3)

-- and its comments are
mutual
  tree_notes : (t : TreeOf Text) (ks : List Known) → IsProper ks t → HasNotes t
  tree_notes (var n) ks h = tt
  tree_notes (literal l) ks h = tt
  tree_notes (send r s xs) ks h = (tree_notes r ks h.0, trees_notes xs ks h.3)
  tree_notes (cascade r ms) ks h = (tree_notes r ks h.0, messages_notes ms ks h.3)
  tree_notes (assign n t) ks h = tree_notes t ks h.3
  tree_notes (block ps ds ss c) ks h = (lines_notes ss (known_names ps ds ++ ks) h.3, h.4)
  tree_notes (brace ts) ks h = trees_notes ts ks h
  tree_notes (return t) ks h = tree_notes t ks h.0

  trees_notes : (ts : TreesOf Text) (ks : List Known) → AreProper ks ts → TreesNotes ts
  trees_notes no_trees ks h = tt
  trees_notes (more_trees t ts) ks h = (tree_notes t ks h.0, trees_notes ts ks h.2)

  messages_notes : (ms : MessagesOf Text) (ks : List Known) → AreProperMessages ks ms → MessagesNotes ms
  messages_notes no_messages ks h = tt
  messages_notes (more_messages s xs ms) ks h = (trees_notes xs ks h.1, messages_notes ms ks h.2)

  pub lines_notes : (ss : StatementsOf Text) (ks : List Known) → AreProperStatements ks ss → LinesNotes ss
  lines_notes no_statements ks h = tt
  lines_notes (more_statements c t ss) ks h = (h.0, tree_notes t ks h.1, lines_notes ss ks h.3)

-- the other way round
mutual
  tree_noted : (t : TreeOf Text) (ks : List Known) → IsProper ks (bare t) → HasNotes t → IsProper ks t
  tree_noted (var n) ks h g = h
  tree_noted (literal l) ks h g = h
  tree_noted (send r s xs) ks h g = (tree_noted r ks h.0 g.0, no_return_noted r h.1, fits_same h.2 xs (count_noted xs), trees_noted xs ks h.3 g.1)
  tree_noted (cascade r ms) ks h g = (tree_noted r ks h.0 g.0, value_noted r h.1, two_noted ms h.2, messages_noted ms ks h.3 g.1)
  tree_noted (assign n t) ks h g = (h.0, h.1, h.2, tree_noted t ks h.3 g, value_noted t h.4)
  tree_noted (block ps ds ss c) ks h g = (h.0, h.1, h.2, lines_noted ss (known_names ps ds ++ ks) h.3 g.0, g.1)
  tree_noted (brace ts) ks h g = trees_noted ts ks h g
  tree_noted (return t) ks h g = (tree_noted t ks h.0 g, value_noted t h.1)

  trees_noted : (ts : TreesOf Text) (ks : List Known) → AreProper ks (bare_trees ts) → TreesNotes ts → AreProper ks ts
  trees_noted no_trees ks h g = tt
  trees_noted (more_trees t ts) ks h g = (tree_noted t ks h.0 g.0, value_noted t h.1, trees_noted ts ks h.2 g.1)

  messages_noted : (ms : MessagesOf Text) (ks : List Known) → AreProperMessages ks (bare_messages ms) → MessagesNotes ms → AreProperMessages ks ms
  messages_noted no_messages ks h g = tt
  messages_noted (more_messages s xs ms) ks h g = (fits_same h.0 xs (count_noted xs), trees_noted xs ks h.1 g.0, messages_noted ms ks h.2 g.1)

  pub lines_noted : (ss : StatementsOf Text) (ks : List Known) → AreProperStatements ks (bare_statements ss) → LinesNotes ss → AreProperStatements ks ss
  lines_noted no_statements ks h g = tt
  lines_noted (more_statements c t ss) ks h g = (g.0, tree_noted t ks h.1 g.1, statement_noted t ss h.2, lines_noted ss ks h.3 g.2)
