-- How high a tree is, how many nodes it has, and how many constructors.
use Rattle.std.specs.Prelude.{ℕ, ◌+◌, max}
use Rattle.tree_model.specs.Tree.{LiteralOf, number, str, symbol, char, array, bytes, word, LiteralsOf, no_literals, more_literals, TreeOf, var, literal, send, cascade, assign, block, brace, return, TreesOf, no_trees, more_trees, MessagesOf, no_messages, more_messages, StatementsOf, no_statements, more_statements, SequenceOf, MethodOf}

-- a literal has height 1, but an array one more than its highest element
abbrev mutual
  pub literal_height : {N : Type 0} → LiteralOf N → ℕ
  literal_height (number t) = 1
  literal_height (str t) = 1
  literal_height (symbol t) = 1
  literal_height (char b) = 1
  literal_height (array ls) = literals_height ls + 1
  literal_height (bytes ls) = 1
  literal_height (word n) = 1

  pub literals_height : {N : Type 0} → LiteralsOf N → ℕ
  literals_height no_literals = 0
  literals_height (more_literals l ls) = max (literal_height l) (literals_height ls)

-- a variable has height 1, a literal its own, and any other node one more than the highest node in it; a message of a cascade adds none
abbrev mutual
  pub height : {N : Type 0} → TreeOf N → ℕ
  height (var n) = 1
  height (literal l) = literal_height l
  height (send r s args) = max (height r) (trees_height args) + 1
  height (cascade r ms) = max (height r) (messages_height ms) + 1
  height (assign n t) = height t + 1
  height (block ps ts ss e) = statements_height ss + 1
  height (brace ts) = trees_height ts + 1
  height (return t) = height t + 1

  pub trees_height : {N : Type 0} → TreesOf N → ℕ
  trees_height no_trees = 0
  trees_height (more_trees t ts) = max (height t) (trees_height ts)

  pub messages_height : {N : Type 0} → MessagesOf N → ℕ
  messages_height no_messages = 0
  messages_height (more_messages s args ms) = max (trees_height args) (messages_height ms)

  pub statements_height : {N : Type 0} → StatementsOf N → ℕ
  statements_height no_statements = 0
  statements_height (more_statements c t ss) = max (height t) (statements_height ss)

-- a sequence has the height of its highest statement, and 0 where it has none
abbrev pub sequence_height : {N : Type 0} → SequenceOf N → ℕ
sequence_height b = statements_height b.statements

-- how many nodes a tree has; a literal is one
abbrev mutual
  pub size : {N : Type 0} → TreeOf N → ℕ
  size (var n) = 1
  size (literal l) = 1
  size (send r s args) = size r + trees_size args + 1
  size (cascade r ms) = size r + messages_size ms + 1
  size (assign n t) = size t + 1
  size (block ps ts ss e) = statements_size ss + 1
  size (brace ts) = trees_size ts + 1
  size (return t) = size t + 1

  pub trees_size : {N : Type 0} → TreesOf N → ℕ
  trees_size no_trees = 0
  trees_size (more_trees t ts) = size t + trees_size ts

  pub messages_size : {N : Type 0} → MessagesOf N → ℕ
  messages_size no_messages = 0
  messages_size (more_messages s args ms) = trees_size args + messages_size ms

  pub statements_size : {N : Type 0} → StatementsOf N → ℕ
  statements_size no_statements = 0
  statements_size (more_statements c t ss) = size t + statements_size ss

-- how many nodes a sequence has
abbrev pub sequence_size : {N : Type 0} → SequenceOf N → ℕ
sequence_size b = statements_size b.statements

-- how many nodes a method has
abbrev pub method_size : {N : Type 0} → MethodOf N → ℕ
method_size m = sequence_size m.body

-- how many constructors a literal has, by which each part is smaller than the whole
abbrev mutual
  pub literal_weight : {N : Type 0} → LiteralOf N → ℕ
  literal_weight (number t) = 1
  literal_weight (str t) = 1
  literal_weight (symbol t) = 1
  literal_weight (char b) = 1
  literal_weight (array ls) = literals_weight ls + 1
  literal_weight (bytes ls) = literals_weight ls + 1
  literal_weight (word n) = 1

  pub literals_weight : {N : Type 0} → LiteralsOf N → ℕ
  literals_weight no_literals = 1
  literals_weight (more_literals l ls) = literal_weight l + literals_weight ls + 1

-- how many constructors a tree has, by which each part is smaller than the whole
abbrev mutual
  pub weight : {N : Type 0} → TreeOf N → ℕ
  weight (var n) = 1
  weight (literal l) = 1
  weight (send r s args) = weight r + trees_weight args + 1
  weight (cascade r ms) = weight r + messages_weight ms + 1
  weight (assign n t) = weight t + 1
  weight (block ps ts ss e) = statements_weight ss + 1
  weight (brace ts) = trees_weight ts + 1
  weight (return t) = weight t + 1

  pub trees_weight : {N : Type 0} → TreesOf N → ℕ
  trees_weight no_trees = 1
  trees_weight (more_trees t ts) = weight t + trees_weight ts + 1

  pub messages_weight : {N : Type 0} → MessagesOf N → ℕ
  messages_weight no_messages = 1
  messages_weight (more_messages s args ms) = trees_weight args + messages_weight ms + 1

  pub statements_weight : {N : Type 0} → StatementsOf N → ℕ
  statements_weight no_statements = 1
  statements_weight (more_statements c t ss) = weight t + statements_weight ss + 1
