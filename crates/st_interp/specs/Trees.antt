-- The program's trees over texts, where `names` are the texts of their names.
use Rattle.std.specs.Prelude.{ℕ, List, map}
use Rattle.rb_base.specs.Names.{name_at}
use Rattle.tree_model.specs.Tree.{LiteralOf, LiteralsOf, literals_of, TreeOf, TreesOf, trees_of, MessagesOf, StatementsOf, SequenceOf, map_literal, map_literals, map_names, map_trees, map_messages, map_statements, map_sequence}
use Rattle.st_tree.specs.View.{messages_of, statements_of, sequence_of}
use Rattle.st_tree.specs.declared.tree.Message.{Message}
use Rattle.st_tree.specs.declared.tree.Statement.{Statement}
use Rattle.st_tree.specs.declared.tree.Sequence.{Sequence}
use Rattle.run_model.specs.Values.{Name}

-- the texts of numbers
abbrev pub texts_at : List Name → List ℕ → List Name
texts_at names ns = map (name_at names) ns

-- a literal
abbrev pub literal_at : List Name → LiteralOf ℕ → LiteralOf Name
literal_at names l = map_literal (name_at names) l

-- literals in order
abbrev pub literals_at : List Name → List (LiteralOf ℕ) → LiteralsOf Name
literals_at names ls = map_literals (name_at names) (literals_of ls)

-- a tree
abbrev pub tree_at : List Name → TreeOf ℕ → TreeOf Name
tree_at names t = map_names (name_at names) t

-- trees in order
abbrev pub trees_at : List Name → List (TreeOf ℕ) → TreesOf Name
trees_at names ts = map_trees (name_at names) (trees_of ts)

-- messages in order
abbrev pub messages_at : List Name → List Message → MessagesOf Name
messages_at names ms = map_messages (name_at names) (messages_of ms)

-- statements in order
abbrev pub statements_at : List Name → List Statement → StatementsOf Name
statements_at names ss = map_statements (name_at names) (statements_of ss)

-- a sequence
abbrev pub sequence_at : List Name → Sequence → SequenceOf Name
sequence_at names b = map_sequence (name_at names) (sequence_of b)
