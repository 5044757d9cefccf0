-- Short words for trees in tables, and the rows of the tables.
use Prim.Native.String.{String}
use Rattle.std.specs.Prelude.{ℕ, List, [], map, Option, codes}
use Rattle.tree_model.specs.Tree.{number, TreeOf, var, literal, send, block, no_trees, more_trees, trees_of, MessagesOf, more_messages, StatementsOf, more_statements, SequenceOf, MethodOf}

-- bytes of a text, in order
abbrev pub Text : Type 0
Text = List ℕ

-- texts
abbrev all_codes : List String → List Text
all_codes xs = map codes xs

-- a variable
abbrev pub name : String → TreeOf Text
name s = var (codes s)

-- a numeral
abbrev pub numeral : String → TreeOf Text
numeral s = literal (number (codes s))

-- a send without arguments
abbrev pub unary : TreeOf Text → String → TreeOf Text
unary r s = send r (codes s) no_trees

-- a send with one argument
abbrev pub one : TreeOf Text → String → TreeOf Text → TreeOf Text
one r s x = send r (codes s) (more_trees x no_trees)

-- a send with these arguments
abbrev pub more : TreeOf Text → String → List (TreeOf Text) → TreeOf Text
more r s xs = send r (codes s) (trees_of xs)

-- a message of a cascade, before others
abbrev pub sends : String → List (TreeOf Text) → MessagesOf Text → MessagesOf Text
sends s xs ms = more_messages (codes s) (trees_of xs) ms

-- a block with its parameters, temporaries, statements and the comments at its end
abbrev pub inside : List String → List String → StatementsOf Text → List String → TreeOf Text
inside ps ts ss e = block (all_codes ps) (all_codes ts) ss (all_codes e)

-- a statement without comments, before others
abbrev pub line : TreeOf Text → StatementsOf Text → StatementsOf Text
line t ss = more_statements [] t ss

-- a statement with comments, before others
abbrev pub noted : List String → TreeOf Text → StatementsOf Text → StatementsOf Text
noted cs t ss = more_statements (all_codes cs) t ss

-- a sequence: its temporaries, its statements, and the comments at its end
abbrev pub sequence : List String → StatementsOf Text → List String → SequenceOf Text
sequence ts ss e = record { temporaries = all_codes ts; statements = ss; tail = all_codes e }

-- a method: its selector, arguments, head, primitive and body
abbrev pub method : String → List String → List String → Option ℕ → SequenceOf Text → MethodOf Text
method s as' head p b = record { selector = codes s; arguments = all_codes as'; head = all_codes head; primitive = p; body = b }

-- a do-it and its canonical text
pub record DoItRow : Type 0 where
  pub tree : SequenceOf Text
  pub text : Text

-- a row of a table
abbrev pub doit_row : SequenceOf Text → String → DoItRow
doit_row t s = record { tree = t; text = codes s }

-- a method and its canonical text
pub record MethodRow : Type 0 where
  pub tree : MethodOf Text
  pub text : Text

-- a row of a table
abbrev pub method_row : MethodOf Text → String → MethodRow
method_row t s = record { tree = t; text = codes s }
