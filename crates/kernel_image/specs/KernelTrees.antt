-- Short words for the code of the kernel.
use Prim.Native.String.{String}
use Rattle.std.specs.Prelude.{ℕ, List, [], ◌∷◌, map, Option, Some, None, codes}
use Rattle.tree_model.specs.Tree.{number, str, TreeOf, var, literal, send, assign, block, return, no_trees, more_trees, trees_of, MessagesOf, more_messages, StatementsOf, no_statements, more_statements, SequenceOf, MethodOf}
use Rattle.file_model.specs.Filing.{Text}

-- texts
abbrev all_codes : List String → List Text
all_codes xs = map codes xs

-- a name by itself
abbrev pub name : String → TreeOf Text
name s = var (codes s)

abbrev pub self : TreeOf Text
self = name "self"

-- a numeral
abbrev pub numeral : String → TreeOf Text
numeral s = literal (number (codes s))

-- a string
abbrev pub quoted : String → TreeOf Text
quoted s = literal (str (codes s))

-- a message without arguments
abbrev pub unary : TreeOf Text → String → TreeOf Text
unary r s = send r (codes s) no_trees

-- a message with one argument
abbrev pub one : TreeOf Text → String → TreeOf Text → TreeOf Text
one r s x = send r (codes s) (more_trees x no_trees)

-- a message with these arguments
abbrev pub more : TreeOf Text → String → List (TreeOf Text) → TreeOf Text
more r s xs = send r (codes s) (trees_of xs)

-- a message of a cascade, before others
abbrev pub sends : String → List (TreeOf Text) → MessagesOf Text → MessagesOf Text
sends s xs ms = more_messages (codes s) (trees_of xs) ms

-- an assignment
abbrev pub sets : String → TreeOf Text → TreeOf Text
sets n t = assign (codes n) t

-- statements in order, without comments
abbrev in_order : List (TreeOf Text) → StatementsOf Text
in_order [] = no_statements
in_order (t ∷ ts) = more_statements [] t (in_order ts)

-- a block with these parameters and statements
abbrev pub inside : List String → List (TreeOf Text) → TreeOf Text
inside parameters ts = block (all_codes parameters) [] (in_order ts) []

-- a block of one statement, without parameters
abbrev pub block_of : TreeOf Text → TreeOf Text
block_of t = inside [] (t ∷ [])

-- a block of one statement, with one parameter
abbrev pub each : String → TreeOf Text → TreeOf Text
each parameter t = inside (parameter ∷ []) (t ∷ [])

-- temporaries and statements
abbrev sequence : List String → List (TreeOf Text) → SequenceOf Text
sequence temporaries ts = record { temporaries = all_codes temporaries; statements = in_order ts; tail = [] }

-- a method without comments, by its selector and its arguments
abbrev with_body : String → List String → Option ℕ → SequenceOf Text → MethodOf Text
with_body s xs p b = record { selector = codes s; arguments = all_codes xs; head = []; primitive = p; body = b }

-- a method that is a primitive
abbrev pub primitive : ℕ → String → List String → MethodOf Text
primitive n s xs = with_body s xs (Some n) (sequence [] [])

-- a method with temporaries and statements
abbrev pub method : String → List String → List String → List (TreeOf Text) → MethodOf Text
method s xs temporaries ts = with_body s xs None (sequence temporaries ts)

-- a method of one statement
abbrev pub does : String → List String → TreeOf Text → MethodOf Text
does s xs t = method s xs [] (t ∷ [])

-- a method that answers an expression
abbrev pub answers : String → List String → TreeOf Text → MethodOf Text
answers s xs t = does s xs (return t)
