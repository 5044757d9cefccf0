-- Syntax trees as data, over any type of names: numbers in the program, texts where a tree is read or written.
use Rattle.std.specs.Prelude.{ℕ, List, [], ◌∷◌, map, Option}

-- comments in order, each by its bytes
abbrev pub Notes : Type 0
Notes = List (List ℕ)

mutual
  -- a literal; a word is nil, true or false inside an array
  pub data LiteralOf (N : Type 0) : Type 0 where
    number : List ℕ → LiteralOf N
    str : List ℕ → LiteralOf N
    symbol : List ℕ → LiteralOf N
    char : ℕ → LiteralOf N
    array : LiteralsOf N → LiteralOf N
    bytes : LiteralsOf N → LiteralOf N
    word : N → LiteralOf N

  -- literals in order
  pub data LiteralsOf (N : Type 0) : Type 0 where
    no_literals : LiteralsOf N
    more_literals : LiteralOf N → LiteralsOf N → LiteralsOf N

mutual
  -- an expression or a return; a block has its parameters, its temporaries, its statements and the comments at its end
  pub data TreeOf (N : Type 0) : Type 0 where
    var : N → TreeOf N
    literal : LiteralOf N → TreeOf N
    send : TreeOf N → N → TreesOf N → TreeOf N
    cascade : TreeOf N → MessagesOf N → TreeOf N
    assign : N → TreeOf N → TreeOf N
    block : List N → List N → StatementsOf N → Notes → TreeOf N
    brace : TreesOf N → TreeOf N
    return : TreeOf N → TreeOf N

  -- trees in order
  pub data TreesOf (N : Type 0) : Type 0 where
    no_trees : TreesOf N
    more_trees : TreeOf N → TreesOf N → TreesOf N

  -- messages in order, each a selector and its arguments
  pub data MessagesOf (N : Type 0) : Type 0 where
    no_messages : MessagesOf N
    more_messages : N → TreesOf N → MessagesOf N → MessagesOf N

  -- statements in order, each with the comments before and inside it
  pub data StatementsOf (N : Type 0) : Type 0 where
    no_statements : StatementsOf N
    more_statements : Notes → TreeOf N → StatementsOf N → StatementsOf N

-- temporaries, statements, and the comments at the end
pub record SequenceOf (N : Type 0) : Type 0 where
  pub temporaries : List N
  pub statements : StatementsOf N
  pub tail : Notes

-- a method: its selector and arguments, the comments before its body, the number of its primitive, and its body
pub record MethodOf (N : Type 0) : Type 0 where
  pub selector : N
  pub arguments : List N
  pub head : Notes
  pub primitive : Option ℕ
  pub body : SequenceOf N

-- the literals of a list
abbrev pub literals_of : {N : Type 0} → List (LiteralOf N) → LiteralsOf N
literals_of [] = no_literals
literals_of (l ∷ ls) = more_literals l (literals_of ls)

-- the trees of a list
abbrev pub trees_of : {N : Type 0} → List (TreeOf N) → TreesOf N
trees_of [] = no_trees
trees_of (t ∷ ts) = more_trees t (trees_of ts)

-- the same literal with each name changed
abbrev mutual
  pub map_literal : {M N : Type 0} → (M → N) → LiteralOf M → LiteralOf N
  map_literal f (number t) = number t
  map_literal f (str t) = str t
  map_literal f (symbol t) = symbol t
  map_literal f (char b) = char b
  map_literal f (array ls) = array (map_literals f ls)
  map_literal f (bytes ls) = bytes (map_literals f ls)
  map_literal f (word n) = word (f n)

  pub map_literals : {M N : Type 0} → (M → N) → LiteralsOf M → LiteralsOf N
  map_literals f no_literals = no_literals
  map_literals f (more_literals l ls) = more_literals (map_literal f l) (map_literals f ls)

-- the same tree with each name changed
abbrev mutual
  pub map_names : {M N : Type 0} → (M → N) → TreeOf M → TreeOf N
  map_names f (var n) = var (f n)
  map_names f (literal l) = literal (map_literal f l)
  map_names f (send r s args) = send (map_names f r) (f s) (map_trees f args)
  map_names f (cascade r ms) = cascade (map_names f r) (map_messages f ms)
  map_names f (assign n t) = assign (f n) (map_names f t)
  map_names f (block ps ts ss e) = block (map f ps) (map f ts) (map_statements f ss) e
  map_names f (brace ts) = brace (map_trees f ts)
  map_names f (return t) = return (map_names f t)

  pub map_trees : {M N : Type 0} → (M → N) → TreesOf M → TreesOf N
  map_trees f no_trees = no_trees
  map_trees f (more_trees t ts) = more_trees (map_names f t) (map_trees f ts)

  pub map_messages : {M N : Type 0} → (M → N) → MessagesOf M → MessagesOf N
  map_messages f no_messages = no_messages
  map_messages f (more_messages s args ms) = more_messages (f s) (map_trees f args) (map_messages f ms)

  pub map_statements : {M N : Type 0} → (M → N) → StatementsOf M → StatementsOf N
  map_statements f no_statements = no_statements
  map_statements f (more_statements c t ss) = more_statements c (map_names f t) (map_statements f ss)

-- the same sequence with each name changed
abbrev pub map_sequence : {M N : Type 0} → (M → N) → SequenceOf M → SequenceOf N
map_sequence f b = record { temporaries = map f b.temporaries; statements = map_statements f b.statements; tail = b.tail }

-- the same method with each name changed
abbrev pub map_method : {M N : Type 0} → (M → N) → MethodOf M → MethodOf N
map_method f m =
    record { selector = f m.selector; arguments = map f m.arguments; head = m.head; primitive = m.primitive; body = map_sequence f m.body }
