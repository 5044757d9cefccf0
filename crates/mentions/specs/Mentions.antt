-- The names that code mentions: those that it reads, assigns, sends and declares, and the words in its literals.
use Rattle.std.specs.Prelude.{List, [], ◌∷◌, ◌++◌, map}
use Rattle.std.specs.List.{flat_map}
use Rattle.tree_model.specs.Tree.{LiteralOf, number, str, symbol, char, array, bytes, word, LiteralsOf, no_literals, more_literals, TreeOf, var, literal, send, cascade, assign, block, brace, return, MessagesOf, no_messages, more_messages, SequenceOf, MethodOf}
use Rattle.tree_model.specs.Nodes.{Placed, nodes}

-- the words in a literal
abbrev mutual
  pub words_in : {N : Type 0} → LiteralOf N → List N
  words_in (number t) = []
  words_in (str t) = []
  words_in (symbol t) = []
  words_in (char b) = []
  words_in (array ls) = words_in_all ls
  words_in (bytes ls) = words_in_all ls
  words_in (word n) = n ∷ []

  pub words_in_all : {N : Type 0} → LiteralsOf N → List N
  words_in_all no_literals = []
  words_in_all (more_literals l ls) = words_in l ++ words_in_all ls

-- the selectors of messages
abbrev pub selectors_of : {N : Type 0} → MessagesOf N → List N
selectors_of no_messages = []
selectors_of (more_messages s args ms) = s ∷ selectors_of ms

-- the names that stand in a node itself, and not in the nodes below it
abbrev pub own_names : {N : Type 0} → TreeOf N → List N
own_names (var n) = n ∷ []
own_names (literal l) = words_in l
own_names (send r s args) = s ∷ []
own_names (cascade r ms) = selectors_of ms
own_names (assign n t) = n ∷ []
own_names (block ps ts ss e) = ps ++ ts
own_names (brace ts) = []
own_names (return t) = []

-- nodes without their paths
abbrev pub trees_of_nodes : {N : Type 0} → List (Placed N) → List (TreeOf N)
trees_of_nodes es = map (λ e. e.1) es

-- the names that a sequence mentions: its temporaries, and those in its nodes, each as often as it stands there
abbrev pub code_names : {N : Type 0} → SequenceOf N → List N
code_names b = b.temporaries ++ flat_map own_names (trees_of_nodes (nodes b))

-- the names that a method mentions: its selector, its arguments, and those in its body
abbrev pub method_names : {N : Type 0} → MethodOf N → List N
method_names m = m.selector ∷ m.arguments ++ code_names m.body
