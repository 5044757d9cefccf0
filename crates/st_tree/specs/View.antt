-- What the program's trees, sequences and methods stand for.
use Rattle.std.specs.Prelude.{ℕ, List, [], ◌∷◌}
use Rattle.tree_model.specs.Tree.{TreeOf, var, literal, send, cascade, assign, block, brace, return, TreesOf, trees_of, MessagesOf, no_messages, more_messages, StatementsOf, no_statements, more_statements, SequenceOf, MethodOf}
use Rattle.st_tree.specs.declared.tree.NodeKind.{NodeKind}
use Rattle.st_tree.specs.declared.tree.NodeKind.TheVariants as kind
use Rattle.st_tree.specs.declared.tree.Message.{Message}
use Rattle.st_tree.specs.declared.tree.Statement.{Statement}
use Rattle.st_tree.specs.declared.tree.Sequence.{Sequence}
use Rattle.st_tree.specs.declared.tree.Method.{Method}

-- the abstract messages
abbrev pub messages_of : List Message → MessagesOf ℕ
messages_of [] = no_messages
messages_of (m ∷ ms) = more_messages m.selector (trees_of m.arguments) (messages_of ms)

-- the abstract statements
abbrev pub statements_of : List Statement → StatementsOf ℕ
statements_of [] = no_statements
statements_of (s ∷ ss) = more_statements s.comments s.node (statements_of ss)

-- the abstract tree of a node
abbrev pub tree_of : NodeKind → TreeOf ℕ
tree_of (kind.Var n) = var n
tree_of (kind.Literal l) = literal l
tree_of (kind.Send r s args) = send r.value s (trees_of args)
tree_of (kind.Cascade r ms) = cascade r.value (messages_of ms)
tree_of (kind.Assign n t) = assign n t.value
tree_of (kind.Block ps body) = block ps body.value.temporaries (statements_of body.value.statements) body.value.tail
tree_of (kind.Brace ts) = brace (trees_of ts)
tree_of (kind.Return t) = return t.value

-- the abstract sequence
abbrev pub sequence_of : Sequence → SequenceOf ℕ
sequence_of b = record { temporaries = b.temporaries; statements = statements_of b.statements; tail = b.tail }

-- the abstract method
abbrev pub method_of : Method → MethodOf ℕ
method_of m = record { selector = m.selector; arguments = m.arguments; head = m.head; primitive = m.primitive; body = sequence_of m.body }

-- the statements that stand for these
abbrev pub statements_from : StatementsOf ℕ → List Statement
statements_from no_statements = []
statements_from (more_statements c t ss) = record { comments = c; node = t } ∷ statements_from ss

-- the sequence that stands for this
abbrev pub sequence_from : SequenceOf ℕ → Sequence
sequence_from b = record { temporaries = b.temporaries; statements = statements_from b.statements; tail = b.tail }

-- the method that stands for this
abbrev pub method_from : MethodOf ℕ → Method
method_from m = record { selector = m.selector; arguments = m.arguments; head = m.head; primitive = m.primitive; body = sequence_from m.body }
