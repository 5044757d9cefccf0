-- What becomes of a node, or a list in it, when what is one step down is lent and written.
use Rattle.std.specs.Prelude.{ℕ, List, Option}
use Rattle.std.specs.Borrow.{LendsIf, MutBor, Fml}
use Rattle.tree_model.specs.Tree.{TreeOf}
use Rattle.st_tree.specs.View.{tree_of}
use Rattle.st_tree.specs.declared.tree.Message.{Message}
use Rattle.st_tree.specs.declared.tree.Statement.{Statement}
use Rattle.st_tree.specs.declared.tree.Sequence.{Sequence}
use Rattle.st_tree.specs.declared.tree.NodeKind.{NodeKind}
use Rattle.st_tree.specs.contracts.tree.Node as node
use Rattle.st_tree.specs.contracts.tree.NodeKind as kinds
use Rattle.st_tree.specs.contracts.tree.Nodes as nodes
use Rattle.st_tree.specs.contracts.tree.Message as message
use Rattle.st_tree.specs.contracts.tree.Messages as messages
use Rattle.st_tree.specs.contracts.tree.Statement as statement
use Rattle.st_tree.specs.contracts.tree.Statements as statements
use Rattle.st_tree.specs.contracts.tree.Sequence as sequence
use Rattle.tree_lending.specs.Kinds.{statements_with, sequence_with, messages_with, kind_with, with_first, with_arguments, with_cascaded, with_items, with_body, send_with, cascade_with, brace_with, block_with}

-- the message ends with the last value behind r as its arguments
abbrev pub LendsArguments : MutBor Message → Option (MutBor (List (TreeOf ℕ))) → Fml
LendsArguments s r = LendsIf message.the_row nodes.the_row s r (λ w. record s.now { arguments = w }) s.now

-- the messages end with the last value behind r as the argument of a number
abbrev pub LendsArgument : MutBor (List Message) → ℕ → Option (MutBor (TreeOf ℕ)) → Fml
LendsArgument s k r = LendsIf messages.the_row node.the_row s r (messages_with s.now k) s.now

-- the statement ends with the last value behind r as its node
abbrev pub LendsNodeOf : MutBor Statement → Option (MutBor (TreeOf ℕ)) → Fml
LendsNodeOf s r = LendsIf statement.the_row node.the_row s r (λ w. record s.now { node = w }) s.now

-- the statements end with the last value behind r as the node of the statement of a number
abbrev pub LendsStatement : MutBor (List Statement) → ℕ → Option (MutBor (TreeOf ℕ)) → Fml
LendsStatement s k r = LendsIf statements.the_row node.the_row s r (statements_with s.now k) s.now

-- the sequence ends with the last value behind r as its statements
abbrev pub LendsStatements : MutBor Sequence → Option (MutBor (List Statement)) → Fml
LendsStatements s r = LendsIf sequence.the_row statements.the_row s r (λ w. record s.now { statements = w }) s.now

-- the sequence ends with the last value behind r as the node of the statement of a number
abbrev pub LendsStatementNode : MutBor Sequence → ℕ → Option (MutBor (TreeOf ℕ)) → Fml
LendsStatementNode s k r = LendsIf sequence.the_row node.the_row s r (sequence_with s.now k) s.now

-- the node ends with the last value behind r as its receiver or value
abbrev pub LendsFirst : MutBor NodeKind → Option (MutBor (TreeOf ℕ)) → Fml
LendsFirst s r = LendsIf kinds.the_row node.the_row s r (with_first s.now) s.now

-- the send ends with the last value behind r as its arguments
abbrev pub LendsSendArguments : MutBor NodeKind → Option (MutBor (List (TreeOf ℕ))) → Fml
LendsSendArguments s r = LendsIf kinds.the_row nodes.the_row s r (with_arguments s.now) s.now

-- the cascade ends with the last value behind r as its messages
abbrev pub LendsCascaded : MutBor NodeKind → Option (MutBor (List Message)) → Fml
LendsCascaded s r = LendsIf kinds.the_row messages.the_row s r (with_cascaded s.now) s.now

-- the brace array ends with the last value behind r as its items
abbrev pub LendsItems : MutBor NodeKind → Option (MutBor (List (TreeOf ℕ))) → Fml
LendsItems s r = LendsIf kinds.the_row nodes.the_row s r (with_items s.now) s.now

-- the block ends with the last value behind r as its body
abbrev pub LendsBody : MutBor NodeKind → Option (MutBor Sequence) → Fml
LendsBody s r = LendsIf kinds.the_row sequence.the_row s r (with_body s.now) s.now

-- the send ends with the last value behind r as the argument of a number
abbrev pub LendsSendChild : MutBor NodeKind → ℕ → Option (MutBor (TreeOf ℕ)) → Fml
LendsSendChild s k r = LendsIf kinds.the_row node.the_row s r (send_with s.now k) s.now

-- the cascade ends with the last value behind r as the argument of a number
abbrev pub LendsCascadeChild : MutBor NodeKind → ℕ → Option (MutBor (TreeOf ℕ)) → Fml
LendsCascadeChild s k r = LendsIf kinds.the_row node.the_row s r (cascade_with s.now k) s.now

-- the brace array ends with the last value behind r as the item of a number
abbrev pub LendsBraceChild : MutBor NodeKind → ℕ → Option (MutBor (TreeOf ℕ)) → Fml
LendsBraceChild s k r = LendsIf kinds.the_row node.the_row s r (brace_with s.now k) s.now

-- the block ends with the last value behind r as the node of the statement of a number
abbrev pub LendsBlockChild : MutBor NodeKind → ℕ → Option (MutBor (TreeOf ℕ)) → Fml
LendsBlockChild s k r = LendsIf kinds.the_row node.the_row s r (block_with s.now k) s.now

-- the node ends with the last value behind r where one step leads
abbrev pub LendsChild : MutBor NodeKind → ℕ → Option (MutBor (TreeOf ℕ)) → Fml
LendsChild s k r = LendsIf kinds.the_row node.the_row s r (kind_with s.now k) s.now

-- the node ends as the last value behind r
abbrev pub LendsKind : MutBor (TreeOf ℕ) → Option (MutBor NodeKind) → Fml
LendsKind s r = LendsIf node.the_row kinds.the_row s r tree_of s.now
