-- What stands right below a node of the program, and the same node with another part there.
use Rattle.std.specs.Prelude.{Bool, true, false, ℕ, zero, suc, ◌-◌, List, [], ◌∷◌, length, nat_lt, if◌then◌else◌, Option, Some, None, slice_set, slice_get}
use Rattle.tree_model.specs.Tree.{TreeOf}
use Rattle.tree_model.specs.Path.{nth, all_arguments, statement_trees}
use Rattle.st_tree.specs.View.{messages_of, statements_of}
use Rattle.st_tree.specs.declared.tree.Message.{Message}
use Rattle.st_tree.specs.declared.tree.Statement.{Statement}
use Rattle.st_tree.specs.declared.tree.Sequence.{Sequence}
use Rattle.st_tree.specs.declared.tree.NodeKind.{NodeKind}
use Rattle.st_tree.specs.declared.tree.NodeKind.TheVariants as kind

-- the same statements, with u for the node of the statement of a number
abbrev pub statements_with : List Statement → ℕ → TreeOf ℕ → List Statement
statements_with [] k u = []
statements_with (s ∷ ss) zero u = record s { node = u } ∷ ss
statements_with (s ∷ ss) (suc k) u = s ∷ statements_with ss k u

-- the same sequence, with u for the node of the statement of a number
abbrev pub sequence_with : Sequence → ℕ → TreeOf ℕ → Sequence
sequence_with b k u = record b { statements = statements_with b.statements k u }

-- the same messages, with u for the argument of a number, counted through all messages
abbrev pub messages_with : List Message → ℕ → TreeOf ℕ → List Message
messages_with [] k u = []
messages_with (m ∷ ms) k u =
    if nat_lt k (length m.arguments) then record m { arguments = slice_set m.arguments k u } ∷ ms else m ∷ messages_with ms (k - length m.arguments) u

-- the same node, with u where one step leads
abbrev pub kind_with : NodeKind → ℕ → TreeOf ℕ → NodeKind
kind_with (kind.Var n) k u = kind.Var n
kind_with (kind.Literal l) k u = kind.Literal l
kind_with (kind.Send r s args) zero u = kind.Send (record r { value = u }) s args
kind_with (kind.Send r s args) (suc k) u = kind.Send r s (slice_set args k u)
kind_with (kind.Cascade r ms) zero u = kind.Cascade (record r { value = u }) ms
kind_with (kind.Cascade r ms) (suc k) u = kind.Cascade r (messages_with ms k u)
kind_with (kind.Assign n t) zero u = kind.Assign n (record t { value = u })
kind_with (kind.Assign n t) (suc k) u = kind.Assign n t
kind_with (kind.Block ps body) k u = kind.Block ps (record body { value = sequence_with body.value k u })
kind_with (kind.Brace ts) k u = kind.Brace (slice_set ts k u)
kind_with (kind.Return t) zero u = kind.Return (record t { value = u })
kind_with (kind.Return t) (suc k) u = kind.Return t

-- the receiver of a send or a cascade, or the value of an assignment or a return
abbrev pub first : NodeKind → Option (TreeOf ℕ)
first (kind.Send r s args) = Some r.value
first (kind.Cascade r ms) = Some r.value
first (kind.Assign n t) = Some t.value
first (kind.Return t) = Some t.value
first k = None

-- the same node, with u for it
abbrev pub with_first : NodeKind → TreeOf ℕ → NodeKind
with_first (kind.Send r s args) u = kind.Send (record r { value = u }) s args
with_first (kind.Cascade r ms) u = kind.Cascade (record r { value = u }) ms
with_first (kind.Assign n t) u = kind.Assign n (record t { value = u })
with_first (kind.Return t) u = kind.Return (record t { value = u })
with_first k u = k

-- the arguments of a send
abbrev pub arguments_of : NodeKind → Option (List (TreeOf ℕ))
arguments_of (kind.Send r s args) = Some args
arguments_of k = None

-- the same node, with other arguments where it is a send
abbrev pub with_arguments : NodeKind → List (TreeOf ℕ) → NodeKind
with_arguments (kind.Send r s args) us = kind.Send r s us
with_arguments k us = k

-- the messages of a cascade
abbrev pub cascaded_of : NodeKind → Option (List Message)
cascaded_of (kind.Cascade r ms) = Some ms
cascaded_of k = None

-- the same node, with other messages where it is a cascade
abbrev pub with_cascaded : NodeKind → List Message → NodeKind
with_cascaded (kind.Cascade r ms) ns = kind.Cascade r ns
with_cascaded k ns = k

-- the items of a brace array
abbrev pub items_of : NodeKind → Option (List (TreeOf ℕ))
items_of (kind.Brace ts) = Some ts
items_of k = None

-- the same node, with other items where it is a brace array
abbrev pub with_items : NodeKind → List (TreeOf ℕ) → NodeKind
with_items (kind.Brace ts) us = kind.Brace us
with_items k us = k

-- the body of a block
abbrev pub body_of : NodeKind → Option Sequence
body_of (kind.Block ps body) = Some body.value
body_of k = None

-- the same node, with another body where it is a block
abbrev pub with_body : NodeKind → Sequence → NodeKind
with_body (kind.Block ps body) b = kind.Block ps (record body { value = b })
with_body k b = k

-- whether a node is a cascade
abbrev pub is_cascade : NodeKind → Bool
is_cascade (kind.Cascade r ms) = true
is_cascade k = false

-- whether a node is a brace array
abbrev pub is_brace : NodeKind → Bool
is_brace (kind.Brace ts) = true
is_brace k = false

-- whether a node is a block
abbrev pub is_block : NodeKind → Bool
is_block (kind.Block ps body) = true
is_block k = false

-- the argument of a number of a send
abbrev pub send_child : NodeKind → ℕ → Option (TreeOf ℕ)
send_child (kind.Send r s args) k = slice_get args k
send_child other k = None

-- the same node, with u for it
abbrev pub send_with : NodeKind → ℕ → TreeOf ℕ → NodeKind
send_with (kind.Send r s args) k u = kind.Send r s (slice_set args k u)
send_with other k u = other

-- the argument of a number of a cascade, counted through all messages
abbrev pub cascade_child : NodeKind → ℕ → Option (TreeOf ℕ)
cascade_child (kind.Cascade r ms) k = nth (all_arguments (messages_of ms)) k
cascade_child other k = None

-- the same node, with u for it
abbrev pub cascade_with : NodeKind → ℕ → TreeOf ℕ → NodeKind
cascade_with (kind.Cascade r ms) k u = kind.Cascade r (messages_with ms k u)
cascade_with other k u = other

-- the item of a number of a brace array
abbrev pub brace_child : NodeKind → ℕ → Option (TreeOf ℕ)
brace_child (kind.Brace ts) k = slice_get ts k
brace_child other k = None

-- the same node, with u for it
abbrev pub brace_with : NodeKind → ℕ → TreeOf ℕ → NodeKind
brace_with (kind.Brace ts) k u = kind.Brace (slice_set ts k u)
brace_with other k u = other

-- the node of the statement of a number of a block
abbrev pub block_child : NodeKind → ℕ → Option (TreeOf ℕ)
block_child (kind.Block ps body) k = nth (statement_trees (statements_of body.value.statements)) k
block_child other k = None

-- the same node, with u for it
abbrev pub block_with : NodeKind → ℕ → TreeOf ℕ → NodeKind
block_with (kind.Block ps body) k u = kind.Block ps (record body { value = sequence_with body.value k u })
block_with other k u = other
