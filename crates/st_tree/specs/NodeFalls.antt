-- Each part of a node weighs less than the node.
use Rattle.std.specs.Prelude.{◌≤◌, max, List, [], ◌∷◌}
use Rattle.std.proofs.Common.{arith}
use denote.Param.Weighed.{most}
use Rattle.tree_model.specs.Measure.{weight, messages_weight, statements_weight}
use Rattle.st_tree.specs.View.{tree_of, messages_of, statements_of}
use Rattle.st_tree.specs.declared.tree.NodeKind.{NodeKind}
use Rattle.st_tree.specs.declared.tree.NodeKind.TheVariants as kind
use Rattle.st_tree.specs.declared.tree.Message.{Message}
use Rattle.st_tree.specs.declared.tree.Statement.{Statement}
use Rattle.st_tree.specs.declared.tree.Messages.TheDeep.{deep-NodeKind, deep-Message, deep-Statement}

-- of a node
pub depth_le-weight : (k : NodeKind) → max (deep-NodeKind k) 0 ≤ weight (tree_of k)
depth_le-weight (kind.Var n) = omega arith
depth_le-weight (kind.Literal l) = omega arith
depth_le-weight (kind.Send r s args) = omega arith
depth_le-weight (kind.Cascade r ms) = omega arith
depth_le-weight (kind.Assign n t) = omega arith
depth_le-weight (kind.Block ps body) = omega arith
depth_le-weight (kind.Brace ts) = omega arith
depth_le-weight (kind.Return t) = omega arith

-- of messages
pub most_le-messages_weight : (ms : List Message) → most deep-Message ms ≤ messages_weight (messages_of ms)
most_le-messages_weight [] = omega arith
most_le-messages_weight (m ∷ ms) = omega (arith, most_le-messages_weight ms)

-- of statements
pub most_le-statements_weight : (ss : List Statement) → most deep-Statement ss ≤ statements_weight (statements_of ss)
most_le-statements_weight [] = omega arith
most_le-statements_weight (s ∷ ss) = omega (arith, most_le-statements_weight ss)
