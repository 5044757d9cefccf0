use Rattle.std.proofs.Common.{◌≡◌, take}
use Rattle.st_tree.proofs.tree.+copy.Given as goal

abbrev pub invariant-Messages::try_copy-loop-message : goal.invariant-Messages::try_copy-loop-message
invariant-Messages::try_copy-loop-message l = l.items.items ≡ take l.message-index l.message-items

abbrev pub invariant-Nodes::try_copy-loop-node : goal.invariant-Nodes::try_copy-loop-node
invariant-Nodes::try_copy-loop-node l = l.items.items ≡ take l.node-index l.node-items

abbrev pub invariant-Statements::try_copy-loop-statement : goal.invariant-Statements::try_copy-loop-statement
invariant-Statements::try_copy-loop-statement l = l.items.items ≡ take l.statement-index l.statement-items
