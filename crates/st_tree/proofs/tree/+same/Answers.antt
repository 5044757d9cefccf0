use Rattle.std.proofs.Common.{arith}
use Rattle.st_tree.proofs.SameLength.{length-bare_trees, length-bare_messages, length-bare_statements}
use Rattle.st_tree.proofs.tree.+same.Goals as goal

pub Nodes::same-returns-then-len : goal.Nodes::same-returns-then-len
Nodes::same-returns-then-len t c = grind (arith, length-bare_trees c.args.self.now c.args.other.now)

pub Messages::same-returns-then-len : goal.Messages::same-returns-then-len
Messages::same-returns-then-len t c = grind (arith, length-bare_messages c.args.self.now c.args.other.now)

pub Statements::same-returns-then-len : goal.Statements::same-returns-then-len
Statements::same-returns-then-len t c = grind (arith, length-bare_statements c.args.self.now c.args.other.now)
