use Rattle.std.proofs.Common.{arith}
use Rattle.st_tree.proofs.SameLength.{length-literals_of}
use Rattle.st_tree.proofs.literal.+same_literal.Goals as goal

pub Literals::same-returns-then-len : goal.Literals::same-returns-then-len
Literals::same-returns-then-len t c = grind (arith, length-literals_of c.args.self.now c.args.other.now)
