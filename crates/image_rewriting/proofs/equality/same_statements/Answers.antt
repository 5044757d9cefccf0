use Rattle.std.proofs.Common.{arith}
use Rattle.st_tree.proofs.SameLength.{length-bare_statements}
use Rattle.image_rewriting.proofs.equality.same_statements.Goals as goal

pub returns-then-a-b : goal.returns-then-a-b
returns-then-a-b c = grind (arith, length-bare_statements c.args.a.now c.args.b.now)
