use Rattle.std.proofs.Common.{arith}
use Rattle.image_rewriting.proofs.Lists.{length-noted}
use Rattle.image_rewriting.proofs.equality.same_notes.Goals as goal

pub returns-then-a-b : goal.returns-then-a-b
returns-then-a-b c = grind (arith, length-noted c.args.a.now c.args.b.now)
