use Rattle.std.proofs.Common.{arith}
use Rattle.std.proofs.lemmas.Grind.{common_steps}
use Rattle.st_formatter.proofs.Turned.{items_at-within}
use Rattle.st_formatter.proofs.whole.write_argument_name.Goals as goal

pub returns : goal.returns
returns c =
    rw (items_at-within c.args.arguments.now c.args.at c.index-arguments-at.result (omega arith) c.index-arguments-at.is) (grind (arith, common_steps))
