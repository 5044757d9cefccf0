use Rattle.std.proofs.Common.{arith}
use Rattle.std.proofs.lemmas.Grind.{common_steps}
use Rattle.st_tree.proofs.Places.{argument_here, argument_later}
use Rattle.st_tree.proofs.tree.Messages.argument.Goals as goal

pub returns-then-left-count : goal.returns-then-left-count
returns-then-left-count c = grind (arith, common_steps, argument_here)

pub loop-message-preserved : goal.loop-message-preserved
loop-message-preserved c = grind (arith, common_steps, argument_later)
