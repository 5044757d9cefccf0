use Rattle.std.proofs.Common.{ap, ◌∙◌}
use Rattle.st_faults.specs.Stacks.{stack_of}
use Rattle.st_faults.proofs.Stacked.{stack_of-push}
use Rattle.st_faults.proofs.stack.put.Goals as goal

pub returns-in_ok-push : goal.returns-in_ok-push
returns-in_ok-push c = rw c.in-Some.is (ap stack_of c.in_ok-push.ensures.items ∙ stack_of-push c.args.stack.now.items c.in-Some.part)
