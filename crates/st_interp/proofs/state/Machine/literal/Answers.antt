use Rattle.st_interp.proofs.Begun.{settled}
use Rattle.st_interp.proofs.state.Machine.literal.Goals as goal

pub returns-clause-rest : goal.returns-clause-rest
returns-clause-rest c = λ i. settled i c.args.program.now.names (record { stack = c.args.self.now.stack; store = c.literal.new.store }) _ _ _ c.after.ensures c.in_ok-literal.ensures.ended
