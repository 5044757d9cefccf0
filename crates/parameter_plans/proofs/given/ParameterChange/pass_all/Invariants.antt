use Rattle.parameter_plans.proofs.MessagesPassed.{ArePassed}
use Rattle.parameter_plans.proofs.given.ParameterChange.pass_all.Given as goal

abbrev pub invariant-loop-message : goal.invariant-loop-message
invariant-loop-message l = ArePassed l.self l.message-index l.messages l.fn.messages
