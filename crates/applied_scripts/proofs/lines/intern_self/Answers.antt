use Rattle.std.proofs.Common.{codes}
use Rattle.script_lang.proofs.Growing.{either-grows}
use Rattle.applied_scripts.proofs.SelfKnown.{has-self}
use Rattle.applied_scripts.proofs.lines.intern_self.Goals as goal

pub returns-in_err-_self_name-clause-grows : goal.returns-in_err-_self_name-clause-grows
returns-in_err-_self_name-clause-grows c = either-grows c.intern.result c.args.names.now c.intern.new.self (codes "self") c.intern.ensures.ok c.intern.ensures.err

pub returns-clause-grows : goal.returns-clause-grows
returns-clause-grows c = either-grows c.intern.result c.args.names.now c.intern.new.self (codes "self") c.intern.ensures.ok c.intern.ensures.err

pub returns-clause-self_known : goal.returns-clause-self_known
returns-clause-self_known c = has-self c.intern.new.self _ c.in_ok-_self_name.ensures.number
