use Rattle.ruled_laws.proofs.RuledBeside.{ruled_admitted}
use Rattle.ruled_laws.proofs.laws.law_ruled_admitted.Goals as goal

pub returns : goal.returns
returns c = λ kernel i script h e keeps sound spelled o a. ruled_admitted kernel i keeps (c.law_rule_keeps_runs.ensures kernel) script h e sound spelled o a
