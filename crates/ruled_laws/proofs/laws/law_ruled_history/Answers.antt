use Rattle.ruled_laws.proofs.RuledKept.{ruled_kept}
use Rattle.ruled_laws.proofs.laws.law_ruled_history.Goals as goal

pub returns : goal.returns
returns c = λ kernel i script h keeps sound spelled e. ruled_kept kernel i keeps (c.law_rule_keeps_runs.ensures kernel) script h sound spelled e
