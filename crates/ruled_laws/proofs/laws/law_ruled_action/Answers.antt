use Rattle.ruled_laws.proofs.RuledKept.{action_kept}
use Rattle.ruled_laws.proofs.laws.law_ruled_action.Goals as goal

pub returns : goal.returns
returns c = λ kernel i v w x keeps kept spelled e. action_kept kernel i keeps (c.law_rule_keeps_runs.ensures kernel) v w x kept spelled e
