use Rattle.ruled_laws.proofs.SameVerdicts.{line_same, same_verdict}
use Rattle.ruled_laws.proofs.laws.law_without_rules.Goals as goal

pub returns-clause-step : goal.returns-clause-step
returns-clause-step c = line_same

pub returns-clause-verdict : goal.returns-clause-verdict
returns-clause-verdict c = same_verdict
