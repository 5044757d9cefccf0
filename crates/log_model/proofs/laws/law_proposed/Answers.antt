use Rattle.log_model.proofs.Proposing.{proposes, proposes-rule}
use Rattle.log_model.proofs.laws.law_proposed.Goals as goal

pub returns-clause-asked : goal.returns-clause-asked
returns-clause-asked c = proposes

pub returns-clause-rule : goal.returns-clause-rule
returns-clause-rule c = proposes-rule c.judges_examples.ensures.rule
