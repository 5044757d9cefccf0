use Rattle.why_model.proofs.RulesShown.{shows-rule, hinders-rule}
use Rattle.why_model.proofs.laws.law_rules.Goals as goal

pub returns-clause-shown : goal.returns-clause-shown
returns-clause-shown c = shows-rule

pub returns-clause-hindered : goal.returns-clause-hindered
returns-clause-hindered c = hinders-rule
