use Rattle.rewrite_model.proofs.OneRule.{replacement_or_refused, lawful_rule, one_replacement, allowed, one_cause}
use Rattle.rewrite_model.proofs.laws.has_one_rule.Goals as goal

pub returns-clause-either : goal.returns-clause-either
returns-clause-either c = replacement_or_refused

pub returns-clause-lawful : goal.returns-clause-lawful
returns-clause-lawful c = lawful_rule

pub returns-clause-one : goal.returns-clause-one
returns-clause-one c = one_replacement

pub returns-clause-refused : goal.returns-clause-refused
returns-clause-refused c = allowed

pub returns-clause-one_cause : goal.returns-clause-one_cause
returns-clause-one_cause c = one_cause
