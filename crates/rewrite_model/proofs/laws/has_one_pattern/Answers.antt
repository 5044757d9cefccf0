use Rattle.rewrite_model.proofs.OnePattern.{said_or_refused, one_pattern, lawful_pattern, not_refused, one_cause}
use Rattle.rewrite_model.proofs.laws.has_one_pattern.Goals as goal

pub returns-clause-either : goal.returns-clause-either
returns-clause-either c = said_or_refused

pub returns-clause-one : goal.returns-clause-one
returns-clause-one c = one_pattern

pub returns-clause-lawful : goal.returns-clause-lawful
returns-clause-lawful c = lawful_pattern

pub returns-clause-refused : goal.returns-clause-refused
returns-clause-refused c = not_refused

pub returns-clause-one_cause : goal.returns-clause-one_cause
returns-clause-one_cause c = one_cause
