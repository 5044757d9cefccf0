use Rattle.rule_model.proofs.OneLine.{one_answer}
use Rattle.rule_model.proofs.SomeLine.{some_answer}
use Rattle.rule_model.proofs.laws.has_one_rule_line.Goals as goal

pub returns-clause-some : goal.returns-clause-some
returns-clause-some c = some_answer c.has_one_certificate.ensures.either c.has_one_pattern.ensures.either c.has_one_rule.ensures.either

pub returns-clause-one : goal.returns-clause-one
returns-clause-one c = one_answer c.has_one_pattern.ensures.one c.has_one_pattern.ensures.refused c.has_one_rule.ensures.one c.has_one_rule.ensures.refused
