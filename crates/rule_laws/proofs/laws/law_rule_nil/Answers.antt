use Rattle.rule_laws.proofs.RuleHolds.{rule_holds}
use Rattle.rule_laws.proofs.NilLeft.{effect_nil, nil_holds}
use Rattle.rule_laws.proofs.laws.law_rule_nil.Goals as goal

pub returns-clause-holds : goal.returns-clause-holds
returns-clause-holds k = nil_holds

pub returns-clause-left : goal.returns-clause-left
returns-clause-left k = λ c i none. effect_nil c i (rule_holds c i none).derived
