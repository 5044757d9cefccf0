use Rattle.rule_model.specs.RuleLines.{AsksNot}
use Rattle.script_lang.proofs.asked.rule_behind.Goals as goal

pub returns-in-Err-clause-wrong : goal.returns-in-Err-clause-wrong
returns-in-Err-clause-wrong c = λ e. AsksNot (c.in-Err.ensures.none (c.wrong_rule.ensures e))
