use Rattle.rule_model.proofs.DoItBeside.{goes_along}
use Rattle.rule_model.proofs.laws.law_rule_beside.Goals as goal

pub returns : goal.returns
returns c = goes_along
