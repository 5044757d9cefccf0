use Rattle.pattern_trees.proofs.Ruling.{rule_faults}
use Rattle.pattern_trees.proofs.laws.law_rule.Goals as goal

pub returns : goal.returns
returns g c = λ same p q places h k. rule_faults same p q places h k
