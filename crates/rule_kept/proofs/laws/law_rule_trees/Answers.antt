use Rattle.rule_kept.proofs.RuledTrees.{method_kept, doit_kept}
use Rattle.rule_kept.proofs.laws.law_rule_trees.Goals as goal

pub returns-clause-method : goal.returns-clause-method
returns-clause-method c = λ r xs m lawful comments derived well low. method_kept c.law_text_words.ensures r.pattern r.replacement lawful comments xs derived m well low

pub returns-clause-doit : goal.returns-clause-doit
returns-clause-doit c = λ r xs b lawful comments derived well low. doit_kept c.law_text_words.ensures r.pattern r.replacement lawful comments xs derived b well low
