use Rattle.grammar_model.proofs.OneWhole.{one_IsDoIt, one_IsMethod}
use Rattle.grammar_model.proofs.laws.has_at_most_one_tree.Goals as goal

pub returns-clause-doit : goal.returns-clause-doit
returns-clause-doit c = λ ts v w. one_IsDoIt v w

pub returns-clause-method : goal.returns-clause-method
returns-clause-method c = λ kernel ts v w. one_IsMethod v w
