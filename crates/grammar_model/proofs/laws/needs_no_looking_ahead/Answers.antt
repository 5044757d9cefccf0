use Rattle.grammar_model.proofs.Rows.{longest_IsDoIt, longest_IsMethod}
use Rattle.grammar_model.proofs.Forgets.{any_IsDoIt, any_IsMethod}
use Rattle.grammar_model.proofs.laws.needs_no_looking_ahead.Goals as goal

pub returns-clause-doit : goal.returns-clause-doit
returns-clause-doit c = λ ts s. (longest_IsDoIt ts s, any_IsDoIt ts s)

pub returns-clause-method : goal.returns-clause-method
returns-clause-method c = λ kernel ts m. (longest_IsMethod kernel ts m, any_IsMethod kernel ts m)
