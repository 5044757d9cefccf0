use Rattle.st_tree.proofs.Back.{method_from-method_of, method_of-method_from, sequence_from-sequence_of, sequence_of-sequence_from}
use Rattle.st_tree.proofs.laws.law_views.Goals as goal

pub returns-clause-method : goal.returns-clause-method
returns-clause-method c = λ m. method_from-method_of m

pub returns-clause-abstract_method : goal.returns-clause-abstract_method
returns-clause-abstract_method c = λ m. method_of-method_from m

pub returns-clause-body : goal.returns-clause-body
returns-clause-body c = λ b. sequence_from-sequence_of b

pub returns-clause-abstract_body : goal.returns-clause-abstract_body
returns-clause-abstract_body c = λ b. sequence_of-sequence_from b
