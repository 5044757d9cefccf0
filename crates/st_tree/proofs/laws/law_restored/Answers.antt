use Rattle.st_tree.proofs.Back.{method_restored, doit_restored}
use Rattle.st_tree.proofs.laws.law_restored.Goals as goal

pub returns-clause-method : goal.returns-clause-method
returns-clause-method c = λ before between after path old part e p q. method_restored before between after path old part e p q

pub returns-clause-doit : goal.returns-clause-doit
returns-clause-doit c = λ before between after path old part e p q. doit_restored before between after path old part e p q
