use Rattle.reread_law.proofs.Again.{doit_law, method_law}
use Rattle.reread_law.proofs.laws.spells_the_tree_again.Goals as goal

pub returns-clause-doit : goal.returns-clause-doit
returns-clause-doit c = doit_law

pub returns-clause-method : goal.returns-clause-method
returns-clause-method c = method_law
