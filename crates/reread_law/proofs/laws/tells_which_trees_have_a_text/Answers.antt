use Rattle.reread_law.proofs.Again.{doit_exactly, method_exactly}
use Rattle.reread_law.proofs.laws.tells_which_trees_have_a_text.Goals as goal

pub returns-clause-doit : goal.returns-clause-doit
returns-clause-doit c = doit_exactly

pub returns-clause-method : goal.returns-clause-method
returns-clause-method c = method_exactly
