use Rattle.reread_law.proofs.Again.{no_fault_doit, no_fault_method, one_doit, one_method}
use Rattle.reread_law.proofs.laws.tells_trees_apart.Goals as goal

pub returns-clause-no_fault_in_doit : goal.returns-clause-no_fault_in_doit
returns-clause-no_fault_in_doit c = no_fault_doit

pub returns-clause-no_fault_in_method : goal.returns-clause-no_fault_in_method
returns-clause-no_fault_in_method c = no_fault_method

pub returns-clause-one_doit : goal.returns-clause-one_doit
returns-clause-one_doit c = one_doit

pub returns-clause-one_method : goal.returns-clause-one_method
returns-clause-one_method c = one_method
