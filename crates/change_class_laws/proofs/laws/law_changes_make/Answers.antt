use Rattle.change_class_laws.proofs.WholeLaw.{makes_all, makes_wherever, same_where_none}
use Rattle.change_class_laws.proofs.laws.law_changes_make.Goals as goal

pub returns-clause-at_rest : goal.returns-clause-at_rest
returns-clause-at_rest c = λ kernel i j can root. makes_all kernel i j can root

pub returns-clause-wherever : goal.returns-clause-wherever
returns-clause-wherever c = λ kernel i j s can root settled. makes_wherever kernel i j can root s settled

pub returns-clause-none : goal.returns-clause-none
returns-clause-none c = λ kernel i j can root none. same_where_none kernel i j can root none
