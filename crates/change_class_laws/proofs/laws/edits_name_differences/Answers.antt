use Rattle.change_class_laws.proofs.Differences.{each_edit, none_where_same}
use Rattle.change_class_laws.proofs.laws.edits_name_differences.Goals as goal

pub returns-clause-each : goal.returns-clause-each
returns-clause-each c = λ kernel i j can. each_edit kernel i j can

pub returns-clause-none : goal.returns-clause-none
returns-clause-none c = λ kernel i j can root. none_where_same kernel i j can root
