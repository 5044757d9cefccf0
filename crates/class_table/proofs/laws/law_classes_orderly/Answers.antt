use Rattle.class_table.proofs.KeptLemmas.{class-swapped}
use Rattle.class_table.proofs.ClassLemmas.{class-added, class-taken_out}
use Rattle.class_table.proofs.laws.law_classes_orderly.Goals as goal

pub returns-clause-swapped : goal.returns-clause-swapped
returns-clause-swapped c = λ s k class o h. class-swapped s o k class h

pub returns-clause-added : goal.returns-clause-added
returns-clause-added c = λ s class o h. class-added s o class h

pub returns-clause-taken_out : goal.returns-clause-taken_out
returns-clause-taken_out c = λ s k o h. class-taken_out s o k h
