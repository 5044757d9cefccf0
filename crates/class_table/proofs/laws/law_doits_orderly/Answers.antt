use Rattle.class_table.proofs.KeptLemmas.{doit-swapped, doit-added}
use Rattle.class_table.proofs.laws.law_doits_orderly.Goals as goal

pub returns-clause-swapped : goal.returns-clause-swapped
returns-clause-swapped c = λ s n d o h. doit-swapped s o n d h

pub returns-clause-added : goal.returns-clause-added
returns-clause-added c = λ s d o h. doit-added s o d h
