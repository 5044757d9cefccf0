use Rattle.class_table.proofs.KeptLemmas.{method-swapped, method-added, method-taken_out, method-put_in}
use Rattle.class_table.proofs.laws.law_methods_orderly.Goals as goal

pub returns-clause-swapped : goal.returns-clause-swapped
returns-clause-swapped c = λ s k m o h. method-swapped s o k m h

pub returns-clause-added : goal.returns-clause-added
returns-clause-added c = λ s m o h. method-added s o m h

pub returns-clause-taken_out : goal.returns-clause-taken_out
returns-clause-taken_out c = λ s k o. method-taken_out s o k

pub returns-clause-put_in : goal.returns-clause-put_in
returns-clause-put_in c = λ s k at m o e h. method-put_in s o k at m e h
