use Rattle.live_slots.proofs.Keeping.{all-none, all-class, all-method, all-replaced, all-doits, all-heads, all-names}
use Rattle.live_slots.proofs.laws.law_all_live.Goals as goal

pub returns-clause-none : goal.returns-clause-none
returns-clause-none c = λ s classes methods. all-none s classes methods

pub returns-clause-class : goal.returns-clause-class
returns-clause-class c = λ s d all. all-class s d all

pub returns-clause-method : goal.returns-clause-method
returns-clause-method c = λ s m all. all-method s m all

pub returns-clause-replaced : goal.returns-clause-replaced
returns-clause-replaced c = λ s k m all. all-replaced s k m all

pub returns-clause-doits : goal.returns-clause-doits
returns-clause-doits c = λ s ds all. all-doits s ds all

pub returns-clause-heads : goal.returns-clause-heads
returns-clause-heads c = λ s n all. all-heads s n all

pub returns-clause-names : goal.returns-clause-names
returns-clause-names c = λ s names all. all-names s names all
