use Rattle.image_laws.proofs.SlotLemmas.{text_apart, number_apart}
use Rattle.image_laws.proofs.placed.law_told_apart.Goals as goal

pub returns-clause-texts : goal.returns-clause-texts
returns-clause-texts c = text_apart

pub returns-clause-numbers : goal.returns-clause-numbers
returns-clause-numbers c = λ names. number_apart
