use Rattle.run_model.proofs.RenamingLemmas.{is-composite, events-twice, outcome-twice, events-same}
use Rattle.run_model.proofs.laws.law_renamings_composed.Goals as goal

pub returns-clause-composite : goal.returns-clause-composite
returns-clause-composite g = λ r q. is-composite r q

pub returns-clause-events : goal.returns-clause-events
returns-clause-events g = λ r q p es is. events-twice r q p is es

pub returns-clause-outcome : goal.returns-clause-outcome
returns-clause-outcome g = λ r q p o is. outcome-twice r q p is o

pub returns-clause-nothing : goal.returns-clause-nothing
returns-clause-nothing g = λ es. events-same es
