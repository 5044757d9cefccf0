use Rattle.image_laws.proofs.PlacedLemmas.{IsValid-without_class, chain-without_class, lookup-without_class, means-without_class}
use Rattle.image_laws.proofs.placed.law_class_unused.Goals as goal

pub returns-clause-valid : goal.returns-clause-valid
returns-clause-valid g c = λ w i p class apart valid at user unused. IsValid-without_class w g.R.Reading.reading i valid apart p class at unused user

pub returns-clause-chain : goal.returns-clause-chain
returns-clause-chain g c = λ w i p class n apart valid at unused other. chain-without_class w g.R.Reading.reading i valid apart p class at unused n other

pub returns-clause-lookup : goal.returns-clause-lookup
returns-clause-lookup g c = λ w i p class n meta s apart valid at unused user other. lookup-without_class w g.R.Reading.reading i valid apart p class at unused n meta s user other

pub returns-clause-means : goal.returns-clause-means
returns-clause-means g c = λ w i p class m path n apart valid at unused has other. means-without_class w g.R.Reading.reading i valid apart p class at unused m path n has other
