use Rattle.image_laws.proofs.PlacedLemmas.{IsValid-with_class_at, chain-with_class_at, lookup-with_class_at, means-with_class_at}
use Rattle.image_laws.proofs.placed.law_class_placed.Goals as goal

pub returns-clause-valid : goal.returns-clause-valid
returns-clause-valid g c = λ w i p class apart valid new follows. IsValid-with_class_at w g.R.Reading.reading i valid apart p class new follows

pub returns-clause-chain : goal.returns-clause-chain
returns-clause-chain g c = λ w i p class n apart valid new other. chain-with_class_at w g.R.Reading.reading i valid apart p class new n other

pub returns-clause-lookup : goal.returns-clause-lookup
returns-clause-lookup g c = λ w i p class n meta s apart valid new user other. lookup-with_class_at w g.R.Reading.reading i valid apart p class new n meta s user other

pub returns-clause-means : goal.returns-clause-means
returns-clause-means g c = λ w i p class m path n apart valid new has other. means-with_class_at w g.R.Reading.reading i valid apart p class new m path n has other
