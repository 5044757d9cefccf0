use Rattle.image_model.proofs.GrownLemmas.{IsValid-with_class, chain-end, lookup-end, means-end}
use Rattle.image_model.proofs.grown.law_class_added.Goals as goal

pub returns-clause-valid : goal.returns-clause-valid
returns-clause-valid g c = λ w i class reflexive valid new. IsValid-with_class w g.R.Reading.reading i valid class reflexive new

pub returns-clause-chain : goal.returns-clause-chain
returns-clause-chain g c = λ same classes class n reflexive before has. chain-end same reflexive classes class before n has

pub returns-clause-lookup : goal.returns-clause-lookup
returns-clause-lookup g c = λ w i class n meta s reflexive before has other. lookup-end w reflexive i before class n meta s has other

pub returns-clause-means : goal.returns-clause-means
returns-clause-means g c = λ w i class m path n reflexive before has other. means-end w reflexive i before class m path n has other
