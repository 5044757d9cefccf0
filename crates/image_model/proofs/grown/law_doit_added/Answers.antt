use Rattle.std.proofs.Common.{refl}
use Rattle.image_model.proofs.GrownLemmas.{IsValid-plus}
use Rattle.image_model.proofs.grown.law_doit_added.Goals as goal

pub returns-clause-valid : goal.returns-clause-valid
returns-clause-valid g c = λ w i d valid new. IsValid-plus w g.R.Reading.reading i valid d new

pub returns-clause-lookup : goal.returns-clause-lookup
returns-clause-lookup g c = λ w i d class meta s. refl

pub returns-clause-means : goal.returns-clause-means
returns-clause-means g c = λ w i d m path n. refl
