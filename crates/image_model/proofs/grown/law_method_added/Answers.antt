use Rattle.std.proofs.Common.{refl}
use Rattle.image_model.proofs.GrownLemmas.{IsValid-with_method}
use Rattle.image_model.proofs.grown.law_method_added.Goals as goal

pub returns-clause-valid : goal.returns-clause-valid
returns-clause-valid g c = λ w i m valid new. IsValid-with_method w g.R.Reading.reading i valid m new

pub returns-clause-means : goal.returns-clause-means
returns-clause-means g c = λ w i m other path n. refl
