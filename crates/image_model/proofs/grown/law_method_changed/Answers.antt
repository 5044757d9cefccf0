use Rattle.image_model.proofs.MethodLemmas.{IsValid-less, IsValid-other}
use Rattle.image_model.proofs.grown.law_method_changed.Goals as goal

pub returns-clause-taken_out : goal.returns-clause-taken_out
returns-clause-taken_out g c = λ w i front m back valid user. IsValid-less w g.R.Reading.reading i front m back valid user

pub returns-clause-replaced : goal.returns-clause-replaced
returns-clause-replaced g c = λ w i front m n back valid user same spells other. IsValid-other w g.R.Reading.reading i front m back valid user n same spells other
