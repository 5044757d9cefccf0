use Rattle.image_laws.proofs.PlacedLemmas.{IsValid-without_method, IsValid-with_method_at, lookup-with_method_at}
use Rattle.image_laws.proofs.placed.law_method_placed.Goals as goal

pub returns-clause-taken_out : goal.returns-clause-taken_out
returns-clause-taken_out g c = λ w i p m valid at user. IsValid-without_method w g.R.Reading.reading i valid p m at user

pub returns-clause-put_in : goal.returns-clause-put_in
returns-clause-put_in g c = λ w i p m valid new. IsValid-with_method_at w g.R.Reading.reading i valid p m new

pub returns-clause-lookup : goal.returns-clause-lookup
returns-clause-lookup g c = λ w i p m class meta s other. lookup-with_method_at w i p m class meta s other
