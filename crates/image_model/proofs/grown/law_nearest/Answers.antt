use Rattle.image_model.proofs.SearchLemmas.{means_along-side, means_along-shared, means_along-class, definer-first}
use Rattle.image_model.proofs.grown.law_nearest.Goals as goal

pub returns-clause-side : goal.returns-clause-side
returns-clause-side g c = λ w classes above meta n class e. means_along-side w classes above meta n class e

pub returns-clause-shared : goal.returns-clause-shared
returns-clause-shared g c = λ w classes above meta n class e h. means_along-shared w classes above meta n class e h

pub returns-clause-class : goal.returns-clause-class
returns-clause-class g c = λ w classes above meta n class e h k. means_along-class w classes above meta n class e h k

pub returns-clause-hides : goal.returns-clause-hides
returns-clause-hides g c = λ same kind class above n e. definer-first same kind class above n e
