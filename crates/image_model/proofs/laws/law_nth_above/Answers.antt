use Rattle.image_model.proofs.UpwardsLemmas.{slice_get-upwards}
use Rattle.image_model.proofs.laws.law_nth_above.Goals as goal

pub returns : goal.returns
returns g c = λ above k n o h. slice_get-upwards above k n o h
