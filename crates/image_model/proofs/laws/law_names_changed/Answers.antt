use Rattle.image_model.proofs.MapImage.{map_image-id, map_image-map_image, map_image-same}
use Rattle.image_model.proofs.laws.law_names_changed.Goals as goal

pub returns-clause-nothing : goal.returns-clause-nothing
returns-clause-nothing g c = λ i. map_image-id i

pub returns-clause-twice : goal.returns-clause-twice
returns-clause-twice g c = λ f h i. map_image-map_image h f i

pub returns-clause-agreeing : goal.returns-clause-agreeing
returns-clause-agreeing g c = λ f h i p. map_image-same f h i p
