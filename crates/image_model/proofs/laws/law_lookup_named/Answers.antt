use Rattle.image_model.proofs.Changed.{lookup-map_image, super_lookup-map_image}
use Rattle.image_model.proofs.laws.law_lookup_named.Goals as goal

pub returns-clause-message : goal.returns-clause-message
returns-clause-message g c = λ f p w v i class meta s keeps named q r. lookup-map_image _ f w v keeps i named class meta s q r

pub returns-clause-to_super : goal.returns-clause-to_super
returns-clause-to_super g c = λ f p w v i class meta s keeps named q r. super_lookup-map_image _ f w v keeps i named class meta s q r
