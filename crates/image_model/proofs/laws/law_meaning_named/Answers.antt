use Rattle.image_model.proofs.Changed.{means-map_image, means_in_doit-map_image}
use Rattle.image_model.proofs.laws.law_meaning_named.Goals as goal

pub returns-clause-method : goal.returns-clause-method
returns-clause-method g c = λ f p w v i m path n keeps named q r. means-map_image _ f w v keeps i named m path n q r

pub returns-clause-doit : goal.returns-clause-doit
returns-clause-doit g c = λ f p w v i d path n keeps named q r. means_in_doit-map_image _ f w v keeps i named d path n q r
