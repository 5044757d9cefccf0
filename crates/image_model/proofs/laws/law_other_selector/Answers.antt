use Rattle.image_model.proofs.Kept.{lookup-without}
use Rattle.image_model.proofs.laws.law_other_selector.Goals as goal

pub returns : goal.returns
returns g c = λ w i front m back class meta s e. lookup-without w i front m back class meta s e
