use Rattle.image_model.proofs.Tables.{KeepsWords-number_words}
use Rattle.image_model.proofs.laws.law_number_words.Goals as goal

pub returns : goal.returns
returns c = λ names distinct. KeepsWords-number_words names distinct
