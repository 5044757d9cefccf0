use Rattle.class_table.proofs.Found.{image_of-grown}
use Rattle.class_table.proofs.laws.law_names_added.Goals as goal

pub returns : goal.returns
returns c = λ s more known. image_of-grown s more known
