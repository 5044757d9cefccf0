use Rattle.change_file_laws.proofs.Behind.{goes_on_behind}
use Rattle.change_file_laws.proofs.laws.goes_on_behind_a_text.Goals as goal

pub returns : goal.returns
returns c = λ text more pieces other chunks. goes_on_behind text more pieces other chunks
