use Rattle.import_model.proofs.Kept.{text_stays}
use Rattle.import_model.proofs.laws.keeps_file_outs.Goals as goal

pub returns : goal.returns
returns c = λ prelude text image is. text_stays is.kernel text is.end is.reads
