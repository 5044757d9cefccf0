use Rattle.new_names.proofs.AsTexts.{composed-texts}
use Rattle.new_names.proofs.laws.law_composed_names.Goals as goal

pub returns : goal.returns
returns c = λ names news t once known. composed-texts names once news t known
