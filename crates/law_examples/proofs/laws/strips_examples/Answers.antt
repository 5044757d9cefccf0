use Rattle.law_examples.proofs.ImagesStripped.{are-stripped}
use Rattle.law_examples.proofs.laws.strips_examples.Goals as goal

pub returns : goal.returns
returns k = are-stripped
