use Rattle.std.proofs.Common.{refl}
use Rattle.text_examples.proofs.laws.writes_doits.Goals as goal

pub returns : goal.returns
returns c = refl
