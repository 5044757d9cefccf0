use Rattle.refusal_witnesses.proofs.OneLine.{one-lines}
use Rattle.refusal_witnesses.proofs.laws.has_one_line.Goals as goal

pub returns : goal.returns
returns c = λ i ws texts others a b. one-lines i ws texts others a b
