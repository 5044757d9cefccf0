use Rattle.resolved_model.proofs.RunLemmas.{runs-same, matched-resolved}
use Rattle.resolved_model.proofs.laws.law_same_resolved.Goals as goal

pub returns-clause-run : goal.returns-clause-run
returns-clause-run g = λ i j n e. runs-same i j e n

pub returns-clause-matched : goal.returns-clause-matched
returns-clause-matched g = λ i j e. matched-resolved i j e
