use Rattle.bare_model.proofs.BareRuns.{run-bare, matched-bare}
use Rattle.bare_model.proofs.laws.law_bare_runs.Goals as goal

pub returns-clause-run : goal.returns-clause-run
returns-clause-run g = λ i n. run-bare i n

pub returns-clause-matched : goal.returns-clause-matched
returns-clause-matched g = λ i j e. matched-bare i j e
