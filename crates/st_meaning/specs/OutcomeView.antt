-- What an outcome of the program stands for.
use Rattle.run_model.specs.Values.{Outcome, done, failed, spent}
use Rattle.st_meaning.specs.declared.event.OutcomeKind.{OutcomeKind}
use Rattle.st_meaning.specs.declared.event.OutcomeKind.TheVariants as kind

-- the outcome of runs
abbrev pub outcome_from : OutcomeKind → Outcome
outcome_from (kind.Done v) = done v
outcome_from (kind.Failed e) = failed e
outcome_from kind.Spent = spent
