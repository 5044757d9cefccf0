use Rattle.std.specs.Prelude.{Contains}
use Rattle.lookup_model.proofs.AgreeingRuns.{run-agrees, run_to-agrees, same-runs, matched-runs-agreeing}
use Rattle.lookup_model.proofs.laws.law_resolved_lookups.Goals as goal

pub returns-clause-run : goal.returns-clause-run
returns-clause-run g = λ r i j n a. run-agrees (Contains r.classes) (Contains r.selectors) (λ m n. Contains r.methods (m, n)) i j a n

pub returns-clause-any_depth : goal.returns-clause-any_depth
returns-clause-any_depth g = λ r i j d n a. run_to-agrees (Contains r.classes) (Contains r.selectors) (λ m n. Contains r.methods (m, n)) i j a d n

pub returns-clause-images : goal.returns-clause-images
returns-clause-images g = λ r i j n a. same-runs (Contains r.classes) (Contains r.selectors) (λ m n. Contains r.methods (m, n)) i j a n

pub returns-clause-matched : goal.returns-clause-matched
returns-clause-matched g = λ r i j a. matched-runs-agreeing (Contains r.classes) (Contains r.selectors) (λ m n. Contains r.methods (m, n)) i j a
