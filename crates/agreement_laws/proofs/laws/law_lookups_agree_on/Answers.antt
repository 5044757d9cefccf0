use Rattle.agreement_laws.proofs.ImagesAgree.{reached-runs, reached-matched}
use Rattle.agreement_laws.proofs.laws.law_lookups_agree_on.Goals as goal

pub returns-clause-run : goal.returns-clause-run
returns-clause-run g = λ r i j n before after agree. reached-runs r i j before after agree n

pub returns-clause-matched : goal.returns-clause-matched
returns-clause-matched g = λ r i j before after agree. reached-matched r i j before after agree
