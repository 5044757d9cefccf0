use Rattle.browse_laws.proofs.Sending.{changed, refused}
use Rattle.browse_laws.proofs.laws.law_applied.Goals as goal

pub returns-clause-done : goal.returns-clause-done
returns-clause-done c = changed c.law_applied.ensures.done

pub returns-clause-condition : goal.returns-clause-condition
returns-clause-condition c = refused c.law_applied.ensures.condition
