use Rattle.browse_laws.proofs.FiledIn.{runs-again}
use Rattle.browse_laws.proofs.Sending.{changes-done, changes-refused}
use Rattle.browse_laws.proofs.changed.law_filed_in.Goals as goal

pub returns-clause-done : goal.returns-clause-done
returns-clause-done c = changes-done c.law_changes.ensures.done

pub returns-clause-run : goal.returns-clause-run
returns-clause-run c = runs-again c.has_one_image.ensures.one_image c.has_one_image.ensures.not_both c.law_bare_runs.ensures.run

pub returns-clause-condition : goal.returns-clause-condition
returns-clause-condition c = changes-refused c.law_changes.ensures.condition
