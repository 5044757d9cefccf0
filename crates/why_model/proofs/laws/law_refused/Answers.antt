use Rattle.why_model.proofs.FirstFalse.{is-first-false, is-shown}
use Rattle.why_model.proofs.laws.law_refused.Goals as goal

pub returns-clause-first_false : goal.returns-clause-first_false
returns-clause-first_false c = is-first-false

pub returns-clause-shown : goal.returns-clause-shown
returns-clause-shown c = is-shown
