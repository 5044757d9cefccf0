use Rattle.file_model.proofs.ExamplesJudged.{makes_accepted, makes_refusals, writes}
use Rattle.file_model.proofs.laws.judges_examples.Goals as goal

pub returns-clause-accepted : goal.returns-clause-accepted
returns-clause-accepted c = makes_accepted

pub returns-clause-refusals : goal.returns-clause-refusals
returns-clause-refusals c = makes_refusals

pub returns-clause-written : goal.returns-clause-written
returns-clause-written c = writes
