use Rattle.command_examples.proofs.ScriptsJudged.{judges_undoings, judges_composites}
use Rattle.command_examples.proofs.scripts.judges_scripts.Goals as goal

pub returns-clause-undoings : goal.returns-clause-undoings
returns-clause-undoings c = judges_undoings

pub returns-clause-composites : goal.returns-clause-composites
returns-clause-composites c = judges_composites
