use Rattle.import_examples.proofs.Judged.{makes_rows}
use Rattle.import_examples.proofs.laws.judges_examples.Goals as goal

pub returns : goal.returns
returns c = makes_rows
