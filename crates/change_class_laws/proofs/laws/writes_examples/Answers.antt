use Rattle.change_class_laws.proofs.ExamplesWritten.{writes_renamed, writes_all_kinds}
use Rattle.change_class_laws.proofs.laws.writes_examples.Goals as goal

pub returns-clause-renamed : goal.returns-clause-renamed
returns-clause-renamed c = writes_renamed

pub returns-clause-all_kinds : goal.returns-clause-all_kinds
returns-clause-all_kinds c = writes_all_kinds
