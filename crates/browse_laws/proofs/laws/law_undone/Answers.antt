use Rattle.browse_laws.proofs.Undoing.{without-undos, without-redos}
use Rattle.browse_laws.proofs.laws.law_undone.Goals as goal

pub returns-clause-undo : goal.returns-clause-undo
returns-clause-undo c = without-undos c.has_one_reading.ensures.requests

pub returns-clause-redo : goal.returns-clause-redo
returns-clause-redo c = without-redos c.has_one_reading.ensures.requests
