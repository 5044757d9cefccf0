use Rattle.ruled_laws.proofs.RuledNil.{ruled_nil}
use Rattle.ruled_laws.proofs.laws.law_ruled_nil.Goals as goal

pub returns : goal.returns
returns c = ruled_nil
