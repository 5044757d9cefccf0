use Rattle.browse_laws.proofs.Sending.{played}
use Rattle.browse_laws.proofs.played.law_played.Goals as goal

pub returns : goal.returns
returns c = played c.law_played.ensures
