use Rattle.chunk_format.proofs.Unique.{HasChunks-some, HasChunks-same}
use Rattle.chunk_format.proofs.laws.has_one_list.Goals as goal

pub returns-clause-exists : goal.returns-clause-exists
returns-clause-exists c = HasChunks-some

pub returns-clause-unique : goal.returns-clause-unique
returns-clause-unique c = HasChunks-same
