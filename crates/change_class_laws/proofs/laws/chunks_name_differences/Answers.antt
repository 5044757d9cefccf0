use Rattle.change_class_laws.proofs.ChunksNamed.{chunks_named}
use Rattle.change_class_laws.proofs.laws.chunks_name_differences.Goals as goal

pub returns : goal.returns
returns c = λ kernel i j pieces end can chunks. chunks_named kernel i j can pieces end chunks
