use Rattle.chunk_format.specs.Chunks.{piece}
use Rattle.file_reading.specs.Filed.{filed}
use Rattle.file_reading.proofs.TakenSources.{chunk_taken}
use Rattle.file_reading.proofs.take.take_chunk.Goals as goal

pub returns : goal.returns
returns c =
    chunk_taken c.args.kernel (filed c.args.reading) (piece c.args.chunk.now) c.in_ok-source.source.now c.take_source.result c.in_ok-source.ensures.source c.take_source.ensures
