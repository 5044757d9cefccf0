use Rattle.std.proofs.Common.{length, Result}
use Rattle.chunk_format.specs.Left.{start_of}
use Rattle.file_model.specs.Causes.{Refusal}
use Rattle.file_model.specs.Filing.{Filing, begun}
use Rattle.file_reading.specs.Filed.{filed, image_so_far, IsSoundSoFar}
use Rattle.file_reading.specs.Loop.{TakesLeft}
use Rattle.file_reading.proofs.read.read_text.Given as goal

abbrev pub invariant-chunks : goal.invariant-chunks
invariant-chunks l =
    IsSoundSoFar l.reading
    × ((r : Result Filing Refusal) → TakesLeft l.fn.kernel (filed l.reading) l.left r → TakesLeft l.fn.kernel (begun (image_so_far l.fn.reading)) (start_of l.fn.text) r)

abbrev pub decreases-chunks : goal.decreases-chunks
decreases-chunks l = length l.left.rest
