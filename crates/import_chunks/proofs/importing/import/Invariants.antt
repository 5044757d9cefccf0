use Rattle.std.proofs.Common.{◌≡◌, length, Result}
use Rattle.chunk_format.specs.Left.{start_of}
use Rattle.file_model.specs.Causes.{Refusal}
use Rattle.file_model.specs.Filing.{Text}
use Rattle.import_model.specs.Steps.{Outside}
use Rattle.import_model.specs.Imported.{Becomes, after, without_mark}
use Rattle.import_chunks.specs.Told.{next_text}
use Rattle.import_chunks.proofs.importing.import.Given as goal

abbrev pub invariant-chunks : goal.invariant-chunks
invariant-chunks l =
    (l.rest ≡ l.left.rest)
    × ((r : Result Text Refusal) → Becomes (next_text l.names l.now) l.left r → Becomes Outside (start_of (without_mark l.fn.text)) (after l.out r))

abbrev pub decreases-chunks : goal.decreases-chunks
decreases-chunks l = length l.left.rest
