use Rattle.std.proofs.Common.{Err, refl, subst}
use Rattle.token_model.specs.declared.kind.Dialect.TheVariants.{Second}
use Rattle.chunk_format.specs.Chunks.{piece}
use Rattle.file_model.specs.Reading.{Takes}
use Rattle.file_reading.specs.declared.reading.Stop.{Stop}
use Rattle.file_reading.specs.Filed.{filed}
use Rattle.file_reading.specs.Answers.{Answers}
use Rattle.file_reading.specs.Loop.{WantsMemory, Told}
use Rattle.file_reading.proofs.read.take_numbered.Goals as goal

pub returns-in-Err-Refused-clause-refused : goal.returns-in-Err-Refused-clause-refused
returns-in-Err-Refused-clause-refused c =
    let h = subst (λ (s : Stop). Answers (Takes Second c.args.kernel (filed c.args.reading) (piece c.args.chunk.now)) (Err s)) c.in-Err-Refused.field-0-is c.in-Err-Refused.ensures in
    Told (c.refused.ensures h.0 h.1) (record { cause = h.0; takes = h.2; refusal = refl })

pub returns-in-Err-Memory-clause-refused : goal.returns-in-Err-Memory-clause-refused
returns-in-Err-Memory-clause-refused c = WantsMemory
