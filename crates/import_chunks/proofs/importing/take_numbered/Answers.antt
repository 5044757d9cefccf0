use Rattle.std.proofs.Common.{Err, refl, subst}
use Rattle.chunk_format.specs.Chunks.{piece}
use Rattle.import_model.specs.Steps.{Imports}
use Rattle.import_chunks.specs.declared.next.Stop.{Stop}
use Rattle.import_chunks.specs.Told.{next_text, Answers, WantsMemory, Told}
use Rattle.import_chunks.proofs.importing.take_numbered.Goals as goal

pub returns-in-Err-Refused-clause-refused : goal.returns-in-Err-Refused-clause-refused
returns-in-Err-Refused-clause-refused c =
    let h = subst (λ (s : Stop). Answers (Imports (piece c.args.chunk.now) (next_text c.args.names.now c.args.now)) c.take_chunk.new.names c.args.out.now c.take_chunk.new.out (Err s)) c.in-Err-Refused.field-0-is c.in-Err-Refused.ensures in
    Told (c.refused.ensures h.0 h.1) (record { cause = h.0; imports = h.2; refusal = refl })

pub returns-in-Err-Memory-clause-refused : goal.returns-in-Err-Memory-clause-refused
returns-in-Err-Memory-clause-refused c = WantsMemory
