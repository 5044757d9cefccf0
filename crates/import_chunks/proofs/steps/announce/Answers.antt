use Rattle.std.proofs.Common.{refl}
use Rattle.chunk_format.specs.Chunks.{piece}
use Rattle.file_model.specs.Causes.{UnknownDefinition}
use Rattle.chunk_forms.specs.Told.{sent_text}
use Rattle.import_chunks.proofs.Taking.{no_comment}
use Rattle.import_chunks.proofs.steps.announce.Goals as goal

pub returns-then-sent : goal.returns-then-sent
returns-then-sent c = (UnknownDefinition, refl, no_comment (piece c.args.chunk.now) (sent_text c.args.names.now c.args.sent.now) c.if-sent.true)
