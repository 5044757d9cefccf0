use Rattle.std.proofs.Common.{Some, Result, Ok, Err, subst}
use Rattle.std.proofs.lemmas.Result.{err_from_is_err_and}
use Rattle.token_model.specs.declared.kind.Dialect.TheVariants.{Second}
use Rattle.chunk_format.specs.Chunks.{IsNext, piece}
use Rattle.chunk_format.specs.declared.chunk_iter.Chunk.{Chunk}
use Rattle.chunk_format.specs.declared.chunk_iter.Unended.{Unended}
use Rattle.file_model.specs.Reading.{ReadsText, no_end}
use Rattle.file_reading.specs.Filed.{filed, image_so_far}
use Rattle.file_reading.specs.Loop.{Told, RefusesChunk}
use Rattle.file_reading.proofs.Looping.{Tells-weaker, went_over, was_cut, went_on, was_refused, text_read}
use Rattle.file_reading.proofs.read.read_text.Goals as goal

pub returns-in_err-reading-in-Ok-clause-refused : goal.returns-in_err-reading-in-Ok-clause-refused
returns-in_err-reading-in-Ok-clause-refused c =
    let f = filed c.chunks.reading in
    let p = piece c.in-Ok.chunk in
    let next = subst (λ (x : Result Chunk Unended). IsNext c.chunks.left (Some x) c.next.new.self) c.in-Ok.is c.in-Some.ensures.steps in
    let r = err_from_is_err_and c.from_residual.result c.from_residual.ensures.1 in
    rw (r.1, r.2)
    (Tells-weaker (RefusesChunk c.args.kernel f p) (λ refusal. ReadsText Second c.args.kernel (image_so_far c.args.reading) c.args.text.now (Err refusal))
    (λ refusal e. text_read c.args.kernel (image_so_far c.args.reading) c.args.text.now (Err refusal) (c.chunks.invariant.1 (Err refusal) (was_refused c.args.kernel f c.chunks.left c.next.new.self p refusal next.1 e)))
    c.in_err-reading-in-Ok.field-0.0 c.in_err-reading-in-Ok.ensures.refused)

pub chunks-preserved : goal.chunks-preserved
chunks-preserved c =
    let f = filed c.chunks.reading in
    let p = piece c.in-Ok.chunk in
    let next = subst (λ (x : Result Chunk Unended). IsNext c.chunks.left (Some x) c.next.new.self) c.in-Ok.is c.in-Some.ensures.steps in (
      c.in_ok-reading-in-Ok.ensures.sound,
      λ r t. c.chunks.invariant.1 r (went_on c.args.kernel f c.chunks.left c.next.new.self p (filed c.in_ok-reading-in-Ok.reading) r next.1 c.in_ok-reading-in-Ok.ensures.taken t),
    )

pub returns-in-Err-clause-refused : goal.returns-in-Err-clause-refused
returns-in-Err-clause-refused c =
    let f = filed c.chunks.reading in
    let next = subst (λ (x : Result Chunk Unended). IsNext c.chunks.left (Some x) c.next.new.self) c.in-Err.is c.in-Some.ensures.steps in
    Told c.no_end.ensures
    (text_read c.args.kernel (image_so_far c.args.reading) c.args.text.now (Err (no_end c.in-Err.unended)) (c.chunks.invariant.1 (Err (no_end c.in-Err.unended)) (was_cut c.args.kernel f c.chunks.left c.in-Err.unended next.0)))

pub returns-clause-read : goal.returns-clause-read
returns-clause-read c =
    let f = filed c.chunks.reading in
    text_read c.args.kernel (image_so_far c.args.reading) c.args.text.now (Ok f) (c.chunks.invariant.1 (Ok f) (went_over c.args.kernel f c.chunks.left c.in_default.ensures.steps.0))
