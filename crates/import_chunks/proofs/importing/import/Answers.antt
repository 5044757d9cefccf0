use Rattle.std.proofs.Common.{◌≡◌, Some, Result, Err, subst}
use Rattle.std.proofs.lemmas.Result.{err_from_is_err_and}
use Rattle.chunk_format.specs.Left.{start_of}
use Rattle.chunk_format.specs.Chunks.{IsNext, piece}
use Rattle.chunk_format.specs.declared.chunk_iter.Chunk.{Chunk}
use Rattle.chunk_format.specs.declared.chunk_iter.Unended.{Unended}
use Rattle.file_model.specs.Reading.{no_end}
use Rattle.import_model.specs.Steps.{Outside}
use Rattle.import_model.specs.Imported.{IsImported, Cut, without_mark, ended}
use Rattle.import_chunks.specs.Told.{next_text, RefusesChunk, Told}
use Rattle.import_chunks.proofs.Looping.{Tells-weaker, rest_behind, went_on, was_refused, ended_err, ended_ok}
use Rattle.import_chunks.proofs.importing.import.Goals as goal

pub returns-in_err-now-in-Ok-clause-refused : goal.returns-in_err-now-in-Ok-clause-refused
returns-in_err-now-in-Ok-clause-refused c =
    let now = next_text c.chunks.names c.chunks.now in
    let p = piece c.in-Ok.chunk in
    let next = subst (λ (x : Result Chunk Unended). IsNext c.chunks.left (Some x) c.next.new.self) c.in-Ok.is c.in-Some.ensures.steps in
    let r = err_from_is_err_and c.from_residual.result c.from_residual.ensures.1 in
    rw (r.1, r.2)
    (Tells-weaker (RefusesChunk p now) (λ refusal. IsImported c.args.text.now (Err refusal))
    (λ refusal e. c.chunks.invariant.1 (Err refusal) (was_refused now c.chunks.left c.next.new.self p refusal next.1 e))
    c.in_err-now-in-Ok.field-0.0 c.in_err-now-in-Ok.ensures.refused)

pub chunks-preserved : goal.chunks-preserved
chunks-preserved c =
    let now = next_text c.chunks.names c.chunks.now in
    let p = piece c.in-Ok.chunk in
    let next = subst (λ (x : Result Chunk Unended). IsNext c.chunks.left (Some x) c.next.new.self) c.in-Ok.is c.in-Some.ensures.steps in (
      rest_behind c.chunks.left c.next.new.self p c.chunks.rest.now c.chunks.invariant.0 next.1,
      went_on (start_of (without_mark c.args.text.now)) Outside now (next_text c.take_numbered.new.names c.in_ok-now-in-Ok.now) c.chunks.left c.next.new.self p c.chunks.out c.take_numbered.new.out c.chunks.invariant.1 next.1 c.in_ok-now-in-Ok.ensures.taken,
    )

pub returns-in-Err-clause-refused : goal.returns-in-Err-clause-refused
returns-in-Err-clause-refused c =
    let next = subst (λ (x : Result Chunk Unended). IsNext c.chunks.left (Some x) c.next.new.self) c.in-Err.is c.in-Some.ensures.steps in
    Told c.no_end.ensures (c.chunks.invariant.1 (Err (no_end c.in-Err.unended)) (Cut next.0))

pub returns-in_err-end-clause-refused : goal.returns-in_err-end-clause-refused
returns-in_err-end-clause-refused c =
    let now = next_text c.chunks.names c.chunks.now in
    let r = err_from_is_err_and c.from_residual-in_err-end.result c.from_residual-in_err-end.ensures.1 in
    rw (r.1, r.2)
    (Tells-weaker (λ refusal. ended now c.chunks.rest.now ≡ Err refusal) (λ refusal. IsImported c.args.text.now (Err refusal))
    (λ refusal e. ended_err (start_of (without_mark c.args.text.now)) Outside now c.chunks.left c.chunks.out c.chunks.rest.now refusal c.chunks.invariant.1 c.in_default.ensures.steps.0 c.chunks.invariant.0 e)
    c.in_err-end.field-0.0 c.in_err-end.ensures.refused)

pub returns-clause-imported : goal.returns-clause-imported
returns-clause-imported c =
    ended_ok (start_of (without_mark c.args.text.now)) Outside (next_text c.chunks.names c.chunks.now) c.chunks.left c.chunks.out c.end.new.out c.chunks.rest.now c.chunks.invariant.1 c.in_default.ensures.steps.0 c.chunks.invariant.0 c.in_ok-end.ensures.ended
