use Rattle.std.proofs.Common.{refl, ap}
use Rattle.std.proofs.lemmas.Result.{err_from_is_err_and}
use Rattle.file_model.specs.Causes.{UnknownDefinition}
use Rattle.import_model.specs.Imported.{ended}
use Rattle.import_chunks.specs.declared.next.Next.{Next}
use Rattle.import_chunks.specs.Told.{next_text, WantsMemory, Told}
use Rattle.import_chunks.proofs.importing.end.Goals as goal

pub returns-in-AtComment-clause-refused : goal.returns-in-AtComment-clause-refused
returns-in-AtComment-clause-refused c =
    Told (c.refused.ensures UnknownDefinition refl) (ap (λ (n : Next). ended (next_text c.args.names.now n) c.args.blanks.now) c.in-AtComment.is)

pub returns-in_err-push_slice : goal.returns-in_err-push_slice
returns-in_err-push_slice c =
    let r = err_from_is_err_and c.from_residual.result c.from_residual.ensures.1 in
    rw (r.1, r.2) (record { ended = tt; refused = WantsMemory })
