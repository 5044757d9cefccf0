use Rattle.std.proofs.Common.{true, Ok, subst}
use Rattle.std.proofs.lemmas.Result.{err_from_is_err_and}
use Rattle.token_model.specs.declared.kind.Dialect.TheVariants.{Second}
use Rattle.st_kernel.specs.KernelText.{prelude_text}
use Rattle.image_model.specs.Image.{ImageOf}
use Rattle.file_model.specs.Filing.{Text}
use Rattle.file_model.specs.Reading.{ReadsText}
use Rattle.file_faults.specs.Faults.{WantsMemory}
use Rattle.file_reading.specs.Filed.{filed, image_so_far}
use Rattle.file_reading.proofs.Looping.{is_kernel, image_refused}
use Rattle.file_reading.proofs.read.read_draft.Goals as goal

pub returns-in-Err-clause-refused : goal.returns-in-Err-clause-refused
returns-in-Err-clause-refused c = WantsMemory

pub returns-in_err-start-clause-refused : goal.returns-in_err-start-clause-refused
returns-in_err-start-clause-refused c =
    let r = err_from_is_err_and c.from_residual.result c.from_residual.ensures.1 in
    rw (r.1, r.2) WantsMemory

pub returns-in_err-progress-clause-refused : goal.returns-in_err-progress-clause-refused
returns-in_err-progress-clause-refused c =
    let k = filed c.in-Ok.kernel in
    let reads = subst (λ (t : Text). ReadsText Second true (image_so_far c.in_ok-start.start) t (Ok k)) c.prelude.ensures c.in-Ok.ensures.read in
    let r = err_from_is_err_and c.from_residual-in_err-progress.result c.from_residual-in_err-progress.ensures.1 in
    rw (r.1, r.2)
    (image_refused prelude_text c.args.text.now k (subst (λ (i : ImageOf Text). ReadsText Second true i prelude_text (Ok k)) c.in_ok-start.ensures.image reads) c.in_err-progress.field-0.0 c.in_err-progress.ensures.refused)

pub returns-in_err-reading-clause-refused : goal.returns-in_err-reading-clause-refused
returns-in_err-reading-clause-refused c =
    let r = err_from_is_err_and c.from_residual-in_err-reading.result c.from_residual-in_err-reading.ensures.1 in
    rw (r.1, r.2) WantsMemory

pub returns-clause-image : goal.returns-clause-image
returns-clause-image c =
    let k = filed c.in-Ok.kernel in
    let reads = subst (λ (t : Text). ReadsText Second true (image_so_far c.in_ok-start.start) t (Ok k)) c.prelude.ensures c.in-Ok.ensures.read in
    record {
      kernel = k.image;
      is_kernel = is_kernel prelude_text c.args.text.now k (subst (λ (i : ImageOf Text). ReadsText Second true i prelude_text (Ok k)) c.in_ok-start.ensures.image reads);
      end = filed c.in_ok-progress.progress;
      reads = c.in_ok-progress.ensures.read;
      image = c.in_ok-reading.ensures.image;
    }
