use Rattle.std.proofs.lemmas.Result.{err_from_is_err_and}
use Rattle.st_faults.specs.Forms.{form_of}
use Rattle.st_faults.proofs.Scanning.{refused}
use Rattle.st_faults.proofs.check.check.Goals as goal

pub returns-in_err-scan-clause-fault : goal.returns-in_err-scan-clause-fault
returns-in_err-scan-clause-fault c =
    let p = err_from_is_err_and c.from_residual.result c.from_residual.ensures.1 in
    rw (p.1, p.2) (refused (form_of c.args.form) c.args.text.now c.in_err-scan.field-0.0 c.in_err-scan.ensures.fault)
