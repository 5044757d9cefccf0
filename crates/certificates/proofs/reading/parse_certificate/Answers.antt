use Rattle.std.proofs.Common.{◌≡◌, ◌-◌, length, arith}
use Rattle.certificates.proofs.BadPlace.{bad_place}
use Rattle.certificates.proofs.reading.parse_certificate.Goals as goal

pub returns-in-Err-Bad-clause-fault : goal.returns-in-Err-Bad-clause-fault
returns-in-Err-Bad-clause-fault c =
    let place : c.saturating_sub.result ≡ length c.args.text.now - c.in-Err-Bad.left = omega arith in
    bad_place c.args.text.now c.in-Err-Bad.left c.saturating_sub.result (rw c.in-Err-Bad.field-0-is at c.in-Err-Bad.ensures.halts) place
