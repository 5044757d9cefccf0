use Rattle.std.proofs.Common.{◌≡◌, ◌++◌, length}
use Rattle.std.specs.List.{AllByRecursion}
use Rattle.certificate_model.specs.CertificateTexts.{HasNineDigits}
use Rattle.certificates.specs.Stops.{a_path, a_number, left_from}
use Rattle.certificates.proofs.Joined.{numbers_ended}
use Rattle.certificates.proofs.reading.path_in.Given as goal

abbrev pub invariant-numbers : goal.invariant-numbers
invariant-numbers l = record {
  good : AllByRecursion HasNineDigits l.path;
  spelled : l.fn.text ≡ numbers_ended l.path ++ l.rest;
  goes_on : left_from a_path l.fn.text ≡ left_from a_number l.rest;
}

abbrev pub decreases-numbers : goal.decreases-numbers
decreases-numbers l = length l.rest
