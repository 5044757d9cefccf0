use Rattle.std.proofs.Common.{◌≡◌, ◌++◌, length, map}
use Rattle.std.specs.List.{AllByRecursion}
use Rattle.certificate_model.specs.CertificateTexts.{IsStep}
use Rattle.certificates.specs.Shown.{step_shown}
use Rattle.certificates.specs.Stops.{a_sign, left_from}
use Rattle.certificates.proofs.Joined.{steps_ended}
use Rattle.certificates.proofs.reading.steps_in.Given as goal

abbrev pub invariant-steps : goal.invariant-steps
invariant-steps l = record {
  good : AllByRecursion IsStep (map step_shown l.steps.items);
  spelled : l.fn.text ≡ steps_ended (map step_shown l.steps.items) ++ l.rest;
  goes_on : left_from a_sign l.fn.text ≡ left_from a_sign l.rest;
}

abbrev pub decreases-steps : goal.decreases-steps
decreases-steps l = length l.rest
