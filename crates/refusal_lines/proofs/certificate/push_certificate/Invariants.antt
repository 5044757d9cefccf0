use Rattle.std.proofs.Common.{◌≡◌, ◌++◌, take, map}
use Rattle.std.specs.Prelude.{codes}
use Rattle.text_model.specs.Pieces.{pieces_behind}
use Rattle.certificate_model.specs.CertificateTexts.{step_text}
use Rattle.certificates.specs.Shown.{step_shown}
use Rattle.refusal_lines.proofs.certificate.push_certificate.Given as goal

abbrev pub invariant-loop-step : goal.invariant-loop-step
invariant-loop-step l = l.out ≡ l.initial.out ++ pieces_behind (codes ",") (map step_text (map step_shown (take l.step-index l.rest)))
