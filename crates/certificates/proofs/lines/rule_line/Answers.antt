-- What the parts of a line say, the line asks for.
use Rattle.std.proofs.Common.{ℕ, subst, map, rules}
use Rattle.certified_model.specs.Marks.{Text}
use Rattle.certificate_model.specs.CertificateTexts.{SaysCertificate}
use Rattle.rule_model.specs.RuleLines.{HasArrowAt, IsCut, Asks, NoArrow}
use Rattle.certificates.specs.Shown.{step_shown}
use Rattle.certificates.specs.Asked.{command_in}
use Rattle.certificates.proofs.Asking.{none_asked}
use Rattle.certificates.proofs.lines.rule_line.Goals as goal

pub returns-clause-said : goal.returns-clause-said
returns-clause-said c = Asks (command_in c.read_rule.new.names (record { certificate = c.in_ok-certificate.certificate; rule = c.in_ok-rule.rule })) (record {
  first = c.in-Some.pattern.now;
  second = c.in-Some.replacement.now;
  certificate = subst (λ (t : Text). SaysCertificate t (map step_shown c.in_ok-certificate.certificate.steps.items)) c.split_word.ensures.word c.in_ok-certificate.ensures.said;
  cut = subst (λ (t : Text). IsCut t c.in-Some.pattern.now c.in-Some.replacement.now) c.split_word.ensures.rest c.in-Some.ensures;
  rule = record { pattern = c.in_ok-rule.ensures.pattern; replacement = c.in_ok-rule.ensures.replacement };
})

pub returns-in_err-certificate-clause-none : goal.returns-in_err-certificate-clause-none
returns-in_err-certificate-clause-none c = none_asked c.args.text.now c.from_residual.result (search rules)

pub returns-in_default-clause-fault : goal.returns-in_default-clause-fault
returns-in_default-clause-fault c = subst (λ (t : Text). (k : ℕ) → HasArrowAt t k → ⊥) c.split_word.ensures.rest c.in_default.ensures

pub returns-in_default-clause-none : goal.returns-in_default-clause-none
returns-in_default-clause-none c = λ h. NoArrow (subst (λ (t : Text). (k : ℕ) → HasArrowAt t k → ⊥) c.split_word.ensures.rest c.in_default.ensures)

pub returns-in_err-rule-clause-none : goal.returns-in_err-rule-clause-none
returns-in_err-rule-clause-none c = none_asked c.args.text.now c.from_residual-in_err-rule.result (search rules)
