use Rattle.token_model.specs.declared.kind.Dialect.TheVariants.{Second}
use Rattle.apply_laws.proofs.SpelledRequests.{requests-spelled}
use Rattle.why_laws.proofs.SpelledCode.{refused-spelled}
use Rattle.why_laws.proofs.SomeAnswer.{some}
use Rattle.why_laws.proofs.laws.has_some_answer.Goals as goal

pub returns : goal.returns
returns c = λ image_line text script.
    some image_line text script
    (λ i rs refusal r is says.
    refused-spelled is.kernel is.is_kernel (c.law_effect.ensures is.kernel is.is_kernel) (λ rule told. c.law_rule_keeps_runs.ensures is.kernel rule told)
    (λ j lines h sound told v. c.law_scripts.ensures.kept is.kernel j lines h is.is_kernel sound told v)
    i rs refusal r (c.every_image_is_valid.ensures.valid Second text is.kernel i is.is_kernel is)
    (requests-spelled (λ first second rule told. c.law_said_rule.ensures first second rule told) script rs says))
    (c.every_text_is_read_or_refused.ensures Second text) (c.has_one_reading.ensures.either script)
