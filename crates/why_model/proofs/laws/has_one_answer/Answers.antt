use Rattle.token_model.specs.declared.kind.Dialect.TheVariants.{Second}
use Rattle.st_kernel.specs.KernelText.{prelude_text}
use Rattle.why_model.proofs.OneAnswer.{one}
use Rattle.why_model.proofs.laws.has_one_answer.Goals as goal

pub returns : goal.returns
returns c = λ image_line text script s t sent other a b.
    one c.has_one_reading.ensures.requests c.has_one_reading.ensures.not_both c.has_one_reading.ensures.refusal
    (λ u i j p q. c.has_one_image.ensures.one_image Second prelude_text u i j p q) (λ u i r p q. c.has_one_image.ensures.not_both Second prelude_text u i r p q)
    (λ u r q p x. c.has_one_image.ensures.one_refusal Second prelude_text u r q p x) image_line text script s t sent other a b
