use Rattle.token_model.specs.declared.kind.Dialect.TheVariants.{Second}
use Rattle.st_kernel.specs.KernelText.{prelude_text}
use Rattle.change_file.proofs.ToldApart.{valid_apart}
use Rattle.changed_scripts.proofs.ToldApart.{stays_apart}
use Rattle.changed_scripts.proofs.laws.law_of_one_text.Goals as goal

pub returns-clause-same : goal.returns-clause-same
returns-clause-same c = λ i j of. c.has_one_image.ensures.one_image Second prelude_text of.0 j i of.2 of.1

pub returns-clause-apart : goal.returns-clause-apart
returns-clause-apart c = λ i j of. valid_apart of.1.kernel i (c.every_image_is_valid.ensures.valid Second of.0 of.1.kernel i of.1.is_kernel of.1)

pub returns-clause-after : goal.returns-clause-after
returns-clause-after c = λ i j script of.
    stays_apart of.0 script i of.1 (λ image_line s sent applies e. c.law_applied.ensures.done image_line of.0 script s sent applies e)
    (λ k l p q. c.has_one_image.ensures.one_image Second prelude_text of.0 k l p q) (λ rs qs p q. c.has_one_reading.ensures.requests script rs qs p q)
