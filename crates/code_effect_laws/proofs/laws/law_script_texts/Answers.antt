use Rattle.token_model.specs.declared.kind.Dialect.TheVariants.{Second}
use Rattle.code_effect_laws.proofs.laws.law_script_texts.Goals as goal

pub returns-clause-valid : goal.returns-clause-valid
returns-clause-valid k text i script h is spelled accepted =
    k.law_script_images.ensures.valid is.kernel i script h is.is_kernel (k.every_image_is_valid.ensures.valid Second text is.kernel i is.is_kernel is) spelled accepted

pub returns-clause-read_again : goal.returns-clause-read_again
returns-clause-read_again k text i script h is spelled accepted within =
    let valid = k.every_image_is_valid.ensures.valid Second text is.kernel i is.is_kernel is in
    k.every_image_is_read_again.ensures.written is.kernel h.now.image is.is_kernel
    (k.law_script_images.ensures.first is.kernel i script h is.is_kernel valid spelled accepted (k.every_image_is_valid.ensures.first Second text is.kernel i is.is_kernel is))
    (k.law_script_images.ensures.valid is.kernel i script h is.is_kernel valid spelled accepted)
    (k.law_script_images.ensures.fileable is.kernel i script h is.is_kernel valid spelled accepted (k.every_image_is_valid.ensures.fileable Second text is.kernel i is.is_kernel is)) within
