use Rattle.token_model.specs.declared.kind.Dialect.TheVariants.{Second}
use Rattle.strip_texts.proofs.laws.methods_stand_once.Goals as goal

pub returns : goal.returns
returns c = λ text image read.
    let kernel = c.kernel_is_read.ensures Second in
    (c.every_image_is_valid.ensures.valid Second text kernel.0 image kernel.1 read).methods_once
