use Rattle.token_model.specs.declared.kind.Dialect.TheVariants.{Second}
use Rattle.class_table.specs.View.{image_of}
use Rattle.change_file.proofs.ToldApart.{valid_apart}
use Rattle.call_tests.proofs.differences.image_in.Goals as goal

pub returns-in-Ok-clause-apart : goal.returns-in-Ok-clause-apart
returns-in-Ok-clause-apart c =
    let is = c.in-Ok.ensures.ok.image in
    let i = image_of c.in-Ok.image in
    valid_apart is.kernel i (c.every_image_is_valid.ensures.valid Second c.args.text.now is.kernel i is.is_kernel is)
