use Rattle.std.proofs.Common.{List, ℕ, sym, subst}
use Rattle.std.proofs.lemmas.Result.{err_from_is_err_and}
use Rattle.token_model.specs.declared.kind.Dialect.TheVariants.{Second}
use Rattle.st_kernel.specs.KernelText.{prelude_text}
use Rattle.rb_base.specs.Names.{name_at}
use Rattle.image_model.specs.Image.{ImageOf, map_image}
use Rattle.class_table.specs.View.{number_image}
use Rattle.file_model.specs.Reading.{IsImageOf}
use Rattle.file_faults.specs.Faults.{WantsMemory}
use Rattle.file_reading.proofs.image.read_image.Goals as goal

pub returns-clause-ok : goal.returns-clause-ok
returns-clause-ok c = record {
  image =
      subst (λ (names : List (List ℕ)). IsImageOf Second prelude_text c.args.text.now (map_image (name_at names) (number_image c.in_ok-image.image))) (sym c.in_ok-image.ensures.names)
      (subst (λ (i : ImageOf ℕ). IsImageOf Second prelude_text c.args.text.now (map_image (name_at c.in_ok-reading.reading.names) i)) (sym c.in_ok-image.ensures.image) c.in_ok-reading.ensures.image);
  orderly = c.in_ok-image.ensures.orderly;
}

pub returns-in_err-image-clause-err : goal.returns-in_err-image-clause-err
returns-in_err-image-clause-err c =
    let r = err_from_is_err_and c.from_residual-in_err-image.result c.from_residual-in_err-image.ensures.1 in
    rw (r.1, r.2) WantsMemory
