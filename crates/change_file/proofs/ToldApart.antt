-- Members of valid images are told apart.
use Rattle.token_model.specs.declared.kind.Dialect.TheVariants.{Second}
use Rattle.image_model.specs.Image.{ClassOf, ImageOf}
use Rattle.image_model.specs.Words.{text_words}
use Rattle.image_model.specs.Valid.{IsValid}
use Rattle.file_model.specs.Fileable.{reading_of}
use Rattle.file_model.specs.Filing.{Text}
use Rattle.file_laws.proofs.Moves.{text_equal}
use Rattle.change_model.specs.Equal.{is_namesake}
use Rattle.change_laws.proofs.Images.{methods_apart}
use Rattle.change_laws.proofs.Tests.{apart_from}
use Rattle.change_file.specs.Shown.{IsToldApart}

pub valid_apart : (kernel i : ImageOf Text) → IsValid text_words (reading_of Second kernel) i → IsToldApart i
valid_apart kernel i v = record {
  classes = apart_from (λ (c : ClassOf Text). c.name) is_namesake i.classes (λ c d h k e. text_equal c.name d.name e) v.class_names_distinct;
  methods = methods_apart kernel i v;
}
