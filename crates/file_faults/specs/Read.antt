-- What it is that an image was read from a file-out.
use Rattle.token_model.specs.declared.kind.Dialect.TheVariants.{Second}
use Rattle.class_table.specs.Slots.{Slots}
use Rattle.class_table.specs.View.{image_of}
use Rattle.class_table.specs.Valid.{IsOrderly}
use Rattle.file_model.specs.Filing.{Text}
use Rattle.file_model.specs.Reading.{IsImageOf}

-- the slots stand for the image of the text, read behind the kernel, and are those of a whole image
pub record IsReadFrom (prelude text : Text) (s : Slots) : Type 0 where
  pub image : IsImageOf Second prelude text (image_of s)
  pub orderly : IsOrderly s
