-- What is said of the file-out that `apply` prints, whatever the commands of the script are.
use Rattle.token_model.specs.declared.kind.Dialect.TheVariants.{Second}
use Rattle.st_kernel.specs.KernelText.{prelude_text}
use Rattle.image_model.specs.Valid.{IsValid}
use Rattle.image_model.specs.Words.{text_words}
use Rattle.file_model.specs.Fileable.{reading_of}
use Rattle.file_model.specs.Reading.{IsImageOf}
use Rattle.file_rereading.specs.Rereading.{IsWithinLimits, with_heads}
use Rattle.script_model.specs.Makers.{Text}
use Rattle.apply_laws.specs.Promised.{IsChangedFile}

-- The printed text is the changed file, and the image that the script makes is valid behind the kernel. Within the limits of a file the printed text is read again as that image, with the do-its at its head counted anew.
pub record IsValidFileOut (text script printed : Text) : Type 0 where
  pub changed : IsChangedFile text script printed
  pub valid : IsValid text_words (reading_of Second changed.is_image.kernel) changed.history.now.image
  pub read_again : IsWithinLimits changed.history.now.image → IsImageOf Second prelude_text printed (with_heads changed.history.now.image)
