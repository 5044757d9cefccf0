-- Which images change files are to make of others.
use Rattle.std.specs.Prelude.{◌≡◌, length}
use Rattle.token_model.specs.declared.kind.Dialect.TheVariants.{Second}
use Rattle.image_model.specs.Image.{ImageOf}
use Rattle.image_model.specs.Valid.{IsValid, IsFileable}
use Rattle.image_model.specs.Words.{text_words}
use Rattle.file_model.specs.Fileable.{reading_of}
use Rattle.file_model.specs.Filing.{Text}
use Rattle.file_rereading.specs.Rereading.{IsWithinLimits, KernelFirst}

-- The second image is valid behind the kernel, can be written, and has no more classes and methods than there may be; it has as many do-its as the first, and the same of them at its head.
pub record IsOtherOf (kernel i j : ImageOf Text) : Type 0 where
  pub valid : IsValid text_words (reading_of Second kernel) j
  pub fileable : IsFileable (reading_of Second kernel) j
  pub first : KernelFirst kernel j
  pub few : IsWithinLimits j
  pub doits : length i.doits ≡ length j.doits
  pub heads : i.heads ≡ j.heads
