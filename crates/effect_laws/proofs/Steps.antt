-- What a command makes of a valid image.
use Rattle.std.proofs.Common.{◌≡◌, None}
use Rattle.token_model.specs.declared.kind.Dialect.TheVariants.{Second}
use Rattle.image_model.specs.Image.{ImageOf}
use Rattle.image_model.specs.Words.{text_words}
use Rattle.image_model.specs.Valid.{IsValid, IsFileable}
use Rattle.file_model.specs.Filing.{Text}
use Rattle.file_model.specs.Fileable.{reading_of}
use Rattle.rename_model.specs.ClassRenamed.{canonical}
use Rattle.command_model.specs.Asked.{text_asked}
use Rattle.command_model.specs.Commands.{CommandOf, MovesNoCode}
use Rattle.command_model.specs.Effects.{effect}
use Rattle.command_model.specs.Judged.{first_false}
use Rattle.file_rereading.specs.Rereading.{KernelFirst}
use Rattle.command_model.specs.Spelled.{IsSpelled, MayBeFiled}
use Rattle.command_model.proofs.Held.{all-hold}
use Rattle.effect_laws.proofs.Sound.{sound_of, valid_of}
use Rattle.effect_laws.proofs.Kernel.{IsWhole}
use Rattle.effect_laws.proofs.EffectsKept.{kept}
use Rattle.effect_laws.proofs.KernelInFront.{front_kept, fronts_of, first_of}
use Rattle.effect_laws.proofs.Filed.{filed_of, fileable}
use Rattle.effect_laws.proofs.FiledCommands.{kept_filed}

module _ (kernel : ImageOf Text) (whole : IsWhole kernel) where
  -- an image that is valid by itself
  abbrev IsValidImage : ImageOf Text → Type 0
  IsValidImage i = IsValid text_words (reading_of Second kernel) i

  pub effect_valid : (i : ImageOf Text) (command : CommandOf Text) → IsValidImage i → MovesNoCode command → IsSpelled command → first_false text_asked i command ≡ None → IsValidImage (effect text_asked canonical command i)
  effect_valid i command v shape t none = valid_of kernel (effect text_asked canonical command i) (kept kernel i (sound_of kernel i v) whole command shape t (all-hold text_asked i command none))

  pub effect_first : (i : ImageOf Text) (command : CommandOf Text) → IsValidImage i → MovesNoCode command → IsSpelled command → first_false text_asked i command ≡ None → KernelFirst kernel i → KernelFirst kernel (effect text_asked canonical command i)
  effect_first i command v shape t none f =
      let s = sound_of kernel i v in
      let h = all-hold text_asked i command none in
      first_of kernel (effect text_asked canonical command i) (kept kernel i s whole command shape t h) (front_kept kernel i s whole command shape h (fronts_of kernel i s f))

  pub effect_fileable : (i : ImageOf Text) (command : CommandOf Text) → IsValidImage i → MovesNoCode command → IsSpelled command → MayBeFiled command → first_false text_asked i command ≡ None → IsFileable (reading_of Second kernel) i → IsFileable (reading_of Second kernel) (effect text_asked canonical command i)
  effect_fileable i command b shape t u none f =
      let s = sound_of kernel i b in
      let h = all-hold text_asked i command none in
      fileable kernel (effect text_asked canonical command i) (kept kernel i s whole command shape t h) (kept_filed kernel i s whole (filed_of kernel i s f) command shape (t, u) h)
