-- What is wanted of single commands, so that scripts of them keep runs.
use Rattle.std.specs.Prelude.{◌≡◌, None}
use Rattle.token_model.specs.declared.kind.Dialect.TheVariants.{Second}
use Rattle.image_model.specs.Image.{ImageOf}
use Rattle.image_model.specs.Words.{text_words}
use Rattle.image_model.specs.Valid.{IsValid, IsFileable}
use Rattle.run_model.specs.Values.{Name}
use Rattle.run_model.specs.Matched.{AreMatched}
use Rattle.file_model.specs.Fileable.{reading_of}
use Rattle.file_rereading.specs.Rereading.{KernelFirst}
use Rattle.rename_model.specs.ClassRenamed.{canonical}
use Rattle.command_model.specs.Asked.{text_asked}
use Rattle.command_model.specs.Commands.{CommandOf}
use Rattle.command_model.specs.Effects.{effect}
use Rattle.command_model.specs.Judged.{first_false}
use Rattle.command_model.specs.Renamings.{renaming_of}
use Rattle.session_model.specs.Scripts.{Version}
use Rattle.kept_runs.specs.WellSpelled.{IsWellSpelled}

-- valid behind the kernel, in the second dialect
abbrev pub IsSound : ImageOf Name → ImageOf Name → Type 0
IsSound kernel i = IsValid text_words (reading_of Second kernel) i

-- In each valid image where no condition of the command is false, the image after is valid, can be written where the image before can, has the kernel first where that has, and is matched by it up to what the command renames.
pub record KeepsRuns (kernel : ImageOf Name) (command : CommandOf Name) : Type 0 where
  pub valid : (i : ImageOf Name) → IsSound kernel i → first_false text_asked i command ≡ None → IsSound kernel (effect text_asked canonical command i)
  pub fileable : (i : ImageOf Name) → IsSound kernel i → IsFileable (reading_of Second kernel) i → first_false text_asked i command ≡ None →
      IsFileable (reading_of Second kernel) (effect text_asked canonical command i)
  pub first : (i : ImageOf Name) → IsSound kernel i → KernelFirst kernel i → first_false text_asked i command ≡ None → KernelFirst kernel (effect text_asked canonical command i)
  pub matched : (i : ImageOf Name) → IsSound kernel i → first_false text_asked i command ≡ None → AreMatched i (effect text_asked canonical command i) (renaming_of i command)

-- each single command that is well spelled does so
abbrev pub AllKeepRuns : ImageOf Name → Type 0
AllKeepRuns kernel = (command : CommandOf Name) → IsWellSpelled command → KeepsRuns kernel command

-- A version of the history of an image keeps its runs: it is valid, can be written where the image can, has the kernel first where the image has, and is matched by the image up to its renaming.
pub record IsKept (kernel i : ImageOf Name) (v : Version) : Type 0 where
  pub valid : IsSound kernel v.image
  pub fileable : IsFileable (reading_of Second kernel) i → IsFileable (reading_of Second kernel) v.image
  pub first : KernelFirst kernel i → KernelFirst kernel v.image
  pub matched : AreMatched i v.image v.renaming
