-- Two texts have an answer.
use Rattle.std.proofs.Common.{ℕ, ◌⊎◌, inl, inr, List, refl}
use Rattle.token_model.specs.declared.kind.Dialect.TheVariants.{Second}
use Rattle.st_kernel.specs.KernelText.{prelude_text}
use Rattle.image_model.specs.Image.{ImageOf}
use Rattle.file_model.specs.Causes.{Refusal as ImageRefusal}
use Rattle.file_model.specs.Reading.{IsImageOf, HasRefusal}
use Rattle.script_model.specs.Makers.{Text}
use Rattle.script_model.specs.Commands.{Cause}
use Rattle.log_model.specs.Events.{Event, LogSays, IsLogRefused}
use Rattle.apply_model.specs.declared.status.Status.{Status}
use Rattle.apply_model.specs.declared.status.Status.TheVariants as status
use Rattle.apply_model.specs.Lines.{script_line}
use Rattle.play_model.specs.Played.{played, NoLog, Played, Plays, NoImage, InImage}

module _ (image_line : ImageRefusal → Text) (text log : Text) where
  abbrev Answered : Type 0
  Answered = (s : Status) × (sent : Text) × Plays image_line text log s sent

  read-by : (i : ImageOf Text) → IsImageOf Second prelude_text text i → ((events : List Event) × LogSays log events) ⊎ ((number : ℕ) × (cause : Cause) × IsLogRefused log number cause) → Answered
  read-by i is (inl found) = (status.Done, played i found.0, InImage i is (Played found.0 found.1 refl refl))
  read-by i is (inr wrong) = (status.ScriptText, script_line wrong.0 wrong.1, InImage i is (NoLog wrong.0 wrong.1 wrong.2 refl refl))

  pub some : ((i : ImageOf Text) × IsImageOf Second prelude_text text i) ⊎ ((r : ImageRefusal) × HasRefusal Second prelude_text text r) →
      ((events : List Event) × LogSays log events) ⊎ ((number : ℕ) × (cause : Cause) × IsLogRefused log number cause) →
      (s : Status) × (sent : Text) × Plays image_line text log s sent
  some (inl found) read = read-by found.0 found.1 read
  some (inr refused) read = (status.ImageText, image_line refused.0, NoImage refused.0 refused.1 refl refl)
