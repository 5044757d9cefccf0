-- What `team` answers to the text of an image and that of a log.
use Rattle.std.specs.Prelude.{◌≡◌, ℕ, codes, List, ◌++◌}
use Rattle.token_model.specs.declared.kind.Dialect.TheVariants.{Second}
use Rattle.st_kernel.specs.KernelText.{prelude_text}
use Rattle.image_model.specs.Image.{ImageOf}
use Rattle.file_model.specs.Causes.{Refusal as ImageRefusal}
use Rattle.file_model.specs.Reading.{IsImageOf, HasRefusal}
use Rattle.file_model.specs.Written.{file_of}
use Rattle.script_model.specs.Makers.{Text}
use Rattle.script_model.specs.Commands.{Cause}
use Rattle.log_model.specs.Events.{Event, LogSays, IsLogRefused}
use Rattle.apply_model.specs.declared.status.Status.{Status}
use Rattle.apply_model.specs.declared.status.Status.TheVariants as status
use Rattle.apply_model.specs.Lines.{line, script_line}
use Rattle.play_model.specs.Replies.{replies_in, led_to, reply_lines}

-- what is printed of a log: a line for each event, two minus signs, and the file of the image at the end
abbrev pub played : ImageOf Text → List Event → Text
played i events = reply_lines 1 (replies_in i events) ++ line (codes "--") ++ file_of (led_to i events).history.now.image

-- `team` answers this log in an image with the status and the bytes: it is wrong at a line, or it is played
pub data PlaysIn (i : ImageOf Text) (log : Text) (s : Status) (sent : Text) : Type 0 where
  NoLog : (number : ℕ) (cause : Cause) → IsLogRefused log number cause → s ≡ status.ScriptText → sent ≡ script_line number cause → PlaysIn i log s sent
  Played : (events : List Event) → LogSays log events → s ≡ status.Done → sent ≡ played i events → PlaysIn i log s sent

-- `team` answers these texts, if a refused image has such a line
pub data Plays (image_line : ImageRefusal → Text) (text log : Text) (s : Status) (sent : Text) : Type 0 where
  NoImage : (r : ImageRefusal) → HasRefusal Second prelude_text text r → s ≡ status.ImageText → sent ≡ image_line r → Plays image_line text log s sent
  InImage : (i : ImageOf Text) → IsImageOf Second prelude_text text i → PlaysIn i log s sent → Plays image_line text log s sent
