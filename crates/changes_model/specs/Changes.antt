-- What `changes` answers to the text of an image and that of a script.
use Rattle.std.specs.Prelude.{◌≡◌, ℕ, List, Ok, Err}
use Rattle.token_model.specs.declared.kind.Dialect.TheVariants.{Second}
use Rattle.st_kernel.specs.KernelText.{prelude_text}
use Rattle.image_model.specs.Image.{ImageOf}
use Rattle.file_model.specs.Causes.{Refusal as ImageRefusal}
use Rattle.file_model.specs.Reading.{IsImageOf, HasRefusal}
use Rattle.script_model.specs.Makers.{Text}
use Rattle.script_model.specs.Commands.{Cause}
use Rattle.script_model.specs.Scripts.{Says, IsRefused}
use Rattle.ruled_model.specs.RuledScripts.{Line, History, Refusal, ruled_verdict}
use Rattle.apply_model.specs.declared.status.Status.{Status}
use Rattle.apply_model.specs.declared.status.Status.TheVariants as status
use Rattle.apply_model.specs.Lines.{script_line, refusal_line}
use Rattle.change_model.specs.Text.{change_text}

-- `changes` answers this script in an image with the status and the bytes: it is wrong at a line; or one of its commands is refused; or what is to be filed in to have the image after all of them is written
pub data ChangesIn (i : ImageOf Text) (script : Text) (s : Status) (sent : Text) : Type 0 where
  NoScript : (number : ℕ) (cause : Cause) → IsRefused script number cause → s ≡ status.ScriptText → sent ≡ script_line number cause → ChangesIn i script s sent
  Refused : (requests : List Line) (r : Refusal) → Says script requests → ruled_verdict i requests ≡ Err r → s ≡ status.Condition → sent ≡ refusal_line r → ChangesIn i script s sent
  Accepted : (requests : List Line) (h : History) → Says script requests → ruled_verdict i requests ≡ Ok h → s ≡ status.Done → sent ≡ change_text i h.now.image → ChangesIn i script s sent

-- `changes` answers these texts, where a refused image is told by such a line
pub data Changes (image_line : ImageRefusal → Text) (text script : Text) (s : Status) (sent : Text) : Type 0 where
  NoImage : (r : ImageRefusal) → HasRefusal Second prelude_text text r → s ≡ status.ImageText → sent ≡ image_line r → Changes image_line text script s sent
  InImage : (i : ImageOf Text) → IsImageOf Second prelude_text text i → ChangesIn i script s sent → Changes image_line text script s sent
