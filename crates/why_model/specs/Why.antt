-- What `why` answers to the text of an image and that of a script.
use Rattle.std.specs.Prelude.{◌≡◌, ℕ, List, [], Ok}
use Rattle.token_model.specs.declared.kind.Dialect.TheVariants.{Second}
use Rattle.st_kernel.specs.KernelText.{prelude_text}
use Rattle.image_model.specs.Image.{ImageOf}
use Rattle.file_model.specs.Causes.{Refusal as ImageRefusal}
use Rattle.file_model.specs.Reading.{IsImageOf, HasRefusal}
use Rattle.query_model.specs.Lines.{Text}
use Rattle.script_model.specs.Commands.{Cause}
use Rattle.script_model.specs.Scripts.{Says, IsRefused}
use Rattle.ruled_model.specs.RuledScripts.{Line, History, ruled_verdict}
use Rattle.apply_model.specs.declared.status.Status.{Status}
use Rattle.apply_model.specs.declared.status.Status.TheVariants as status
use Rattle.apply_model.specs.Lines.{script_line}
use Rattle.why_model.specs.Explained.{IsExplained}

-- `why` answers this script in an image with the status and the bytes: it is wrong at a line; or one of its commands is refused, which is explained; or nothing is in the way of it
pub data WhyIn (i : ImageOf Text) (script : Text) (s : Status) (sent : Text) : Type 0 where
  NoScript : (number : ℕ) (cause : Cause) → IsRefused script number cause → s ≡ status.ScriptText → sent ≡ script_line number cause → WhyIn i script s sent
  Refused : IsExplained i script sent → s ≡ status.Condition → WhyIn i script s sent
  Accepted : (requests : List Line) (h : History) → Says script requests → ruled_verdict i requests ≡ Ok h → s ≡ status.Done → sent ≡ [] → WhyIn i script s sent

-- `why` answers these texts, with such a line for a refused image
pub data Why (image_line : ImageRefusal → Text) (text script : Text) (s : Status) (sent : Text) : Type 0 where
  NoImage : (r : ImageRefusal) → HasRefusal Second prelude_text text r → s ≡ status.ImageText → sent ≡ image_line r → Why image_line text script s sent
  InImage : (i : ImageOf Text) → IsImageOf Second prelude_text text i → WhyIn i script s sent → Why image_line text script s sent
