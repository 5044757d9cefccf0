-- What becomes of a script in an image.
use Rattle.std.specs.Prelude.{◌≡◌, ◌≢◌, List, [], ◌++◌, length, Ok}
use Rattle.image_model.specs.Image.{ImageOf}
use Rattle.history_model.specs.Verdicts.{judged_from}
use Rattle.ruled_model.specs.RuledScripts.{Line, History, ruled, ruled_verdict}
use Rattle.script_model.specs.Makers.{Text}
use Rattle.script_model.specs.Scripts.{Says}
use Rattle.apply_model.specs.declared.status.Status.{Status}
use Rattle.apply_model.specs.declared.status.Status.TheVariants as status
use Rattle.apply_model.specs.Applied.{AppliesIn}
use Rattle.applied_scripts.specs.declared.apply.Changed.{Changed}
use Rattle.applied_scripts.specs.declared.apply.Changed.TheVariants as changed

-- all its commands, so many, are performed, and this is the image after; or it is answered otherwise
pub data IsChanged (i : ImageOf Text) (script : Text) (later : ImageOf Text) (sent : Text) : Changed → Type 0 where
  is_done : (requests : List Line) (h : History) → Says script requests → ruled_verdict i requests ≡ Ok h → later ≡ h.now.image → sent ≡ [] → IsChanged i script later sent (changed.Done (length requests))
  is_told : (s : Status) → s ≢ status.Done → AppliesIn i script s sent → IsChanged i script later sent (changed.Told s)

-- the history after the first of some lines
pub record IsAfterLines (h : History) (lines : List Line) (later : History) : Type 0 where
  pub before : List Line
  pub after : List Line
  pub parts : lines ≡ before ++ after
  pub accepted : judged_from ruled 1 h before ≡ Ok later

-- the image as it was, or the one after the first lines of a script
pub data IsAfterPart (i : ImageOf Text) (script : Text) (later : ImageOf Text) : Type 0 where
  is_same : later ≡ i → IsAfterPart i script later
  is_after : (before after : List Line) (h : History) → Says script (before ++ after) → ruled_verdict i before ≡ Ok h → later ≡ h.now.image → IsAfterPart i script later
