-- Two texts have an answer.
use Rattle.std.proofs.Common.{◌≡◌, ℕ, ◌⊎◌, inl, inr, List, Result, Ok, Err, refl}
use Rattle.token_model.specs.declared.kind.Dialect.TheVariants.{Second}
use Rattle.st_kernel.specs.KernelText.{prelude_text}
use Rattle.image_model.specs.Image.{ImageOf}
use Rattle.file_model.specs.Causes.{Refusal as ImageRefusal}
use Rattle.file_model.specs.Reading.{IsImageOf, HasRefusal}
use Rattle.file_model.specs.Written.{file_of}
use Rattle.ruled_model.specs.RuledScripts.{Line, History, Refusal, ruled_verdict}
use Rattle.script_model.specs.Makers.{Text}
use Rattle.script_model.specs.Commands.{Cause}
use Rattle.script_model.specs.Scripts.{Says, IsRefused}
use Rattle.apply_model.specs.declared.status.Status.{Status}
use Rattle.apply_model.specs.declared.status.Status.TheVariants as status
use Rattle.apply_model.specs.Lines.{script_line, refusal_line}
use Rattle.apply_model.specs.Applied.{NoScript, Refused, Accepted, Applies, NoImage, InImage}

module _ (image_line : ImageRefusal → Text) (text script : Text) where
  abbrev Answered : Type 0
  Answered = (s : Status) × (sent : Text) × Applies image_line text script s sent

  -- what the image and the script come to
  judged-by : (i : ImageOf Text) (rs : List Line) (v : Result History Refusal) → IsImageOf Second prelude_text text i → Says script rs → ruled_verdict i rs ≡ v → Answered
  judged-by i rs (Ok h) is says e = (status.Done, file_of h.now.image, InImage i is (Accepted rs h says e refl refl))
  judged-by i rs (Err r) is says e = (status.Condition, refusal_line r, InImage i is (Refused rs r says e refl refl))

  read-by : (i : ImageOf Text) → IsImageOf Second prelude_text text i → ((requests : List Line) × Says script requests) ⊎ ((number : ℕ) × (cause : Cause) × IsRefused script number cause) → Answered
  read-by i is (inl found) = judged-by i found.0 (ruled_verdict i found.0) is found.1 refl
  read-by i is (inr wrong) = (status.ScriptText, script_line wrong.0 wrong.1, InImage i is (NoScript wrong.0 wrong.1 wrong.2 refl refl))

  -- an answer
  pub some : ((i : ImageOf Text) × IsImageOf Second prelude_text text i) ⊎ ((r : ImageRefusal) × HasRefusal Second prelude_text text r) →
      ((requests : List Line) × Says script requests) ⊎ ((number : ℕ) × (cause : Cause) × IsRefused script number cause) →
      (s : Status) × (sent : Text) × Applies image_line text script s sent
  some (inl found) read = read-by found.0 found.1 read
  some (inr refused) read = (status.ImageText, image_line refused.0, NoImage refused.0 refused.1 refl refl)
