-- Two texts have an answer.
use Rattle.std.proofs.Common.{◌≡◌, ℕ, ◌⊎◌, inl, inr, List, Result, Ok, Err, refl}
use Rattle.std.specs.Prelude.{[]}
use Rattle.token_model.specs.declared.kind.Dialect.TheVariants.{Second}
use Rattle.st_kernel.specs.KernelText.{prelude_text}
use Rattle.image_model.specs.Image.{ImageOf}
use Rattle.file_model.specs.Causes.{Refusal as ImageRefusal}
use Rattle.file_model.specs.Reading.{IsImageOf, HasRefusal}
use Rattle.query_model.specs.Lines.{Text}
use Rattle.history_model.specs.Verdicts.{IsRefusedAt}
use Rattle.history_model.proofs.Parts.{refused-at}
use Rattle.script_model.specs.Commands.{Cause}
use Rattle.script_model.specs.Scripts.{Says, IsRefused}
use Rattle.ruled_model.specs.RuledScripts.{Line, History, Refusal, ruled, ruled_verdict}
use Rattle.apply_model.specs.declared.status.Status.{Status}
use Rattle.apply_model.specs.declared.status.Status.TheVariants as status
use Rattle.apply_model.specs.Lines.{script_line}
use Rattle.why_model.specs.Refusals.{line_refused}
use Rattle.why_model.specs.Spelled.{IsSpelledJudging}
use Rattle.why_model.specs.Why.{NoScript, Refused, Accepted, Why, NoImage, InImage}
use Rattle.why_model.proofs.SomeExplanation.{some-explanation}

module _ (image_line : ImageRefusal → Text) (text script : Text)
    (spelled : (i : ImageOf Text) (rs : List Line) (refusal : Refusal) (r : IsRefusedAt ruled i rs refusal) → IsImageOf Second prelude_text text i → Says script rs → IsSpelledJudging (line_refused r.history.now.image r.line)) where
  abbrev Answered : Type 0
  Answered = (s : Status) × (sent : Text) × Why image_line text script s sent

  -- what the image and the script come to
  judged-by : (i : ImageOf Text) (rs : List Line) (v : Result History Refusal) → IsImageOf Second prelude_text text i → Says script rs → ruled_verdict i rs ≡ v → Answered
  judged-by i rs (Ok h) is says e = (status.Done, [], InImage i is (Accepted rs h says e refl refl))
  judged-by i rs (Err refusal) is says e =
      let r = refused-at ruled i rs refusal e in
      let why = some-explanation i script rs refusal r says (spelled i rs refusal r is says) in
      (status.Condition, why.0, InImage i is (Refused why.1 refl))

  read-by : (i : ImageOf Text) → IsImageOf Second prelude_text text i → ((requests : List Line) × Says script requests) ⊎ ((number : ℕ) × (cause : Cause) × IsRefused script number cause) → Answered
  read-by i is (inl found) = judged-by i found.0 (ruled_verdict i found.0) is found.1 refl
  read-by i is (inr wrong) = (status.ScriptText, script_line wrong.0 wrong.1, InImage i is (NoScript wrong.0 wrong.1 wrong.2 refl refl))

  -- an answer
  pub some : ((i : ImageOf Text) × IsImageOf Second prelude_text text i) ⊎ ((r : ImageRefusal) × HasRefusal Second prelude_text text r) →
      ((requests : List Line) × Says script requests) ⊎ ((number : ℕ) × (cause : Cause) × IsRefused script number cause) →
      (s : Status) × (sent : Text) × Why image_line text script s sent
  some (inl found) read = read-by found.0 found.1 read
  some (inr refused) read = (status.ImageText, image_line refused.0, NoImage refused.0 refused.1 refl refl)
