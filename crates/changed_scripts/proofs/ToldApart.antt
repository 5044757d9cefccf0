-- Members of the image after a script are told apart.
use Rattle.std.proofs.Common.{◌≡◌, List, [], Result, Ok, Err, refl, sym, ap, subst, ◌∙◌}
use Rattle.token_model.specs.declared.kind.Dialect.TheVariants.{Second}
use Rattle.st_kernel.specs.KernelText.{prelude_text}
use Rattle.image_model.specs.Image.{ImageOf}
use Rattle.file_model.specs.Causes.{Refusal as ImageRefusal}
use Rattle.file_model.specs.Filing.{Text}
use Rattle.file_model.specs.Reading.{IsImageOf}
use Rattle.file_model.specs.Written.{file_of}
use Rattle.script_model.specs.Scripts.{Says}
use Rattle.ruled_model.specs.RuledScripts.{Line, History, Refusal, ruled_verdict}
use Rattle.apply_model.specs.declared.status.Status.{Status}
use Rattle.apply_model.specs.declared.status.Status.TheVariants as status
use Rattle.apply_model.specs.Applied.{AppliesIn, Accepted, Applies, InImage}
use Rattle.apply_laws.specs.FileOuts.{IsValidFileOut}
use Rattle.change_file.specs.Shown.{IsToldApart}
use Rattle.change_file.proofs.ToldApart.{valid_apart}
use Rattle.changed_scripts.specs.OneText.{StaysApart}

-- the text and the script have one image after, and it is valid
pub stays_apart : (text script : Text) (i : ImageOf Text) → IsImageOf Second prelude_text text i
    → ((image_line : ImageRefusal → Text) (s : Status) (sent : Text) → Applies image_line text script s sent → s ≡ status.Done → IsValidFileOut text script sent)
    → ((j k : ImageOf Text) → IsImageOf Second prelude_text text j → IsImageOf Second prelude_text text k → j ≡ k)
    → ((rs qs : List Line) → Says script rs → Says script qs → rs ≡ qs) → StaysApart i script
stays_apart text script i is done one_image one_reading requests h says v =
    let out = done (λ r. []) status.Done (file_of h.now.image) (InImage i is (Accepted requests h says v refl refl)) refl in
    let made = out.changed in
    let results : ◌≡◌ {A = Result History Refusal} (Ok made.history) (Ok h) =
    sym made.accepted ∙ (λ j. ruled_verdict (one_image made.image i made.is_image is j) (one_reading made.requests requests made.says says j)) ∙ v in
    let same : made.history ≡ h = cc in
    subst (λ (g : History). IsToldApart g.now.image) same (valid_apart made.is_image.kernel made.history.now.image out.valid)
