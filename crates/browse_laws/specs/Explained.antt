-- What is promised of the answers of `why`.
use Rattle.std.specs.Prelude.{◌≡◌, List, [], ◌++◌, Some, Ok}
use Rattle.token_model.specs.declared.kind.Dialect.TheVariants.{Second}
use Rattle.st_kernel.specs.KernelText.{prelude_text}
use Rattle.image_model.specs.Image.{ImageOf}
use Rattle.file_model.specs.Reading.{IsImageOf}
use Rattle.query_model.specs.Lines.{Text}
use Rattle.ruled_model.specs.RuledScripts.{Line, History, ruled_verdict}
use Rattle.script_model.specs.Scripts.{Says}
use Rattle.apply_laws.specs.Promised.{IsRefusalOf}
use Rattle.why_model.specs.Refusals.{Judging, line_refused, IsShownWhere}
use Rattle.why_model.specs.Explained.{IsExplained}

-- Nothing is printed, and the script is accepted in the image of the file.
pub record IsAccepted (text script sent : Text) : Type 0 where
  pub image : ImageOf Text
  pub is_image : IsImageOf Second prelude_text text image
  pub requests : List Line
  pub says : Says script requests
  pub history : History
  pub accepted : ruled_verdict image requests ≡ Ok history
  pub nothing : sent ≡ []

-- The printed text explains why the script is refused, and begins with the line that `apply` prints. If the condition that is false has witnesses at all, and what it is about is there, something is shown that is in its way.
pub record IsToldWhy (text script sent : Text) : Type 0 where
  pub image : ImageOf Text
  pub is_image : IsImageOf Second prelude_text text image
  pub explained : IsExplained image script sent
  pub shown : (j : Judging) → line_refused explained.refused.history.now.image explained.refused.line ≡ Some j → IsShownWhere j explained.refusal.condition
  pub line : Text
  pub rest : Text
  pub begins : sent ≡ line ++ rest
  pub refusal : IsRefusalOf text script line
