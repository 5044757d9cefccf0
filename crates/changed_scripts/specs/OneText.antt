-- Images that one text makes, and what a script makes of them.
use Rattle.std.specs.Prelude.{◌≡◌, List, Ok}
use Rattle.token_model.specs.declared.kind.Dialect.TheVariants.{Second}
use Rattle.st_kernel.specs.KernelText.{prelude_text}
use Rattle.image_model.specs.Image.{ImageOf}
use Rattle.file_model.specs.Reading.{IsImageOf}
use Rattle.script_model.specs.Makers.{Text}
use Rattle.script_model.specs.Scripts.{Says}
use Rattle.ruled_model.specs.RuledScripts.{Line, History, ruled_verdict}
use Rattle.change_file.specs.Shown.{IsToldApart}

-- there is a text that is read as each of the two
abbrev pub AreOfOneText : ImageOf Text → ImageOf Text → Type 0
AreOfOneText i j = (text : Text) × IsImageOf Second prelude_text text i × IsImageOf Second prelude_text text j

-- in the image after this script, where it is accepted, no two classes have one name and no two methods of the user one class, side and selector
abbrev pub StaysApart : ImageOf Text → Text → Type 0
StaysApart i script = (requests : List Line) (h : History) → Says script requests → ruled_verdict i requests ≡ Ok h → IsToldApart h.now.image
