-- What is promised of the file that `apply` prints.
use Rattle.std.specs.Prelude.{◌≡◌, List, Ok}
use Rattle.token_model.specs.declared.kind.Dialect.TheVariants.{Second}
use Rattle.st_kernel.specs.KernelText.{prelude_text}
use Rattle.image_model.specs.Image.{DoItOf, ImageOf, plus}
use Rattle.run_model.specs.Matched.{AreMatched}
use Rattle.file_model.specs.Reading.{IsImageOf}
use Rattle.file_model.specs.Written.{file_of}
use Rattle.file_rereading.specs.Rereading.{IsWithinLimits, with_heads}
use Rattle.history_model.specs.Verdicts.{IsRefusedAt}
use Rattle.session_model.specs.Admitted.{nil_doit}
use Rattle.ruled_model.specs.RuledScripts.{Line, History, Refusal, ruled, ruled_verdict, AdmitsRuled}
use Rattle.script_model.specs.Makers.{Text}
use Rattle.script_model.specs.Scripts.{Says}
use Rattle.apply_model.specs.Lines.{refusal_line}

-- A start expression that a script admits is one more do-it of the image after, and the two images with it are matched up to what the script renames; so is the image with which the printed text is read again.
pub record IsKeptWith (i : ImageOf Text) (requests : List Line) (h : History) (e : DoItOf Text) (a : AdmitsRuled i requests e) : Type 0 where
  pub last : DoItOf Text
  pub added : a.history.now.image ≡ plus h.now.image last
  pub renaming : a.history.now.renaming ≡ h.now.renaming
  pub matched : AreMatched (plus i e) (plus h.now.image last) h.now.renaming
  pub matched_again : AreMatched (plus i e) (plus (with_heads h.now.image) last) h.now.renaming

-- The image before a script and the one after it are matched up to what the script renames, also with each start expression that the script admits. Within the limits of a file the printed text is read again as the image after, with the do-its at its head counted anew, and the image that is read is matched too.
pub record KeepsItsRuns (image : ImageOf Text) (requests : List Line) (history : History) (printed : Text) : Type 0 where
  pub matched : AreMatched image history.now.image history.now.renaming
  pub read_again : IsWithinLimits history.now.image → IsImageOf Second prelude_text printed (with_heads history.now.image)
  pub matched_again : AreMatched image (with_heads history.now.image) history.now.renaming
  pub expressions : (e : DoItOf Text) (a : AdmitsRuled image requests e) → IsKeptWith image requests history e a

-- The printed text is the file of the image that the script makes of the one that the first text makes. The script admits `nil` as start expression, and the image keeps its runs.
pub record IsChangedFile (text script printed : Text) : Type 0 where
  pub image : ImageOf Text
  pub is_image : IsImageOf Second prelude_text text image
  pub requests : List Line
  pub says : Says script requests
  pub history : History
  pub accepted : ruled_verdict image requests ≡ Ok history
  pub file : printed ≡ file_of history.now.image
  pub nil_admitted : AdmitsRuled image requests nil_doit
  pub kept : KeepsItsRuns image requests history printed

-- The printed line tells the first command that is refused, with its first condition that is false; the commands before it are accepted.
pub record IsRefusalOf (text script printed : Text) : Type 0 where
  pub image : ImageOf Text
  pub is_image : IsImageOf Second prelude_text text image
  pub requests : List Line
  pub says : Says script requests
  pub refusal : Refusal
  pub at : IsRefusedAt ruled image requests refusal
  pub file : printed ≡ refusal_line refusal
