-- What is promised of the change file that `changes` prints.
use Rattle.std.specs.Prelude.{◌≡◌, ◌++◌, List, Option, None}
use Rattle.token_model.specs.declared.kind.Dialect.TheVariants.{Second}
use Rattle.chunk_format.specs.declared.chunk_iter.Unended.{Unended}
use Rattle.chunk_format.specs.Left.{start_of}
use Rattle.chunk_format.specs.Chunks.{Piece, HasChunks}
use Rattle.st_kernel.specs.KernelText.{prelude_text}
use Rattle.file_model.specs.Causes.{Refusal}
use Rattle.file_model.specs.Reading.{IsImageOf}
use Rattle.file_rereading.specs.Rereading.{IsWithinLimits}
use Rattle.script_model.specs.Makers.{Text}
use Rattle.apply_model.specs.declared.status.Status.TheVariants as status
use Rattle.apply_model.specs.Applied.{Applies}
use Rattle.apply_laws.specs.FileOuts.{IsValidFileOut}
use Rattle.change_model.specs.Text.{change_text}
use Rattle.change_class_laws.specs.Named.{HoldsDifferences}

-- `apply` prints the changed file of the text and the script, and what is sent here is the change file from the image of the text to the image after the script. Within the limits of a file the text with the change file behind it is read as the image after, and the change file is chunks to its end, of which each names only what differs between the two images.
pub record IsChangeFile (text script sent : Text) : Type 0 where
  pub printed : Text
  pub applies : (image_line : Refusal → Text) → Applies image_line text script status.Done printed
  pub out : IsValidFileOut text script printed
  pub file : sent ≡ change_text out.changed.image out.changed.history.now.image
  pub read : IsWithinLimits out.changed.history.now.image → IsImageOf Second prelude_text (text ++ sent) out.changed.history.now.image
  pub names : IsWithinLimits out.changed.history.now.image → (pieces : List Piece) (end : Option Unended) → HasChunks (start_of sent) pieces end → (end ≡ None) × HoldsDifferences out.changed.image out.changed.history.now.image pieces
