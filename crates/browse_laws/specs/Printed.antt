-- What is said of the files that `strip`, `format` and `import` print.
use Rattle.std.specs.Prelude.{◌≡◌, ℕ, List, Ok}
use Rattle.rb_base.specs.Names.{text_eq}
use Rattle.token_model.specs.declared.kind.Dialect.TheVariants.{Second}
use Rattle.st_kernel.specs.KernelText.{prelude_text}
use Rattle.tree_model.specs.Tree.{SequenceOf}
use Rattle.grammar_model.specs.Spelling.{SpellsDoIt}
use Rattle.image_model.specs.Image.{DoItOf, ImageOf, plus}
use Rattle.image_model.specs.Words.{text_words}
use Rattle.run_model.specs.Runs.{run}
use Rattle.strip_model.specs.Reach.{reach}
use Rattle.strip_model.specs.Stripped.{strip}
use Rattle.file_model.specs.Causes.{Refusal}
use Rattle.file_model.specs.Reading.{IsImageOf, HasRefusal}
use Rattle.file_model.specs.Written.{file_of}
use Rattle.file_rereading.specs.Rereading.{with_heads}
use Rattle.chunk_format.specs.Left.{start_of}
use Rattle.import_model.specs.Imported.{IsImported}
use Rattle.import_laws.specs.Accepted.{IsLeftAt}
use Rattle.canonical_image.specs.Formatted.{formatted}
use Rattle.format_laws.specs.Empty.{HasNoEmptyDoIt}
use Rattle.image_forms.specs.declared.status.Status.{Status}
use Rattle.image_forms.specs.declared.status.Status.TheVariants as status
use Rattle.image_forms.specs.Answers.{Formats, Imports}

-- a do-it, by its source and its code
abbrev pub doit_of : List ℕ → SequenceOf (List ℕ) → DoItOf (List ℕ)
doit_of source body = record { source = source; body = body }

-- The printed text is the file of the image that the first text makes, without what it does not reach with the expression as its last do-it. With that do-it both images have the same runs. The printed text is read again as the image without the rest, with the do-its at its head counted anew, and that has the same runs too.
pub record IsStrippedFile (text expression printed : List ℕ) : Type 0 where
  pub image : ImageOf (List ℕ)
  pub is_image : IsImageOf Second prelude_text text image
  pub body : SequenceOf (List ℕ)
  pub spelled : SpellsDoIt Second expression body
  pub left : ImageOf (List ℕ)
  pub is_left : left ≡ strip text_eq (reach text_words (plus image (doit_of expression body))) image
  pub file : printed ≡ file_of left
  pub same_runs : (n : ℕ) → run (plus left (doit_of expression body)) n ≡ run (plus image (doit_of expression body)) n
  pub read_again : IsImageOf Second prelude_text printed (with_heads left)
  pub same_runs_again : (n : ℕ) → run (plus (with_heads left) (doit_of expression body)) n ≡ run (plus image (doit_of expression body)) n

-- The printed text is the file of the image that the first text makes, with canonical text in place of its sources, which has the same runs, by itself and with any further do-it. Where no do-it is empty, the printed text is read again as that image, with the do-its at its head counted anew, which has the same runs too; and the only answer to it is to print it again, byte for byte.
pub record IsFormattedFile (text printed : List ℕ) : Type 0 where
  pub image : ImageOf (List ℕ)
  pub is_image : IsImageOf Second prelude_text text image
  pub file : printed ≡ file_of (formatted image)
  pub same_runs : (n : ℕ) → run (formatted image) n ≡ run image n
  pub same_further : (e : DoItOf (List ℕ)) (n : ℕ) → run (plus (formatted image) e) n ≡ run (plus image e) n
  pub read_again : HasNoEmptyDoIt image → IsImageOf Second prelude_text printed (with_heads (formatted image))
  pub same_runs_again : (n : ℕ) → run (with_heads (formatted image)) n ≡ run image n
  pub same_further_again : (e : DoItOf (List ℕ)) (n : ℕ) → run (plus (with_heads (formatted image)) e) n ≡ run (plus image e) n
  pub same_bytes : HasNoEmptyDoIt image → (s : Status) (sent : List ℕ) → Formats printed s sent → (s ≡ status.Done) × (sent ≡ printed)

-- The printed text is what the first text becomes, which is the first text itself if an image is read from that. It is answered with itself, byte for byte. If it is refused when it is read, the refused chunk is refused for the classes and methods that are there, as a method that is none, or because it replaces a do-it.
pub record IsImportedFile (text printed : List ℕ) : Type 0 where
  pub imported : IsImported text (Ok printed)
  pub kept : (image : ImageOf (List ℕ)) → IsImageOf Second prelude_text text image → printed ≡ text
  pub again : Imports printed status.Done printed
  pub left : (refusal : Refusal) → HasRefusal Second prelude_text printed refusal → IsLeftAt (start_of printed) refusal
