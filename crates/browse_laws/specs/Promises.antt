-- What is promised of the bytes that a call sends, by its words and the status with which it ends.
use Rattle.std.specs.Prelude.{◌≡◌, ℕ, List, [], ◌∷◌, ◌++◌, map, length, replicate, true, codes}
use Rattle.rb_base.specs.Names.{text_eq}
use Rattle.token_model.specs.declared.kind.Dialect.TheVariants.{Second}
use Rattle.st_kernel.specs.KernelText.{prelude_text}
use Rattle.image_model.specs.Image.{ImageOf}
use Rattle.image_model.specs.Words.{text_words}
use Rattle.history_model.specs.Rules.{Perform, Undo, Redo}
use Rattle.strip_model.specs.Reach.{ReachOf, is_closed, reach}
use Rattle.strip_model.specs.Stripped.{certificate}
use Rattle.strip_model.specs.Within.{IsWithin}
use Rattle.file_model.specs.Reading.{IsImageOf}
use Rattle.file_rereading.specs.Rereading.{IsWithinLimits}
use Rattle.format_laws.specs.Empty.{HasNoEmptyDoIt}
use Rattle.image_doits.specs.Added.{IsWithDoIt}
use Rattle.ruled_model.specs.RuledScripts.{Asked, Line}
use Rattle.script_model.specs.Scripts.{Says}
use Rattle.apply_laws.specs.Promised.{IsRefusalOf}
use Rattle.apply_laws.specs.FileOuts.{IsValidFileOut}
use Rattle.changes_laws.specs.ChangeFiles.{IsChangeFile}
use Rattle.play_laws.specs.Promised.{IsPlayedFile}
use Rattle.image_forms.specs.declared.status.Status.{Status}
use Rattle.image_forms.specs.declared.status.Status.TheVariants as status
use Rattle.image_forms.specs.Loads.{World}
use Rattle.image_forms.specs.Answers.{Applies, Runs, Answers}
use Rattle.browse_laws.specs.Given.{apply_words, changes_words, why_words, team_words, strip_words, format_words, import_words, AreGiven, IsGiven}
use Rattle.browse_laws.specs.Explained.{IsAccepted, IsToldWhy}
use Rattle.browse_laws.specs.Printed.{IsStrippedFile, IsFormattedFile, IsImportedFile}

-- `strip IMAGE EXPRESSION sets`
abbrev pub sets_words : List ℕ → List ℕ → List (List ℕ)
sets_words image expression = codes "strip" ∷ image ∷ expression ∷ codes "sets" ∷ []

-- a script without the commands at its end of which each is taken back there, or without as many redos as undos, is answered with the same bytes
pub record SendsWithoutEnd (text longer sent : List ℕ) : Type 0 where
  pub undone : (script : List ℕ) (requests : List Line) (actions : List Asked) → Says script requests → Says longer (requests ++ (map (λ a. Perform a) actions ++ replicate (length actions) Undo)) → Applies text script status.Done sent
  pub redone : (script : List ℕ) (requests : List Line) (n : ℕ) → Says script requests → Says longer (requests ++ (replicate n Undo ++ replicate n Redo)) → Applies text script status.Done sent

-- of `apply IMAGE SCRIPT`
pub record KeepsApply (w : World) (image script : List ℕ) (s : Status) (sent : List ℕ) : Type 0 where
  pub changed : s ≡ status.Done → AreGiven w image script (λ text commands. IsValidFileOut text commands sent)
  pub refused : s ≡ status.Condition → AreGiven w image script (λ text commands. IsRefusalOf text commands sent)
  pub taken_back : s ≡ status.Done → AreGiven w image script (λ text commands. SendsWithoutEnd text commands sent)

-- a change file, with which behind it a text runs as what `apply` prints
pub record IsFiledIn (text script sent : List ℕ) : Type 0 where
  pub file : IsChangeFile text script sent
  pub runs : (expression : List ℕ) (budget : ℕ) (s : Status) (printed : List ℕ) → IsWithinLimits file.out.changed.history.now.image → Runs (text ++ sent) expression budget s printed → Runs file.printed expression budget s printed

-- of `changes IMAGE SCRIPT`
pub record KeepsChanges (w : World) (image script : List ℕ) (s : Status) (sent : List ℕ) : Type 0 where
  pub filed_in : s ≡ status.Done → AreGiven w image script (λ text commands. IsFiledIn text commands sent)
  pub refused : s ≡ status.Condition → AreGiven w image script (λ text commands. IsRefusalOf text commands sent)

-- of `why IMAGE SCRIPT`
pub record KeepsWhy (w : World) (image script : List ℕ) (s : Status) (sent : List ℕ) : Type 0 where
  pub accepted : s ≡ status.Done → AreGiven w image script (λ text commands. IsAccepted text commands sent)
  pub refused : s ≡ status.Condition → AreGiven w image script (λ text commands. IsToldWhy text commands sent)

-- of `team IMAGE LOG`
abbrev pub KeepsTeam : World → List ℕ → List ℕ → Status → List ℕ → Type 0
KeepsTeam w image log s sent = s ≡ status.Done → AreGiven w image log (λ text events. IsPlayedFile text events sent)

-- a file without what is not reached, which runs as before with the expression
pub record IsStripped (text expression sent : List ℕ) : Type 0 where
  pub file : IsStrippedFile text expression sent
  pub runs : (budget : ℕ) (s : Status) (printed : List ℕ) → Runs text expression budget s printed → Runs sent expression budget s printed

-- the lines of what an image reaches with the expression as its last do-it, which is closed, and within all that is closed
pub record AreLeastSets (text expression sent : List ℕ) : Type 0 where
  pub image : ImageOf (List ℕ)
  pub is_image : IsImageOf Second prelude_text text image
  pub later : ImageOf (List ℕ)
  pub with_expression : IsWithDoIt expression image later
  pub lines : sent ≡ certificate (reach text_words later) image
  pub closed : is_closed text_words later (reach text_words later) ≡ true
  pub least : (r : ReachOf (List ℕ)) → is_closed text_words later r ≡ true → IsWithin text_eq (reach text_words later) r

-- of `strip IMAGE EXPRESSION`, and of `strip IMAGE EXPRESSION sets`
abbrev pub KeepsStrip : World → List ℕ → List ℕ → Status → List ℕ → Type 0
KeepsStrip w image expression s sent = s ≡ status.Done → IsGiven w image (λ text. IsStripped text expression sent)

abbrev pub KeepsSets : World → List ℕ → List ℕ → Status → List ℕ → Type 0
KeepsSets w image expression s sent = s ≡ status.Done → IsGiven w image (λ text. AreLeastSets text expression sent)

-- a file in canonical text, which runs as before if no do-it is empty
pub record IsFormatted (text sent : List ℕ) : Type 0 where
  pub file : IsFormattedFile text sent
  pub runs : HasNoEmptyDoIt file.image → (expression : List ℕ) (budget : ℕ) (s : Status) (printed : List ℕ) → Runs text expression budget s printed → Runs sent expression budget s printed

-- of `format IMAGE`
abbrev pub KeepsFormat : World → List ℕ → Status → List ℕ → Type 0
KeepsFormat w image s sent = s ≡ status.Done → IsGiven w image (λ text. IsFormatted text sent)

-- of `import FILE`
abbrev pub KeepsImport : World → List ℕ → Status → List ℕ → Type 0
KeepsImport w file s sent = s ≡ status.Done → IsGiven w file (λ text. IsImportedFile text sent)

-- The bytes and the status answer the words, and each form keeps what is promised of it.
pub record KeepsPromises (w : World) (words : List (List ℕ)) (s : Status) (sent : List ℕ) : Type 0 where
  pub answers : Answers w words s sent
  pub apply : (image script : List ℕ) → words ≡ apply_words image script → KeepsApply w image script s sent
  pub changes : (image script : List ℕ) → words ≡ changes_words image script → KeepsChanges w image script s sent
  pub why : (image script : List ℕ) → words ≡ why_words image script → KeepsWhy w image script s sent
  pub team : (image log : List ℕ) → words ≡ team_words image log → KeepsTeam w image log s sent
  pub strip : (image expression : List ℕ) → words ≡ strip_words image expression → KeepsStrip w image expression s sent
  pub sets : (image expression : List ℕ) → words ≡ sets_words image expression → KeepsSets w image expression s sent
  pub format : (image : List ℕ) → words ≡ format_words image → KeepsFormat w image s sent
  pub import : (file : List ℕ) → words ≡ import_words file → KeepsImport w file s sent
