use Rattle.std.proofs.Common.{◌≡◌, inl, inr, ℕ, List, Result, Ok, refl}
use Rattle.token_model.specs.declared.kind.Dialect.TheVariants.{Second}
use Rattle.st_kernel.specs.KernelText.{prelude_text}
use Rattle.image_model.specs.Image.{ImageOf}
use Rattle.file_model.specs.Causes.{Refusal as ImageRefusal}
use Rattle.file_model.specs.Reading.{IsImageOf}
use Rattle.image_forms.specs.declared.status.Status.{Status}
use Rattle.image_forms.specs.declared.status.Status.TheVariants as status
use Rattle.image_forms.specs.Loads.{World, Loads, Given, Refused}
use Rattle.image_forms.specs.Answers.{image_limit, Imports, NotImported, Imported}
use Rattle.import_model.specs.Imported.{IsImported}
use Rattle.browse_laws.specs.Given.{IsGiven}
use Rattle.browse_laws.specs.Printed.{IsImportedFile}
use Rattle.browse_laws.proofs.imported.law_imported.Goals as goal

pub returns : goal.returns
returns k = given
  where
    kept : (text printed : List ℕ) → IsImported text (Ok printed) → (image : ImageOf (List ℕ)) → IsImageOf Second prelude_text text image → printed ≡ text
    kept text printed made image read =
        let both : ◌≡◌ {A = Result (List ℕ) ImageRefusal} (Ok printed) (Ok text) = k.has_one_import.ensures text (Ok printed) (Ok text) made (k.keeps_file_outs.ensures prelude_text text image read) in
        cc

    imported-file : (text printed : List ℕ) (s : Status) → s ≡ status.Done → Imports text s printed → IsImportedFile text printed
    imported-file text printed s e (NotImported r wrong is line) = absurd (cc)
    imported-file text printed s e (Imported made is) = record {
      imported = made;
      kept = kept text printed made;
      again = Imported (k.imports_once.ensures text printed made) refl;
      left = λ refusal has. k.leaves_to_the_reader.ensures prelude_text text printed refusal made has;
    }

    given : (w : World) (file sent : List ℕ) → Loads w file image_limit status.Done sent (λ t. Imports t status.Done sent) → IsGiven w file (λ text. IsImportedFile text sent)
    given w file sent (Given text may a) = record { text = text; given = may; fact = imported-file text sent status.Done refl a }
    given w file sent (Refused (inl (may, is, line))) = absurd (cc)
    given w file sent (Refused (inr (large, is, line))) = absurd (cc)
