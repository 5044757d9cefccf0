use Rattle.std.proofs.Common.{◌≡◌, inl, inr, ℕ, List, refl, sym, ap, subst, ◌∙◌}
use Rattle.token_model.specs.declared.kind.Dialect.TheVariants.{Second}
use Rattle.st_kernel.specs.KernelText.{prelude_text}
use Rattle.image_model.specs.Image.{DoItOf, ImageOf, plus}
use Rattle.run_model.specs.Runs.{RunOf, run}
use Rattle.run_model.specs.Views.{run_text}
use Rattle.file_model.specs.Reading.{IsImageOf}
use Rattle.file_model.specs.Written.{file_of}
use Rattle.file_rereading.specs.Rereading.{with_heads}
use Rattle.canonical_image.specs.Formatted.{formatted}
use Rattle.format_laws.specs.Empty.{HasNoEmptyDoIt}
use Rattle.image_forms.specs.declared.status.Status.{Status}
use Rattle.image_forms.specs.declared.status.Status.TheVariants as status
use Rattle.image_forms.specs.Loads.{World, Loads, Given, Refused}
use Rattle.image_forms.specs.Answers as answers
use Rattle.image_forms.specs.Answers.{image_limit, status_of, Formats, RunsIn, NoDoIt, Ran, Runs, NoImage, InImage}
use Rattle.browse_laws.specs.Given.{IsGiven}
use Rattle.browse_laws.specs.Printed.{doit_of, IsFormattedFile}
use Rattle.browse_laws.proofs.printed.law_formatted.Goals as goal

pub returns : goal.returns
returns k = record {
  done = given;
  run = λ text printed expression i budget s sent is some formats runs. again text expression printed (formatted-of text printed status.Done refl formats) i is some budget s sent runs;
}
  where
    -- what is answered to the printed text
    answered : (text printed : List ℕ) (image : ImageOf (List ℕ)) → IsImageOf Second prelude_text text image → printed ≡ file_of (formatted image) → HasNoEmptyDoIt image → (s : Status) (sent : List ℕ) → Formats printed s sent → (s ≡ status.Done) × (sent ≡ printed)
    answered text printed image is file some s sent (answers.Refused r refused a b) =
        let read = subst (λ t. IsImageOf Second prelude_text t (with_heads (formatted image))) (sym file) (k.law_formatted_files.ensures.read_again text image is some) in
        absurd (k.has_one_image.ensures.not_both Second prelude_text printed (with_heads (formatted image)) r read refused)
    answered text printed image is file some s sent (answers.Formatted other read a b) =
        (a, b ∙ k.law_formatted_files.ensures.same_text text image other is some (subst (λ t. IsImageOf Second prelude_text t other) file read) ∙ sym file)

    formatted-in : (text printed : List ℕ) (image : ImageOf (List ℕ)) → IsImageOf Second prelude_text text image → printed ≡ file_of (formatted image) → IsFormattedFile text printed
    formatted-in text printed image is file = record {
      image = image;
      is_image = is;
      file = file;
      same_runs = k.law_formatted_images.ensures.run image;
      same_further = k.law_formatted_images.ensures.run_further image;
      read_again = λ some. subst (λ t. IsImageOf Second prelude_text t (with_heads (formatted image))) (sym file) (k.law_formatted_files.ensures.read_again text image is some);
      same_runs_again = k.law_formatted_images.ensures.run_again image;
      same_further_again = k.law_formatted_images.ensures.run_further_again image;
      same_bytes = answered text printed image is file;
    }

    formatted-of : (text printed : List ℕ) (s : Status) → s ≡ status.Done → Formats text s printed → IsFormattedFile text printed
    formatted-of text printed s e (answers.Refused r refused a b) = absurd (cc)
    formatted-of text printed s e (answers.Formatted i is a b) = formatted-in text printed i is b

    given : (w : World) (image sent : List ℕ) → Loads w image image_limit status.Done sent (λ i. Formats i status.Done sent) → IsGiven w image (λ text. IsFormattedFile text sent)
    given w image sent (Given text may a) = record { text = text; given = may; fact = formatted-of text sent status.Done refl a }
    given w image sent (Refused (inl (may, is, line))) = absurd (cc)
    given w image sent (Refused (inr (large, is, line))) = absurd (cc)

    -- the run of the printed text
    ran-again : (text expression printed : List ℕ) → (f : IsFormattedFile text printed) → HasNoEmptyDoIt f.image → (budget : ℕ) (s : Status) (sent : List ℕ) (i : ImageOf (List ℕ)) → IsImageOf Second prelude_text text i → RunsIn i expression budget s sent → Runs printed expression budget s sent
    ran-again text expression printed f some budget s sent i is (NoDoIt fault has a b) = InImage (with_heads (formatted f.image)) (f.read_again some) (NoDoIt fault has a b)
    ran-again text expression printed f some budget s sent i is (Ran j with_it a b) =
        let one_image = k.has_one_image.ensures.one_image Second prelude_text text i f.image is f.is_image in
        let last : DoItOf (List ℕ) = doit_of expression with_it.body in
        let first : j ≡ plus f.image last = with_it.added ∙ ap (λ (x : ImageOf (List ℕ)). plus x last) one_image in
        let same : run j budget ≡ run (plus (with_heads (formatted f.image)) last) budget = ap (λ (x : ImageOf (List ℕ)). run x budget) first ∙ sym (f.same_further_again last budget) in
        InImage (with_heads (formatted f.image)) (f.read_again some)
        (Ran (plus (with_heads (formatted f.image)) last) (record { body = with_it.body; spelled = with_it.spelled; added = refl })
        (a ∙ ap (λ (x : RunOf). status_of x.outcome) same) (b ∙ ap (λ (x : RunOf). run_text budget x.events x.outcome) same))

    again : (text expression printed : List ℕ) → (f : IsFormattedFile text printed) → (i : ImageOf (List ℕ)) → IsImageOf Second prelude_text text i → HasNoEmptyDoIt i → (budget : ℕ) (s : Status) (sent : List ℕ) → Runs text expression budget s sent → Runs printed expression budget s sent
    again text expression printed f i is some budget s sent (NoImage r refused a b) = absurd (k.has_one_image.ensures.not_both Second prelude_text text f.image r f.is_image refused)
    again text expression printed f i is some budget s sent (InImage j read runs) =
        ran-again text expression printed f (subst HasNoEmptyDoIt (k.has_one_image.ensures.one_image Second prelude_text text i f.image is f.is_image) some) budget s sent j read runs
