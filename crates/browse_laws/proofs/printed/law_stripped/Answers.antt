use Rattle.std.proofs.Common.{◌≡◌, inl, inr, ℕ, List, refl, sym, ap, subst, ◌∙◌}
use Rattle.std.specs.Prelude.{false}
use Rattle.rb_base.specs.Names.{text_eq}
use Rattle.token_model.specs.declared.kind.Dialect.TheVariants.{Second}
use Rattle.st_kernel.specs.KernelText.{prelude_text}
use Rattle.image_model.specs.Image.{DoItOf, ImageOf, plus}
use Rattle.image_model.specs.Words.{text_words}
use Rattle.run_model.specs.Runs.{RunOf, run}
use Rattle.run_model.specs.Views.{run_text}
use Rattle.strip_model.specs.Reach.{reach}
use Rattle.strip_model.specs.Stripped.{strip}
use Rattle.file_model.specs.Reading.{IsImageOf}
use Rattle.file_model.specs.Written.{file_of}
use Rattle.file_rereading.specs.Rereading.{with_heads}
use Rattle.image_doits.specs.Added.{IsWithDoIt}
use Rattle.image_forms.specs.declared.status.Status.{Status}
use Rattle.image_forms.specs.declared.status.Status.TheVariants as status
use Rattle.image_forms.specs.Loads.{World, Loads, Given, Refused}
use Rattle.image_forms.specs.Answers.{image_limit, status_of, StripsIn, NoStart, Stripped, Strips, NoImageToStrip, StripsImage, RunsIn, NoDoIt, Ran, Runs, NoImage, InImage}
use Rattle.browse_laws.specs.Given.{IsGiven}
use Rattle.browse_laws.specs.Printed.{doit_of, IsStrippedFile}
use Rattle.browse_laws.proofs.printed.law_stripped.Goals as goal

pub returns : goal.returns
returns k = record { done = given; run = λ text expression printed budget s sent strips runs. again text expression printed (stripped text expression printed status.Done refl strips) budget s sent runs }
  where
    -- an image with the expression as its last do-it, without the rest
    left-out : (text expression printed : List ℕ) (i : ImageOf (List ℕ)) → IsImageOf Second prelude_text text i → (j : ImageOf (List ℕ)) → IsWithDoIt expression i j → printed ≡ file_of (strip text_eq (reach text_words j) i) → IsStrippedFile text expression printed
    left-out text expression printed i is j with_it file =
        let start : DoItOf (List ℕ) = doit_of expression with_it.body in
        let closed = k.law_reach_is_least.ensures.closed (plus i start) in
        let printed_is : printed ≡ file_of (strip text_eq (reach text_words (plus i start)) i) = file ∙ ap (λ (x : ImageOf (List ℕ)). file_of (strip text_eq (reach text_words x) i)) with_it.added in
        record {
          image = i;
          is_image = is;
          body = with_it.body;
          spelled = with_it.spelled;
          left = strip text_eq (reach text_words (plus i start)) i;
          is_left = refl;
          file = printed_is;
          same_runs = λ n. k.law_stripped_files.ensures.run Second text i start (reach text_words (plus i start)) n is closed;
          read_again = subst (λ t. IsImageOf Second prelude_text t (with_heads (strip text_eq (reach text_words (plus i start)) i))) (sym printed_is) (k.law_stripped_files.ensures.reread text i start (reach text_words (plus i start)) is closed);
          same_runs_again = λ n. k.law_stripped_files.ensures.reread_run text i start (reach text_words (plus i start)) n is closed;
        }

    stripped-in : (text expression printed : List ℕ) (i : ImageOf (List ℕ)) (s : Status) → s ≡ status.Done → IsImageOf Second prelude_text text i → StripsIn i expression false s printed → IsStrippedFile text expression printed
    stripped-in text expression printed i s e is (NoStart f fault a b) = absurd (cc)
    stripped-in text expression printed i s e is (Stripped j with_it a b) = left-out text expression printed i is j with_it b

    stripped : (text expression printed : List ℕ) (s : Status) → s ≡ status.Done → Strips text expression false s printed → IsStrippedFile text expression printed
    stripped text expression printed s e (NoImageToStrip r refused a b) = absurd (cc)
    stripped text expression printed s e (StripsImage i is a) = stripped-in text expression printed i s e is a

    given : (w : World) (image expression sent : List ℕ) → Loads w image image_limit status.Done sent (λ i. Strips i expression false status.Done sent) → IsGiven w image (λ text. IsStrippedFile text expression sent)
    given w image expression sent (Given text may a) = record { text = text; given = may; fact = stripped text expression sent status.Done refl a }
    given w image expression sent (Refused (inl (may, is, line))) = absurd (cc)
    given w image expression sent (Refused (inr (large, is, line))) = absurd (cc)

    -- the run of the sent text
    ran-again : (text expression printed : List ℕ) → (f : IsStrippedFile text expression printed) → (budget : ℕ) (s : Status) (sent : List ℕ) (i : ImageOf (List ℕ)) → IsImageOf Second prelude_text text i → RunsIn i expression budget s sent → Runs printed expression budget s sent
    ran-again text expression printed f budget s sent i is (NoDoIt fault has a b) = InImage (with_heads f.left) f.read_again (NoDoIt fault has a b)
    ran-again text expression printed f budget s sent i is (Ran j with_it a b) =
        let one_image = k.has_one_image.ensures.one_image Second prelude_text text i f.image is f.is_image in
        let bodies : with_it.body ≡ f.body = k.spells_doit_or_has_fault.ensures.one_tree Second expression with_it.body f.body with_it.spelled f.spelled in
        let first : j ≡ plus f.image (doit_of expression f.body) = with_it.added ∙ (λ x. plus (one_image x) (doit_of expression (bodies x))) in
        let same : run j budget ≡ run (plus (with_heads f.left) (doit_of expression f.body)) budget = ap (λ (x : ImageOf (List ℕ)). run x budget) first ∙ sym (f.same_runs_again budget) in
        InImage (with_heads f.left) f.read_again
        (Ran (plus (with_heads f.left) (doit_of expression f.body)) (record { body = f.body; spelled = f.spelled; added = refl })
        (a ∙ ap (λ (x : RunOf). status_of x.outcome) same) (b ∙ ap (λ (x : RunOf). run_text budget x.events x.outcome) same))

    again : (text expression printed : List ℕ) → IsStrippedFile text expression printed → (budget : ℕ) (s : Status) (sent : List ℕ) → Runs text expression budget s sent → Runs printed expression budget s sent
    again text expression printed f budget s sent (NoImage r refused a b) = absurd (k.has_one_image.ensures.not_both Second prelude_text text f.image r f.is_image refused)
    again text expression printed f budget s sent (InImage i is runs) = ran-again text expression printed f budget s sent i is runs
