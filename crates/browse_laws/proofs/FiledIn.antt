-- Runs of a text with a change file behind it are those of the text that `apply` prints.
use Rattle.std.proofs.Common.{◌≡◌, ◌++◌, ℕ, List, refl, sym, ap, subst, ◌∙◌}
use Rattle.token_model.specs.declared.kind.Dialect.{Dialect}
use Rattle.token_model.specs.declared.kind.Dialect.TheVariants.{Second}
use Rattle.st_kernel.specs.KernelText.{prelude_text}
use Rattle.image_model.specs.Image.{DoItOf, ImageOf, plus}
use Rattle.run_model.specs.Runs.{RunOf, run}
use Rattle.run_model.specs.Views.{run_text}
use Rattle.bare_model.specs.BareImages.{bare_image}
use Rattle.file_model.specs.Causes.{Refusal}
use Rattle.file_model.specs.Reading.{IsImageOf, HasRefusal}
use Rattle.file_rereading.specs.Rereading.{IsWithinLimits, with_heads}
use Rattle.changes_laws.specs.ChangeFiles.{IsChangeFile}
use Rattle.image_forms.specs.declared.status.Status.{Status}
use Rattle.image_forms.specs.Answers.{status_of, RunsIn, NoDoIt, Ran, Runs, NoImage, InImage}
use Rattle.browse_laws.specs.Printed.{doit_of}

module _ (one_image : (d : Dialect) (prelude text : List ℕ) (i j : ImageOf (List ℕ)) → IsImageOf d prelude text i → IsImageOf d prelude text j → i ≡ j)
    (not_both : (d : Dialect) (prelude text : List ℕ) (i : ImageOf (List ℕ)) (r : Refusal) → IsImageOf d prelude text i → ¬ HasRefusal d prelude text r)
    (bare_run : (i : ImageOf (List ℕ)) (n : ℕ) → run (bare_image i) n ≡ run i n) where
  -- however the do-its are counted
  same_run : (j : ImageOf (List ℕ)) (e : DoItOf (List ℕ)) (n : ℕ) → run (plus j e) n ≡ run (plus (with_heads j) e) n
  same_run j e n = sym (bare_run (plus j e) n) ∙ bare_run (plus (with_heads j) e) n

  ran_again : (printed expression : List ℕ) (j : ImageOf (List ℕ)) (budget : ℕ) (s : Status) (out : List ℕ) → IsImageOf Second prelude_text printed (with_heads j) → RunsIn j expression budget s out → Runs printed expression budget s out
  ran_again printed expression j budget s out read (NoDoIt fault has a b) = InImage (with_heads j) read (NoDoIt fault has a b)
  ran_again printed expression j budget s out read (Ran k with_it a b) =
      let last : DoItOf (List ℕ) = doit_of expression with_it.body in
      let same : run k budget ≡ run (plus (with_heads j) last) budget = ap (λ (x : ImageOf (List ℕ)). run x budget) with_it.added ∙ same_run j last budget in
      InImage (with_heads j) read
      (Ran (plus (with_heads j) last) (record { body = with_it.body; spelled = with_it.spelled; added = refl })
      (a ∙ ap (λ (x : RunOf). status_of x.outcome) same) (b ∙ ap (λ (x : RunOf). run_text budget x.events x.outcome) same))

  pub runs-again : (text script sent expression : List ℕ) (file : IsChangeFile text script sent) (budget : ℕ) (s : Status) (out : List ℕ) →
      IsWithinLimits file.out.changed.history.now.image → Runs (text ++ sent) expression budget s out → Runs file.printed expression budget s out
  runs-again text script sent expression file budget s out within (NoImage r refused a b) =
      absurd (not_both Second prelude_text (text ++ sent) file.out.changed.history.now.image r (file.read within) refused)
  runs-again text script sent expression file budget s out within (InImage i read runs) =
      let same = one_image Second prelude_text (text ++ sent) i file.out.changed.history.now.image read (file.read within) in
      ran_again file.printed expression file.out.changed.history.now.image budget s out (file.out.read_again within)
      (subst (λ (k : ImageOf (List ℕ)). RunsIn k expression budget s out) same runs)
