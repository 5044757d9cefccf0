use Rattle.std.proofs.Common.{◌≡◌, inl, inr, ℕ, List, refl, ap, ◌∙◌, subst}
use Rattle.std.specs.Prelude.{true, false}
use Rattle.token_model.specs.declared.kind.Dialect.TheVariants.{Second}
use Rattle.st_kernel.specs.KernelText.{prelude_text}
use Rattle.image_model.specs.Image.{ImageOf, plus}
use Rattle.file_model.specs.Reading.{IsImageOf}
use Rattle.file_model.specs.Written.{file_of}
use Rattle.image_forms.specs.declared.status.Status.{Status}
use Rattle.image_forms.specs.declared.status.Status.TheVariants as status
use Rattle.image_forms.specs.Loads.{World, Loads, Given, Refused}
use Rattle.image_forms.specs.Answers.{image_limit, Applies, Formatted, StripsIn, NoStart, Stripped, Strips, NoImageToStrip, StripsImage, Answers}
use Rattle.changes_laws.specs.ChangeFiles.{IsChangeFile}
use Rattle.browse_laws.specs.Given.{apply_words, changes_words, why_words, team_words, strip_words, format_words, import_words, AreGiven, IsGiven}
use Rattle.browse_laws.specs.Printed.{doit_of, IsStrippedFile}
use Rattle.browse_laws.specs.Promises.{sets_words, SendsWithoutEnd, KeepsApply, IsFiledIn, KeepsChanges, KeepsWhy, IsStripped, AreLeastSets, IsFormatted}
use Rattle.browse_laws.proofs.Sending.{given-of}
use Rattle.browse_laws.proofs.promised.law_promises_kept.Goals as goal

pub returns : goal.returns
returns k = λ w words s sent answers. record {
  answers = answers;
  apply = λ image script are. applies w image script s sent (at w words (apply_words image script) s sent are answers);
  changes = λ image script are. files-in w image script s sent (at w words (changes_words image script) s sent are answers);
  why = λ image script are. explains w image script s sent (at w words (why_words image script) s sent are answers);
  team = λ image log are done. k.law_played.ensures w image log sent (done-at w (team_words image log) s sent done (at w words (team_words image log) s sent are answers));
  strip = λ image expression are done. stripped w image expression sent (done-at w (strip_words image expression) s sent done (at w words (strip_words image expression) s sent are answers));
  sets = λ image expression are done. least-sets w image expression sent (done-at w (sets_words image expression) s sent done (at w words (sets_words image expression) s sent are answers));
  import = λ file are done. k.law_imported.ensures w file sent (done-at w (import_words file) s sent done (at w words (import_words file) s sent are answers));
  format = λ image are done. formatted w image sent (done-at w (format_words image) s sent done (at w words (format_words image) s sent are answers));
}
  where
    at : (w : World) (words others : List (List ℕ)) (s : Status) (sent : List ℕ) → words ≡ others → Answers w words s sent → Answers w others s sent
    at w words others s sent are answers = subst (λ x. Answers w x s sent) are answers

    done-at : (w : World) (words : List (List ℕ)) (s : Status) (sent : List ℕ) → s ≡ status.Done → Answers w words s sent → Answers w words status.Done sent
    done-at w words s sent done answers = subst (λ x. Answers w words x sent) done answers

    refused-at : (w : World) (words : List (List ℕ)) (s : Status) (sent : List ℕ) → s ≡ status.Condition → Answers w words s sent → Answers w words status.Condition sent
    refused-at w words s sent refused answers = subst (λ x. Answers w words x sent) refused answers

    -- a script without its end
    without-end : (text longer sent : List ℕ) → Applies text longer status.Done sent → SendsWithoutEnd text longer sent
    without-end text longer sent a = record {
      undone = λ script requests actions says says_longer. k.law_undone.ensures.undo text script longer sent requests actions says says_longer a;
      redone = λ script requests n says says_longer. k.law_undone.ensures.redo text script longer sent requests n says says_longer a;
    }

    taken-back : (w : World) (image script sent : List ℕ) → Answers w (apply_words image script) status.Done sent → AreGiven w image script (λ text commands. SendsWithoutEnd text commands sent)
    taken-back w image script sent answers =
        given-of w image script sent status.Done ((λ e. cc), (λ e. cc)) (λ text commands. Applies text commands status.Done sent) (λ text commands. SendsWithoutEnd text commands sent)
        (λ text commands short a. without-end text commands sent a) answers

    applies : (w : World) (image script : List ℕ) (s : Status) (sent : List ℕ) → Answers w (apply_words image script) s sent → KeepsApply w image script s sent
    applies w image script s sent answers = record {
      changed = λ done. k.law_applied.ensures.done w image script sent (done-at w (apply_words image script) s sent done answers);
      refused = λ refused. k.law_applied.ensures.condition w image script sent (refused-at w (apply_words image script) s sent refused answers);
      taken_back = λ done. taken-back w image script sent (done-at w (apply_words image script) s sent done answers);
    }

    -- a change file runs
    filed-in : (w : World) (image script sent : List ℕ) → AreGiven w image script (λ text commands. IsChangeFile text commands sent) → AreGiven w image script (λ text commands. IsFiledIn text commands sent)
    filed-in w image script sent given = record {
      text = given.text;
      given = given.given;
      commands = given.commands;
      commands_given = given.commands_given;
      fact = record {
        file = given.fact;
        runs = λ expression budget s printed within runs. k.law_filed_in.ensures.run given.text given.commands sent expression given.fact budget s printed within runs;
      };
    }

    files-in : (w : World) (image script : List ℕ) (s : Status) (sent : List ℕ) → Answers w (changes_words image script) s sent → KeepsChanges w image script s sent
    files-in w image script s sent answers = record {
      filed_in = λ done. filed-in w image script sent (k.law_filed_in.ensures.done w image script sent (done-at w (changes_words image script) s sent done answers));
      refused = λ refused. k.law_filed_in.ensures.condition w image script sent (refused-at w (changes_words image script) s sent refused answers);
    }

    explains : (w : World) (image script : List ℕ) (s : Status) (sent : List ℕ) → Answers w (why_words image script) s sent → KeepsWhy w image script s sent
    explains w image script s sent answers = record {
      accepted = λ done. k.law_told_why.ensures.done w image script sent (done-at w (why_words image script) s sent done answers);
      refused = λ refused. k.law_told_why.ensures.condition w image script sent (refused-at w (why_words image script) s sent refused answers);
    }

    -- a stripped file runs
    strips-so : (text expression sent : List ℕ) → IsStrippedFile text expression sent → Strips text expression false status.Done sent
    strips-so text expression sent f =
        StripsImage f.image f.is_image (Stripped (plus f.image (doit_of expression f.body)) (record { body = f.body; spelled = f.spelled; added = refl }) refl (f.file ∙ ap file_of f.is_left))

    stripped : (w : World) (image expression sent : List ℕ) → Answers w (strip_words image expression) status.Done sent → IsGiven w image (λ text. IsStripped text expression sent)
    stripped w image expression sent answers =
        let given = k.law_stripped.ensures.done w image expression sent answers in
        record {
          text = given.text;
          given = given.given;
          fact = record {
            file = given.fact;
            runs = λ budget s printed runs. k.law_stripped.ensures.run given.text expression sent budget s printed (strips-so given.text expression sent given.fact) runs;
          };
        }

    -- the least closed sets
    sets-in : (text expression sent : List ℕ) (i : ImageOf (List ℕ)) (s : Status) → s ≡ status.Done → IsImageOf Second prelude_text text i → StripsIn i expression true s sent → AreLeastSets text expression sent
    sets-in text expression sent i s e is (NoStart f fault a b) = absurd (cc)
    sets-in text expression sent i s e is (Stripped j with_it a b) = record {
      image = i;
      is_image = is;
      later = j;
      with_expression = with_it;
      lines = b;
      closed = k.law_reach_is_least.ensures.closed j;
      least = k.law_reach_is_least.ensures.least j;
    }

    sets-of : (text expression sent : List ℕ) (s : Status) → s ≡ status.Done → Strips text expression true s sent → AreLeastSets text expression sent
    sets-of text expression sent s e (NoImageToStrip r refused a b) = absurd (cc)
    sets-of text expression sent s e (StripsImage i is a) = sets-in text expression sent i s e is a

    least-sets : (w : World) (image expression sent : List ℕ) → Loads w image image_limit status.Done sent (λ i. Strips i expression true status.Done sent) → IsGiven w image (λ text. AreLeastSets text expression sent)
    least-sets w image expression sent (Given text may a) = record { text = text; given = may; fact = sets-of text expression sent status.Done refl a }
    least-sets w image expression sent (Refused (inl (may, is, line))) = absurd (cc)
    least-sets w image expression sent (Refused (inr (large, is, line))) = absurd (cc)

    -- a formatted file runs
    formatted : (w : World) (image sent : List ℕ) → Answers w (format_words image) status.Done sent → IsGiven w image (λ text. IsFormatted text sent)
    formatted w image sent answers =
        let given = k.law_formatted.ensures.done w image sent answers in
        record {
          text = given.text;
          given = given.given;
          fact = record {
            file = given.fact;
            runs = λ some expression budget s printed runs. k.law_formatted.ensures.run given.text sent expression given.fact.image budget s printed given.fact.is_image some (Formatted given.fact.image given.fact.is_image refl given.fact.file) runs;
          };
        }
