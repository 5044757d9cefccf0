-- What is sent where a script is performed, or a command of it is refused.
use Rattle.std.proofs.Common.{◌≡◌, ◌≤◌, ◌<◌, ◌^◌, ℕ, List, length, inl, inr, refl, arith}
use Rattle.rb_base.specs.Outside.{MayGive}
use Rattle.file_model.specs.Causes.{Refusal as ImageRefusal}
use Rattle.apply_model.specs.declared.status.Status as applied
use Rattle.apply_model.specs.declared.status.Status.TheVariants as verdict
use Rattle.apply_model.specs.Applied as model
use Rattle.apply_laws.specs.Promised.{IsRefusalOf}
use Rattle.apply_laws.specs.FileOuts.{IsValidFileOut}
use Rattle.image_forms.specs.declared.status.Status.{Status}
use Rattle.image_forms.specs.declared.status.Status.TheVariants as status
use Rattle.image_forms.specs.Loads.{World, Loads, Given, Refused, Refuses}
use Rattle.image_forms.specs.ImageLines.{image_refusal}
use Rattle.image_forms.specs.Answers.{Applies, WritesChanges, PlaysLog, status_applied, Answers, image_limit, script_limit}
use Rattle.changes_model.specs.Changes as change
use Rattle.changes_laws.specs.ChangeFiles.{IsChangeFile}
use Rattle.play_model.specs.Played as play
use Rattle.play_laws.specs.Promised.{IsPlayedFile}
use Rattle.browse_laws.specs.Given.{apply_words, changes_words, team_words, AreGiven}

-- the status is that of both files loaded
abbrev IsOfApply : Status → Type 0
IsOfApply s = (¬ (s ≡ status.Read)) × (¬ (s ≡ status.TooLarge))

not-refused : (w : World) (name : List ℕ) (limit : ℕ) (s : Status) (sent : List ℕ) → IsOfApply s → Refuses w name limit s sent → ⊥
not-refused w name limit s sent of (inl (may, is, line)) = of.0 is
not-refused w name limit s sent of (inr (large, is, line)) = of.1 is

module _ (w : World) (image script sent : List ℕ) (s : Status) (of : IsOfApply s) (Says Fact : List ℕ → List ℕ → Type 0)
    (step : (text commands : List ℕ) → length text ≤ image_limit → Says text commands → Fact text commands) where
  with-script : (text : List ℕ) → MayGive (w.told image) image_limit text → Loads w script script_limit s sent (Says text) → AreGiven w image script Fact
  with-script text given (Given commands commands_given a) = record { text = text; given = given; commands = commands; commands_given = commands_given; fact = step text commands given.1 a }
  with-script text given (Refused r) = absurd (not-refused w script script_limit s sent of r)

  pub given-of : Loads w image image_limit s sent (λ i. Loads w script script_limit s sent (Says i)) → AreGiven w image script Fact
  given-of (Given text given rest) = with-script text given rest
  given-of (Refused r) = absurd (not-refused w image image_limit s sent of r)

pub done-is : (v : applied.Status) → status.Done ≡ status_applied v → v ≡ verdict.Done
done-is verdict.Done e = refl
done-is verdict.Condition e = absurd (cc)
done-is verdict.ImageText e = absurd (cc)
done-is verdict.ScriptText e = absurd (cc)

pub condition-is : (v : applied.Status) → status.Condition ≡ status_applied v → v ≡ verdict.Condition
condition-is verdict.Done e = absurd (cc)
condition-is verdict.Condition e = refl
condition-is verdict.ImageText e = absurd (cc)
condition-is verdict.ScriptText e = absurd (cc)

pub changed : ((line : ImageRefusal → List ℕ) (text script : List ℕ) (v : applied.Status) (sent : List ℕ) → model.Applies line text script v sent → v ≡ verdict.Done → IsValidFileOut text script sent)
    → (w : World) (image script sent : List ℕ) → Answers w (apply_words image script) status.Done sent → AreGiven w image script (λ text commands. IsValidFileOut text commands sent)
changed law w image script sent answers =
    given-of w image script sent status.Done ((λ e. cc), (λ e. cc)) (λ text commands. Applies text commands status.Done sent) (λ text commands. IsValidFileOut text commands sent)
    (λ text commands short a. law image_refusal text commands a.verdict sent a.applies (done-is a.verdict a.status)) answers

pub refused : ((line : ImageRefusal → List ℕ) (text script : List ℕ) (v : applied.Status) (sent : List ℕ) → model.Applies line text script v sent → v ≡ verdict.Condition → IsRefusalOf text script sent)
    → (w : World) (image script sent : List ℕ) → Answers w (apply_words image script) status.Condition sent → AreGiven w image script (λ text commands. IsRefusalOf text commands sent)
refused law w image script sent answers =
    given-of w image script sent status.Condition ((λ e. cc), (λ e. cc)) (λ text commands. Applies text commands status.Condition sent) (λ text commands. IsRefusalOf text commands sent)
    (λ text commands short a. law image_refusal text commands a.verdict sent a.applies (condition-is a.verdict a.status)) answers

-- so with `changes`
pub changes-done : ((line : ImageRefusal → List ℕ) (text script : List ℕ) (v : applied.Status) (sent : List ℕ) → change.Changes line text script v sent → v ≡ verdict.Done → length text < 10 ^ 9 → IsChangeFile text script sent)
    → (w : World) (image script sent : List ℕ) → Answers w (changes_words image script) status.Done sent → AreGiven w image script (λ text commands. IsChangeFile text commands sent)
changes-done law w image script sent answers =
    given-of w image script sent status.Done ((λ e. cc), (λ e. cc)) (λ text commands. WritesChanges text commands status.Done sent) (λ text commands. IsChangeFile text commands sent)
    (λ text commands short a. law image_refusal text commands a.verdict sent a.changes (done-is a.verdict a.status) (omega (arith, short))) answers

pub changes-refused : ((line : ImageRefusal → List ℕ) (text script : List ℕ) (v : applied.Status) (sent : List ℕ) → change.Changes line text script v sent → v ≡ verdict.Condition → IsRefusalOf text script sent)
    → (w : World) (image script sent : List ℕ) → Answers w (changes_words image script) status.Condition sent → AreGiven w image script (λ text commands. IsRefusalOf text commands sent)
changes-refused law w image script sent answers =
    given-of w image script sent status.Condition ((λ e. cc), (λ e. cc)) (λ text commands. WritesChanges text commands status.Condition sent) (λ text commands. IsRefusalOf text commands sent)
    (λ text commands short a. law image_refusal text commands a.verdict sent a.changes (condition-is a.verdict a.status)) answers

-- and with `team`
pub played : ((line : ImageRefusal → List ℕ) (text log : List ℕ) (v : applied.Status) (sent : List ℕ) → play.Plays line text log v sent → v ≡ verdict.Done → IsPlayedFile text log sent)
    → (w : World) (image log sent : List ℕ) → Answers w (team_words image log) status.Done sent → AreGiven w image log (λ text events. IsPlayedFile text events sent)
played law w image log sent answers =
    given-of w image log sent status.Done ((λ e. cc), (λ e. cc)) (λ text events. PlaysLog text events status.Done sent) (λ text events. IsPlayedFile text events sent)
    (λ text events short a. law image_refusal text events a.verdict sent a.plays (done-is a.verdict a.status)) answers
