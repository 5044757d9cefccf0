-- What becomes of scripts that were performed, refused or wrong.
use Rattle.std.proofs.Common.{◌≡◌, ℕ, List, [], ◌++◌, length, Option, Some, None, Ok, Err, refl, sym, ap, subst, ◌∙◌}
use Rattle.std.specs.Prelude.{◌≢◌, MatchOption, map}
use Rattle.std.proofs.lemmas.List.{length-map}
use Rattle.image_model.specs.Image.{ImageOf}
use Rattle.class_table.specs.Slots.{Slots}
use Rattle.class_table.specs.View.{image_of}
use Rattle.file_model.specs.Written.{file_of}
use Rattle.history_model.specs.History.{opened}
use Rattle.history_model.specs.Verdicts.{judged_from}
use Rattle.session_model.specs.Scripts.{rules}
use Rattle.ruled_model.specs.RuledScripts.{History, Refusal, ruled, ruled_verdict}
use Rattle.script_model.specs.Commands.{Cause}
use Rattle.script_model.specs.Scripts.{Says, IsRefused}
use Rattle.script_lang.specs.declared.fault.ScriptFault.{ScriptFault}
use Rattle.script_lang.specs.declared.asked.ScriptLine.{ScriptLine}
use Rattle.script_lang.specs.Shown.{lines_in, fault_shown}
use Rattle.session.specs.Log.{Log}
use Rattle.session.specs.History.{history_of}
use Rattle.apply_model.specs.declared.status.Status.{Status}
use Rattle.apply_model.specs.declared.status.Status.TheVariants as status
use Rattle.apply_model.specs.Lines.{script_line, refusal_line}
use Rattle.apply_model.specs.Applied.{AppliesIn, NoScript, Refused, Accepted}
use Rattle.applied_scripts.specs.declared.lines.Stop.{Stop}
use Rattle.applied_scripts.specs.Refused.{refusal_shown}
use Rattle.applied_scripts.specs.declared.apply.Changed.{Changed}
use Rattle.applied_scripts.specs.declared.apply.Changed.TheVariants as changed
use Rattle.applied_scripts.specs.Changed.{IsChanged, is_done, is_told, IsAfterLines, IsAfterPart, is_after}

-- what becomes of each text of a script that asks for these lines
abbrev Answered : Slots → List ScriptLine → ImageOf (List ℕ) → Changed → List ℕ → Type 0
Answered s lines later v sent = (script : List ℕ) → Says script (lines_in s.names lines) → IsChanged (image_of s) script later sent v

-- as many lines over texts as over numbers
lines_length : (names : List (List ℕ)) (ls : List ScriptLine) → length (lines_in names ls) ≡ length ls
lines_length names ls = length-map ls _

module _ (first before : Slots) (log : Log) (lines : List ScriptLine) (sent : List ℕ) (same : before ≡ first) (fresh : history_of before log ≡ opened rules (image_of before)) where
  -- the verdict on them
  verdict_here : ruled_verdict (image_of before) (lines_in before.names lines) ≡ judged_from ruled 1 (history_of before log) (lines_in before.names lines)
  verdict_here = sym (ap (λ (h : History). judged_from ruled 1 h (lines_in before.names lines)) fresh)

  pub performed : (after : Slots) (done : Log) (count : ℕ) → count ≡ length lines → judged_from ruled 1 (history_of before log) (lines_in before.names lines) ≡ Ok (history_of after done) →
      sent ≡ [] → Answered first lines (image_of after) (changed.Done count) sent
  performed after done count many e empty =
      subst (λ (s : Slots). Answered s lines (image_of after) (changed.Done count) sent) same
      (λ script says.
      subst (λ (n : ℕ). IsChanged (image_of before) script (image_of after) sent (changed.Done n)) (lines_length before.names lines ∙ sym many)
      (is_done (lines_in before.names lines) (history_of after done) says (verdict_here ∙ e) refl empty))

  pub stopped : (later : ImageOf (List ℕ)) (names : List (List ℕ)) (stop : Stop) → ((r : Refusal) → refusal_shown names stop ≡ Some r → judged_from ruled 1 (history_of before log) (lines_in before.names lines) ≡ Err r) →
      MatchOption (refusal_shown names stop) ⊥ (λ r. sent ≡ refusal_line r) → Answered first lines later (changed.Told status.Condition) sent
  stopped later names stop refused line = by (refusal_shown names stop) refl line
    where
      by : (o : Option Refusal) → refusal_shown names stop ≡ o → MatchOption o ⊥ (λ r. sent ≡ refusal_line r) → Answered first lines later (changed.Told status.Condition) sent
      by None e l = absurd l
      by (Some r) e l =
          subst (λ (s : Slots). Answered s lines later (changed.Told status.Condition) sent) same
          (λ script says. is_told status.Condition (λ bad. cc) (Refused (lines_in before.names lines) r says (verdict_here ∙ refused r e) refl l))

-- the first lines that are performed
pub after_lines : (first before : Slots) (log : Log) (lines : List ScriptLine) → before ≡ first → history_of before log ≡ opened rules (image_of before)
    → (after : Slots) (done : Log) → IsAfterLines (history_of before log) (lines_in before.names lines) (history_of after done)
    → (script : List ℕ) → Says script (lines_in first.names lines) → IsAfterPart (image_of first) script (image_of after)
after_lines first before log lines same fresh after done w =
    subst (λ (s : Slots). (script : List ℕ) → Says script (lines_in s.names lines) → IsAfterPart (image_of s) script (image_of after)) same
    (λ script says. is_after w.before w.after (history_of after done) (subst (Says script) w.parts says) (sym (ap (λ (h : History). judged_from ruled 1 h w.before) fresh) ∙ w.accepted) refl)

-- a script that is wrong
pub wrong : (i later : ImageOf (List ℕ)) (script sent : List ℕ) (fault : ScriptFault) → ((n : ℕ) (cause : Cause) → fault_shown fault ≡ Some (n, cause) → IsRefused script n cause)
    → MatchOption (fault_shown fault) ⊥ (λ f. sent ≡ script_line f.0 f.1) → IsChanged i script later sent (changed.Told status.ScriptText)
wrong i later script sent fault told line = by (fault_shown fault) refl line
  where
    by : (o : Option (ℕ × Cause)) → fault_shown fault ≡ o → MatchOption o ⊥ (λ f. sent ≡ script_line f.0 f.1) → IsChanged i script later sent (changed.Told status.ScriptText)
    by None e l = absurd l
    by (Some f) e l = is_told status.ScriptText (λ bad. cc) (NoScript f.0 f.1 (told f.0 f.1 e) refl l)

-- the answer of `apply` where a script was told
pub told_answer : (i later : ImageOf (List ℕ)) (script sent : List ℕ) (s : Status) → IsChanged i script later sent (changed.Told s) → AppliesIn i script s sent
told_answer i later script sent s (is_told v other answer) = answer

-- and where it was performed and the file of the image is written
pub done_answer : (i later : ImageOf (List ℕ)) (script before sent : List ℕ) (count : ℕ) → IsChanged i script later before (changed.Done count) → sent ≡ before ++ file_of later → AppliesIn i script status.Done sent
done_answer i later script before sent count (is_done requests h says accepted same empty) file =
    Accepted requests h says accepted refl (file ∙ ap (λ (t : List ℕ). t ++ file_of later) empty ∙ ap file_of same)

-- nothing is told where all commands are performed
pub nothing_sent : (i later : ImageOf (List ℕ)) (script sent : List ℕ) (count : ℕ) → IsChanged i script later sent (changed.Done count) → sent ≡ []
nothing_sent i later script sent count (is_done requests h says accepted same empty) = empty
