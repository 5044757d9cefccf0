-- What `why` answers to a script that was performed, refused or wrong.
use Rattle.std.proofs.Common.{◌≡◌, ℕ, List, [], Option, Some, None, Ok, refl, sym, ap, subst, ◌∙◌}
use Rattle.std.specs.Prelude.{MatchOption}
use Rattle.image_model.specs.Image.{ImageOf}
use Rattle.query_model.specs.Lines.{Text}
use Rattle.event_trees.specs.Naming.{Grows}
use Rattle.class_table.specs.Slots.{Slots}
use Rattle.class_table.specs.View.{image_of}
use Rattle.history_model.specs.History.{opened}
use Rattle.history_model.specs.Verdicts.{judged_from}
use Rattle.session_model.specs.Scripts.{rules}
use Rattle.ruled_model.specs.RuledScripts.{Line, History, Refusal, ruled}
use Rattle.script_model.specs.Commands.{Cause}
use Rattle.script_model.specs.Scripts.{Says, IsRefused}
use Rattle.script_lang.specs.declared.fault.ScriptFault.{ScriptFault}
use Rattle.script_lang.specs.declared.asked.ScriptLine.{ScriptLine}
use Rattle.script_lang.specs.Shown.{lines_in, fault_shown, AreKnown}
use Rattle.script_lang.proofs.Growing.{lines-grown}
use Rattle.session.specs.Log.{Log}
use Rattle.session.specs.History.{history_of}
use Rattle.apply_model.specs.declared.status.Status.TheVariants as status
use Rattle.apply_model.specs.Lines.{script_line}
use Rattle.applied_scripts.specs.declared.lines.Stop.{Stop}
use Rattle.applied_scripts.specs.Refused.{refusal_shown, StopsAt}
use Rattle.why_model.specs.Why.{WhyIn, NoScript, Accepted}
use Rattle.explained_scripts.specs.Shown.{IsTold}
use Rattle.explained_scripts.proofs.Showing.{told-why}

-- a script that is wrong
pub wrong-script : (i : ImageOf Text) (script sent : Text) (fault : ScriptFault) → ((n : ℕ) (cause : Cause) → fault_shown fault ≡ Some (n, cause) → IsRefused script n cause)
    → MatchOption (fault_shown fault) ⊥ (λ f. sent ≡ script_line f.0 f.1) → WhyIn i script status.ScriptText sent
wrong-script i script sent fault told line = by (fault_shown fault) refl line
  where
    by : (o : Option (ℕ × Cause)) → fault_shown fault ≡ o → MatchOption o ⊥ (λ f. sent ≡ script_line f.0 f.1) → WhyIn i script status.ScriptText sent
    by None e l = absurd l
    by (Some f) e l = NoScript f.0 f.1 (told f.0 f.1 e) refl l

module _ (first before : Slots) (log : Log) (script : Text) (lines : List ScriptLine) (same : before ≡ first) (fresh : history_of before log ≡ opened rules (image_of before)) (says : Says script (lines_in first.names lines)) where
  -- the script asks for the same of the slots that are performed on
  says-before : Says script (lines_in before.names lines)
  says-before = subst (λ (s : Slots). Says script (lines_in s.names lines)) (sym same) says

  -- a script of which all is accepted
  pub accepted-script : (after : Slots) (done : Log) (sent : Text) → judged_from ruled 1 (history_of before log) (lines_in before.names lines) ≡ Ok (history_of after done) → sent ≡ [] → WhyIn (image_of first) script status.Done sent
  accepted-script after done sent e empty =
      subst (λ (s : Slots). WhyIn (image_of s) script status.Done sent) same
      (Accepted (lines_in before.names lines) (history_of after done) says-before (sym (ap (λ (h : History). judged_from ruled 1 h (lines_in before.names lines)) fresh) ∙ e) refl empty)

  -- a script that stops
  pub stopped-script : ((text : Text) (rs qs : List Line) → Says text rs → Says text qs → rs ≡ qs) → (others : List ScriptLine) → Says script (lines_in first.names others) → AreKnown first.names others
      → (after : Slots) (done : Log) (grows : Grows before.names after.names) (stop : Stop)
      → ((r : Refusal) → refusal_shown after.names stop ≡ Some r → StopsAt (history_of before log) (lines_in before.names lines) r (history_of after done))
      → (start sent : Text) → start ≡ []
      → (refusal : Refusal) × (refusal_shown after.names stop ≡ Some refusal) × IsTold (history_of after done) script (lines_in after.names others) refusal start sent
      → WhyIn (image_of first) script status.Condition sent
  stopped-script once others repeats known after done grows stop reached start sent empty told =
      let there : AreKnown before.names others = subst (λ (s : Slots). AreKnown s.names others) (sym same) known in
      let again : Says script (lines_in before.names others) = subst (λ (s : Slots). Says script (lines_in s.names others)) (sym same) repeats in
      subst (λ (s : Slots). WhyIn (image_of s) script status.Condition sent) same
      (told-why (image_of before) script (lines_in before.names lines) (lines_in after.names others) (history_of before log) (history_of after done)
      (λ ls. ap (λ (h : History). judged_from ruled 1 h ls) fresh) says-before
      (lines-grown grows others there ∙ once script (lines_in before.names others) (lines_in before.names lines) again says-before)
      told.0 (reached told.0 told.1) start sent empty told.2)
