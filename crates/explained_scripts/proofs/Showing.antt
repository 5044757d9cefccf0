-- What is shown of a line that is refused, and that it explains why a script is.
use Rattle.std.proofs.Common.{◌≡◌, ◌-◌, List, [], ◌∷◌, ◌++◌, length, Option, Some, None, Result, Ok, Err, slice_get, refl, sym, ap, subst, ◌∙◌, arith}
use Rattle.std.specs.Option.{option_map_or}
use Rattle.image_model.specs.Image.{ImageOf}
use Rattle.query_model.specs.Lines.{Text}
use Rattle.class_table.specs.Slots.{Slots}
use Rattle.class_table.specs.View.{image_of}
use Rattle.history_model.specs.Rules.{Perform, Undo, Redo}
use Rattle.history_model.specs.History.{by_result, after_action, version_after, appended, stepped}
use Rattle.history_model.specs.Verdicts.{judged_from}
use Rattle.session_model.specs.Actions.{ActionOf}
use Rattle.script_model.specs.Scripts.{Says}
use Rattle.rule_model.specs.RuleCommands.{RuleCommand, Reason, first_false_of_rule, rule_effect}
use Rattle.ruled_model.specs.RuledScripts.{Acts, Applies, ByRule, Line, Version, History, Refusal, ruled}
use Rattle.apply_model.specs.declared.status.Status.TheVariants as status
use Rattle.session.specs.Log.{Log}
use Rattle.session.specs.History.{history_of}
use Rattle.applied_scripts.specs.Refused.{StopsAt}
use Rattle.why_model.specs.Refusals.{Judging, alone, line_refused}
use Rattle.why_model.specs.Explained.{explained, step_of, AreLinesOf, AreWitnessLines}
use Rattle.why_model.specs.Why.{WhyIn, Refused}
use Rattle.explained_scripts.specs.declared.explain.Hindered.{Hindered}
use Rattle.explained_scripts.specs.declared.judging.Refused as judging
use Rattle.explained_scripts.specs.Refused.{judging_of, reason_text, IsRefusedAction}
use Rattle.explained_scripts.specs.Shown.{Shows, IsTold}

-- an action that is refused in a history is refused in its present version
acted : (h : History) (x : _) (reason : Reason) → stepped ruled h (Perform x) ≡ Err reason → after_action ruled h.now x ≡ Err reason
acted h x reason e = by (after_action ruled h.now x) e
  where
    by : (o : Result Version Reason) → by_result (λ (v : Version). Ok (appended ruled h v)) (λ (q : Reason). Err q) o ≡ Err reason → o ≡ Err reason
    by (Ok v) f = absurd (cc)
    by (Err q) f =
        let same : q ≡ reason = cc in
        ap {B = Result Version Reason} (λ (r : Reason). Err r) same

-- of an action
pub shows-action : (s t : Slots) (log : Log) (x : ActionOf Text) (r : judging.Refused) (shown : Hindered) → IsRefusedAction (image_of s) x t r → shown.step ≡ r.step → AreLinesOf (judging_of t r) (reason_text t r.condition) shown.lines.items
    → Shows (history_of s log) (Perform (Acts x)) shown
shows-action s t log x r shown refused step lines = record {
  step = λ reason e. step ∙ sym (ap step_of refused.found);
  lines = λ reason e.
      subst (λ (o : Option Judging). AreWitnessLines o reason shown.lines.items) (sym refused.found)
      (subst (λ (q : Reason). AreLinesOf (judging_of t r) q shown.lines.items) (sym (refused.only (history_of s log).now reason refl (acted (history_of s log) (Acts x) reason e))) lines);
}

-- of a rule
pub shows-rule : (h : History) (c : RuleCommand) (shown : Hindered) → shown.step ≡ None → ((reason : Reason) → first_false_of_rule c h.now.image ≡ Some reason → AreLinesOf (alone h.now.image (ByRule c)) reason shown.lines.items)
    → Shows h (Perform (Applies c)) shown
shows-rule h c shown step lines = record {
  step = λ reason e. step;
  lines = λ reason e. lines reason (first reason (acted h (Applies c) reason e));
}
  where
    first : (reason : Reason) → after_action ruled h.now (Applies c) ≡ Err reason → first_false_of_rule c h.now.image ≡ Some reason
    first reason e = by (first_false_of_rule c h.now.image) e
      where
        by : (o : Option Reason) → by_result (λ (j : ImageOf Text). Ok (version_after ruled h.now (ByRule c) j)) (λ (q : Reason). Err q) (option_map_or {U = Result (ImageOf Text) Reason} (λ (r : Reason). Err r) o (Ok (rule_effect c h.now.image))) ≡ Err reason → o ≡ Some reason
        by None f = absurd (cc)
        by (Some q) f =
            let same : q ≡ reason = cc in
            ap Some same

-- of the history
pub shows-undo : (h : History) (shown : Hindered) → shown.step ≡ None → shown.lines.items ≡ [] → Shows h Undo shown
shows-undo h shown step lines = record { step = λ reason e. step; lines = λ reason e. lines }

pub shows-redo : (h : History) (shown : Hindered) → shown.step ≡ None → shown.lines.items ≡ [] → Shows h Redo shown
shows-redo h shown step lines = record { step = λ reason e. step; lines = λ reason e. lines }

-- what stands after the first part of a list
at-middle : (xs ys : List Line) (x : Line) → slice_get (xs ++ x ∷ ys) (length xs) ≡ Some x
at-middle [] ys x = refl
at-middle (y ∷ xs) ys x = at-middle xs ys x

-- a script that stops, and is told why, is answered
pub told-why : (i : ImageOf Text) (script : Text) (lines others : List Line) (h g : History) (fresh : (before : List Line) → judged_from ruled 1 h before ≡ judged_from ruled 1 (record { earlier = []; now = record { image = i; renaming = ruled.nothing }; later = [] }) before)
    → Says script lines → others ≡ lines → (refusal : Refusal) → StopsAt h lines refusal g → (before after : Text) → before ≡ [] → IsTold g script others refusal before after
    → WhyIn i script status.Condition after
told-why i script lines others h g fresh says same refusal stops before after empty told =
    let place : refusal.number - 1 ≡ length stops.before = omega (arith, stops.numbered) in
    let both : Some told.line ≡ Some stops.line =
    sym told.asked ∙ (λ j. slice_get (same j) (place j)) ∙ ap (λ ls. slice_get ls (length stops.before)) stops.parts ∙ at-middle stops.before stops.after stops.line in
    let at : told.line ≡ stops.line = cc in
    let here : stepped ruled g told.line ≡ Err refusal.condition = subst (λ (l : Line). stepped ruled g l ≡ Err refusal.condition) (sym at) stops.refused in
    let why = told.tells here in
    Refused (record {
      requests = lines;
      says = says;
      refusal = refusal;
      refused = record {
        before = stops.before;
        line = told.line;
        after = stops.after;
        history = g;
        parts = stops.parts ∙ ap (λ (l : Line). stops.before ++ l ∷ stops.after) (sym at);
        numbered = stops.numbered;
        accepted = sym (fresh stops.before) ∙ stops.accepted;
        refused = here;
      };
      number = why.number;
      line = why.text;
      at = why.at;
      witness_lines = why.witness_lines;
      are = why.are;
      is = why.is ∙ ap (λ (t : Text). t ++ explained refusal why.number why.text (step_of (line_refused g.now.image told.line)) why.witness_lines) empty;
    }) refl
