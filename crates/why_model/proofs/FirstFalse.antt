-- What refuses a line of a script is the first condition that is false where the line is refused.
use Rattle.std.proofs.Common.{◌≡◌, ℕ, suc, List, [], ◌∷◌, Option, Some, None, Result, Ok, Err, refl, sym, ap, ◌∙◌}
use Rattle.std.specs.Prelude.{cond, is_some, option_map}
use Rattle.std.specs.Option.{option_map_or}
use Rattle.image_model.specs.Image.{ImageOf}
use Rattle.query_model.specs.Lines.{Text}
use Rattle.history_model.specs.Rules.{Perform, Undo, Redo}
use Rattle.history_model.specs.History.{by_result, after_all, after_action, version_after, appended, stepped, undone, redone}
use Rattle.history_model.specs.Verdicts.{IsRefusedAt}
use Rattle.command_model.specs.Asked.{text_asked}
use Rattle.command_model.specs.Conditions.{ConditionOf, UndoLeft, RedoLeft}
use Rattle.session_model.specs.Actions.{ActionOf, Single, CreateAccessors, ExtractSuperclass, PushUpWithMethods}
use Rattle.session_model.specs.OwnConditions.{first_own_false}
use Rattle.rule_model.specs.RuleCommands.{Reason, Unmet}
use Rattle.ruled_model.specs.RuledScripts.{Change, Plainly, ByRule, Asked, Acts, Applies, Line, Version, History, Refusal, ruled, change_judged, changes_of}
use Rattle.why_model.specs.Refusals.{Judging, step_refused, stands_for, alone, composite_refused, line_refused, IsFirstFalse, OfChange, OfComposite, OfUndo, OfRedo, IsShownWhere}
use Rattle.why_model.proofs.RulesShown.{shows-change, shows-composite}

-- a step is found, and it is refused with this reason
record IsStepFound (i : ImageOf Text) (k : ℕ) (steps : List Change) (reason : Reason) : Type 0 where
  judging : Judging
  found : step_refused i k steps ≡ Some judging
  refused : change_judged judging.image judging.change ≡ Err reason

finds-step : (v : Version) (k : ℕ) (steps : List Change) (reason : Reason) → after_all ruled v steps ≡ Err reason → IsStepFound v.image k steps reason
finds-step v k [] reason e = absurd (cc)
finds-step v k (c ∷ cs) reason e = by (change_judged v.image c) refl (λ w n. finds-step w n cs reason) e
  where
    here : Judging
    here = record { image = v.image; change = c; step = Some k }

    by : (o : Result (ImageOf Text) Reason) → change_judged v.image c ≡ o → ((w : Version) (n : ℕ) → after_all ruled w cs ≡ Err reason → IsStepFound w.image n cs reason) → by_result (λ j. after_all ruled (version_after ruled v c j) cs) (λ q. Err q) o ≡ Err reason → IsStepFound v.image k (c ∷ cs) reason
    by (Ok i) is rest g =
        let later = rest (version_after ruled v c i) (suc k) g in
        record {
          judging = later.judging;
          found = ap (λ o. by_result (λ j. step_refused j (suc k) cs) (λ q. Some here) o) is ∙ later.found;
          refused = later.refused;
        }
    by (Err q) is rest g =
        let same : q ≡ reason = cc in
        record {
          judging = here;
          found = ap (λ o. by_result (λ j. step_refused j (suc k) cs) (λ q. Some here) o) is;
          refused = is ∙ ap {B = Result (ImageOf Text) Reason} (λ (x : Reason). Err x) same;
        }

-- a change that is the only one
only-change : (v : Version) (c : Change) (reason : Reason) → after_all ruled v (c ∷ []) ≡ Err reason → change_judged v.image c ≡ Err reason
only-change v c reason e = by (change_judged v.image c) e
  where
    by : (o : Result (ImageOf Text) Reason) → by_result (λ j. Ok (version_after ruled v c j)) (λ q. Err q) o ≡ Err reason → o ≡ Err reason
    by (Ok i) g = absurd (cc)
    by (Err q) g =
        let same : q ≡ reason = cc in
        ap {B = Result (ImageOf Text) Reason} (λ (x : Reason). Err x) same

-- a composite
of-composite : (v : Version) (x : ActionOf Text) (reason : Reason) → line_refused v.image (Perform (Acts x)) ≡ composite_refused v.image x → after_action ruled v (Acts x) ≡ Err reason → IsFirstFalse v.image (Perform (Acts x)) reason
of-composite v x reason told e = by (first_own_false text_asked v.image x) refl told e
  where
    by : (o : Option (ConditionOf Text)) → first_own_false text_asked v.image x ≡ o
        → line_refused v.image (Perform (Acts x)) ≡ cond (is_some o) (Some (alone v.image (Plainly (stands_for x)))) (step_refused v.image 1 (changes_of v.image (Acts x)))
        → option_map_or (λ q. Err q) (option_map (λ (q : ConditionOf Text). Unmet q) o) (after_all ruled v (changes_of v.image (Acts x))) ≡ Err reason
        → IsFirstFalse v.image (Perform (Acts x)) reason
    by None is told g =
        let found = finds-step v 1 (changes_of v.image (Acts x)) reason g in
        OfChange found.judging (told ∙ found.found) found.refused
    by (Some q) is told g =
        let same : Unmet q ≡ reason = cc in
        OfComposite x q refl (sym same) is told

of-action : (v : Version) (x : Asked) (reason : Reason) → after_action ruled v x ≡ Err reason → IsFirstFalse v.image (Perform x) reason
of-action v (Acts (Single c)) reason e = OfChange (alone v.image (Plainly c)) refl (only-change v (Plainly c) reason e)
of-action v (Acts (CreateAccessors c x s given)) reason e = of-composite v (CreateAccessors c x s given) reason refl e
of-action v (Acts (ExtractSuperclass d p under)) reason e = of-composite v (ExtractSuperclass d p under) reason refl e
of-action v (Acts (PushUpWithMethods c x)) reason e = of-composite v (PushUpWithMethods c x) reason refl e
of-action v (Applies c) reason e = OfChange (alone v.image (ByRule c)) refl (only-change v (ByRule c) reason e)

-- the history has nothing to take back, or nothing to do again
nothing-earlier : (earlier : List Version) (now : Version) (later : List Version) (reason : Reason) → undone ruled (record { earlier = earlier; now = now; later = later }) ≡ Err reason → reason ≡ Unmet UndoLeft
nothing-earlier [] now later reason e =
    let same : Unmet UndoLeft ≡ reason = cc in
    sym same
nothing-earlier (v ∷ vs) now later reason e = absurd (cc)

nothing-later : (earlier : List Version) (now : Version) (later : List Version) (reason : Reason) → redone ruled (record { earlier = earlier; now = now; later = later }) ≡ Err reason → reason ≡ Unmet RedoLeft
nothing-later earlier now [] reason e =
    let same : Unmet RedoLeft ≡ reason = cc in
    sym same
nothing-later earlier now (v ∷ vs) reason e = absurd (cc)

of-line : (h : History) (line : Line) (reason : Reason) → stepped ruled h line ≡ Err reason → IsFirstFalse h.now.image line reason
of-line h (Perform x) reason e = of-action h.now x reason (by (after_action ruled h.now x) e)
  where
    by : (o : Result Version Reason) → by_result (λ v. Ok (appended ruled h v)) (λ q. Err q) o ≡ Err reason → o ≡ Err reason
    by (Ok v) g = absurd (cc)
    by (Err q) g =
        let same : q ≡ reason = cc in
        ap {B = Result Version Reason} (λ (r : Reason). Err r) same
of-line h Undo reason e = OfUndo refl (nothing-earlier h.earlier h.now h.later reason e)
of-line h Redo reason e = OfRedo refl (nothing-later h.earlier h.now h.later reason e)

pub is-first-false : (i : ImageOf Text) (script : List Line) (refusal : Refusal) (r : IsRefusedAt ruled i script refusal) → IsFirstFalse r.history.now.image r.line refusal.condition
is-first-false i script refusal r = of-line r.history r.line refusal.condition r.refused

-- what is found so is shown
shows-found : (i : ImageOf Text) (line : Line) (reason : Reason) (j : Judging) → IsFirstFalse i line reason → line_refused i line ≡ Some j → IsShownWhere j reason
shows-found i line reason j (OfChange k found refused) e =
    let both : ◌≡◌ {A = Option Judging} (Some k) (Some j) = sym found ∙ e in
    let same : k ≡ j = cc in
    shows-change j reason (ap (λ (x : Judging). change_judged x.image x.change) (sym same) ∙ refused)
shows-found i line reason j (OfComposite x q is unmet own found) e =
    let both : ◌≡◌ {A = Option Judging} (Some (alone i (Plainly (stands_for x)))) (Some j) = sym found ∙ e in
    let same : alone i (Plainly (stands_for x)) ≡ j = cc in
    shows-composite j x reason q (ap (λ (y : Judging). y.change) (sym same)) unmet (ap (λ (y : Judging). first_own_false text_asked y.image x) (sym same) ∙ own)
shows-found i line reason j (OfUndo is unmet) e =
    let both : ◌≡◌ {A = Option Judging} None (Some j) = ap (line_refused i) (sym is) ∙ e in
    absurd (cc)
shows-found i line reason j (OfRedo is unmet) e =
    let both : ◌≡◌ {A = Option Judging} None (Some j) = ap (line_refused i) (sym is) ∙ e in
    absurd (cc)

pub is-shown : (i : ImageOf Text) (script : List Line) (refusal : Refusal) (r : IsRefusedAt ruled i script refusal) (j : Judging) → line_refused r.history.now.image r.line ≡ Some j → IsShownWhere j refusal.condition
is-shown i script refusal r j e = shows-found r.history.now.image r.line refusal.condition j (is-first-false i script refusal r) e
