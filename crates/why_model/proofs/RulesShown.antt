-- Each condition of a rule holds just where nothing is in its way, and what refuses a change is shown.
use Rattle.std.proofs.Common.{◌≡◌, ℕ, List, [], ◌∷◌, Option, Some, None, Ok, Err, refl, sym, ap, ◌∙◌, subst}
use Rattle.std.specs.Prelude.{Bool, true, false, cond, not, ◌&&◌, find, is_none, option_map}
use Rattle.std.specs.Option.{option_map_or}
use Rattle.scope_model.specs.Control.{is_empty}
use Rattle.image_model.specs.Image.{ImageOf}
use Rattle.rename_model.specs.CommandWords.{text_command_words}
use Rattle.rename_model.specs.ClassRenamed.{canonical}
use Rattle.rename_model.specs.Conditions.{has_no_reflection}
use Rattle.query_model.specs.Lines.{Text}
use Rattle.history_model.specs.History.{by_result}
use Rattle.command_model.specs.Asked.{text_asked}
use Rattle.command_model.specs.Commands.{CommandOf}
use Rattle.command_model.specs.Conditions.{ConditionOf}
use Rattle.command_model.specs.Effects.{effect}
use Rattle.command_model.specs.Holds.{holds}
use Rattle.command_model.specs.Needs.{needs}
use Rattle.command_model.specs.Judged.{first_false}
use Rattle.session_model.specs.Actions.{ActionOf, Single, CreateAccessors, ExtractSuperclass, PushUpWithMethods}
use Rattle.session_model.specs.OwnConditions.{own_conditions, first_own_false}
use Rattle.certified_model.specs.Certificates.{stuck_at}
use Rattle.rule_model.specs.RuleCommands.{RuleCommand, Reason, Unmet, rule_effect, rule_judged, rule_result, first_false_of_rule}
use Rattle.ruled_model.specs.RuledScripts.{Change, Plainly, ByRule, change_judged}
use Rattle.refusal_witnesses.specs.Witnesses.{WitnessOf, AStep}
use Rattle.refusal_witnesses.proofs.NamesShown.{shows-reflections-there}
use Rattle.refusal_witnesses.proofs.ParametersShown.{shows-too-high}
use Rattle.refusal_witnesses.proofs.AllShown.{hindered}
use Rattle.why_model.specs.Reasons.{rule_witnesses, change_witnesses, ReasonHasWitnesses, is_reason_there, AreShown}
use Rattle.why_model.specs.Refusals.{Judging, stands_for, IsShownWhere}

-- a certificate that is stuck has a step
shows-step : (o : Option ℕ) → is_none o ≡ is_empty (option_map_or {U = List (WitnessOf Text)} (λ (k : ℕ). AStep k ∷ []) o [])
shows-step None = refl
shows-step (Some k) = refl

pub shows-rule : (i : ImageOf Text) (c : RuleCommand) → AreShown i c (rule_judged c i)
shows-rule i c =
    (shows-reflections-there text_command_words i, (shows-step (stuck_at c.certificate c.rule.pattern c.rule.replacement), (shows-too-high (rule_effect c i), tt)))

-- the first of judged conditions that is false is shown
of-judged : (i : ImageOf Text) (c : RuleCommand) (js : List (Reason × Bool)) (reason : Reason) → AreShown i c js → option_map_or (λ (j : Reason × Bool). Some j.0) (find (λ (j : Reason × Bool). not j.1) js) None ≡ Some reason → is_empty (rule_witnesses i c reason) ≡ false
of-judged i c [] reason h e = absurd (cc)
of-judged i c (j ∷ js) reason (a, h) e = by j.1 (of-judged i c js reason h) a e
  where
    by : (b : Bool) → (option_map_or (λ (x : Reason × Bool). Some x.0) (find (λ (x : Reason × Bool). not x.1) js) None ≡ Some reason → is_empty (rule_witnesses i c reason) ≡ false) → b ≡ is_empty (rule_witnesses i c j.0) → option_map_or (λ (x : Reason × Bool). Some x.0) (cond (not b) (Some j) (find (λ (x : Reason × Bool). not x.1) js)) None ≡ Some reason → is_empty (rule_witnesses i c reason) ≡ false
    by true rest q g = rest g
    by false rest q g =
        let same : j.0 ≡ reason = cc in
        ap (λ (x : Reason). is_empty (rule_witnesses i c x)) (sym same) ∙ sym q

pub hinders-rule : (i : ImageOf Text) (c : RuleCommand) (reason : Reason) → first_false_of_rule c i ≡ Some reason → is_empty (rule_witnesses i c reason) ≡ false
hinders-rule i c reason e = of-judged i c (rule_judged c i) reason (shows-rule i c) e

-- what refuses a rule
refused-rule : (i : ImageOf Text) (c : RuleCommand) (reason : Reason) → rule_result c i ≡ Err reason → first_false_of_rule c i ≡ Some reason
refused-rule i c reason e = by (first_false_of_rule c i) e
  where
    by : (o : Option Reason) → option_map_or (λ (r : Reason). Err r) o (Ok (rule_effect c i)) ≡ Err reason → o ≡ Some reason
    by None q = absurd (cc)
    by (Some r) q =
        let same : r ≡ reason = cc in
        ap (λ (x : Reason). Some x) same

-- what is found fails the test
found-fails : {X : Type 0} (p : X → Bool) (xs : List X) (x : X) → find (λ y. not (p y)) xs ≡ Some x → p x ≡ false
found-fails p [] x e = absurd (cc)
found-fails {X} p (y ∷ ys) x e = by (p y) (found-fails p ys x) refl e
  where
    by : (b : Bool) → (find (λ z. not (p z)) ys ≡ Some x → p x ≡ false) → p y ≡ b → cond (not b) (Some y) (find (λ z. not (p z)) ys) ≡ Some x → p x ≡ false
    by true rest q g = rest g
    by false rest q g =
        let same : y ≡ x = cc in
        ap p (sym same) ∙ q

-- what refuses a command is a condition that is false
pub refused-plainly : (i : ImageOf Text) (c : CommandOf Text) (reason : Reason) → change_judged i (Plainly c) ≡ Err reason → (q : ConditionOf Text) × (reason ≡ Unmet q) × (holds text_asked i c q ≡ false)
refused-plainly i c reason e = by (first_false text_asked i c) refl e
  where
    by : (o : Option (ConditionOf Text)) → first_false text_asked i c ≡ o → by_result (λ (j : ImageOf Text). Ok j) (λ (q : ConditionOf Text). Err (Unmet q)) (option_map_or (λ (q : ConditionOf Text). Err q) o (Ok (effect text_asked canonical c i))) ≡ Err reason → (q : ConditionOf Text) × (reason ≡ Unmet q) × (holds text_asked i c q ≡ false)
    by None found g = absurd (cc)
    by (Some q) found g =
        let same : Unmet q ≡ reason = cc in
        (q, sym same, found-fails (holds text_asked i c) (needs text_asked i c) q found)

-- a condition of a command that is false is shown
of-false : (j : Judging) (c : CommandOf Text) (reason : Reason) (q : ConditionOf Text) → j.change ≡ Plainly c → reason ≡ Unmet q → holds text_asked j.image c q ≡ false → IsShownWhere j reason
of-false j c reason q change unmet e has there =
    let one : ReasonHasWitnesses (Unmet q) = subst ReasonHasWitnesses unmet has in
    let both : is_reason_there j.image j.change reason ≡ is_reason_there j.image (Plainly c) (Unmet q) = λ k. is_reason_there j.image (change k) (unmet k) in
    let shown : change_witnesses j.image j.change reason ≡ change_witnesses j.image (Plainly c) (Unmet q) = λ k. change_witnesses j.image (change k) (unmet k) in
    ap is_empty shown ∙ hindered text_asked j.image c q one e (sym both ∙ there)

-- a change that is refused is shown
pub shows-change : (j : Judging) (reason : Reason) → change_judged j.image j.change ≡ Err reason → IsShownWhere j reason
shows-change j reason e = by j.change refl e
  where
    by : (c : Change) → j.change ≡ c → change_judged j.image c ≡ Err reason → IsShownWhere j reason
    by (Plainly c) same g =
        let found = refused-plainly j.image c reason g in
        of-false j c reason found.0 same found.1 found.2
    by (ByRule c) same g = λ has there.
        ap (λ (x : Change). is_empty (change_witnesses j.image x reason)) same ∙ hinders-rule j.image c reason (refused-rule j.image c reason g)

-- the conditions of a composite hold as those of the command that stands for it
and-true : (b : Bool) → b ≡ (b && true)
and-true true = refl
and-true false = refl

abbrev AreHeld : ImageOf Text → CommandOf Text → List (ConditionOf Text × Bool) → Type 0
AreHeld i c [] = Unit {0}
AreHeld i c (j ∷ js) = (j.1 ≡ holds text_asked i c j.0) × AreHeld i c js

own-held : (i : ImageOf Text) (x : ActionOf Text) → AreHeld i (stands_for x) (own_conditions text_asked i x)
own-held i (Single command) = tt
own-held i (CreateAccessors c x s parameter) = (and-true (has_no_reflection text_command_words i), (refl, (refl, tt)))
own-held i (ExtractSuperclass d p under) = (and-true (has_no_reflection text_command_words i), tt)
own-held i (PushUpWithMethods c x) = (and-true (has_no_reflection text_command_words i), tt)

of-held : (i : ImageOf Text) (c : CommandOf Text) (js : List (ConditionOf Text × Bool)) (q : ConditionOf Text) → AreHeld i c js → option_map (λ (j : ConditionOf Text × Bool). j.0) (find (λ (j : ConditionOf Text × Bool). not j.1) js) ≡ Some q → holds text_asked i c q ≡ false
of-held i c [] q h e = absurd (cc)
of-held i c (j ∷ js) q (a, h) e = by j.1 (of-held i c js q h) a e
  where
    by : (b : Bool) → (option_map (λ (x : ConditionOf Text × Bool). x.0) (find (λ (x : ConditionOf Text × Bool). not x.1) js) ≡ Some q → holds text_asked i c q ≡ false) → b ≡ holds text_asked i c j.0 → option_map (λ (x : ConditionOf Text × Bool). x.0) (cond (not b) (Some j) (find (λ (x : ConditionOf Text × Bool). not x.1) js)) ≡ Some q → holds text_asked i c q ≡ false
    by true rest r g = rest g
    by false rest r g =
        let same : j.0 ≡ q = cc in
        ap (holds text_asked i c) (sym same) ∙ sym r

-- a composite that is refused by a condition of its own is shown
pub shows-composite : (j : Judging) (x : ActionOf Text) (reason : Reason) (q : ConditionOf Text) → j.change ≡ Plainly (stands_for x) → reason ≡ Unmet q → first_own_false text_asked j.image x ≡ Some q → IsShownWhere j reason
shows-composite j x reason q change unmet e =
    of-false j (stands_for x) reason q change unmet (of-held j.image (stands_for x) (own_conditions text_asked j.image x) q (own-held j.image x) e)
