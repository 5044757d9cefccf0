-- Where images stay spelled from change to change, a line is refused in spelled code.
use Rattle.std.proofs.Common.{◌≡◌, ℕ, suc, List, [], ◌∷◌, Option, Some, None, Result, Ok, Err, refl}
use Rattle.std.specs.Prelude.{cond, is_some, option_map}
use Rattle.std.specs.List.{AllByRecursion}
use Rattle.image_model.specs.Image.{ImageOf}
use Rattle.query_model.specs.Lines.{Text}
use Rattle.history_model.specs.Rules.{Perform, Undo, Redo}
use Rattle.history_model.specs.History.{by_result}
use Rattle.command_model.specs.Asked.{text_asked}
use Rattle.command_model.specs.Conditions.{ConditionOf}
use Rattle.session_model.specs.Actions.{ActionOf, Single, CreateAccessors, ExtractSuperclass, PushUpWithMethods}
use Rattle.session_model.specs.OwnConditions.{first_own_false}
use Rattle.rule_model.specs.RuleCommands.{Reason, Unmet}
use Rattle.ruled_model.specs.RuledScripts.{Change, Plainly, ByRule, Asked, Acts, Applies, Line, change_judged, own_false, changes_of}
use Rattle.refusal_witnesses.specs.Spelled.{IsSpelledImage}
use Rattle.why_model.specs.Refusals.{step_refused, stands_for, alone, composite_refused, line_refused}
use Rattle.why_model.specs.Spelled.{IsSpelledChange, IsSpelledJudging}

module _ (Good : ImageOf Text → Type 0) (Fit : Change → Type 0)
    (good_spelled : (i : ImageOf Text) → Good i → IsSpelledImage i) (fit_spelled : (c : Change) → Fit c → IsSpelledChange c)
    (kept : (i j : ImageOf Text) (c : Change) → Good i → Fit c → change_judged i c ≡ Ok j → Good j) where
  -- the step of a composite that is refused
  step-spelled : (i : ImageOf Text) (k : ℕ) (steps : List Change) → Good i → AllByRecursion Fit steps → IsSpelledJudging (step_refused i k steps)
  step-spelled i k [] good fit = tt
  step-spelled i k (c ∷ cs) good fit = by (change_judged i c) refl (λ j n h. step-spelled j n cs h fit.1)
    where
      by : (o : Result (ImageOf Text) Reason) → change_judged i c ≡ o → ((j : ImageOf Text) (n : ℕ) → Good j → IsSpelledJudging (step_refused j n cs))
          → IsSpelledJudging (by_result (λ j. step_refused j (suc k) cs) (λ reason. Some (record { image = i; change = c; step = Some k })) o)
      by (Ok j) e rest = rest j (suc k) (kept i j c good fit.0 e)
      by (Err reason) e rest = (good_spelled i good, fit_spelled c fit.0)

  composite-spelled : (i : ImageOf Text) (x : ActionOf Text) → Good i → IsSpelledChange (Plainly (stands_for x)) → (own_false i (Acts x) ≡ None → AllByRecursion Fit (changes_of i (Acts x))) → IsSpelledJudging (composite_refused i x)
  composite-spelled i x good own fit = by (first_own_false text_asked i x) fit
    where
      by : (o : Option (ConditionOf Text)) → (option_map (λ q. Unmet q) o ≡ None → AllByRecursion Fit (changes_of i (Acts x)))
          → IsSpelledJudging (cond (is_some o) (Some (alone i (Plainly (stands_for x)))) (step_refused i 1 (changes_of i (Acts x))))
      by None h = step-spelled i 1 (changes_of i (Acts x)) good (h refl)
      by (Some q) h = (good_spelled i good, own)

  asked-spelled : (i : ImageOf Text) (x : Asked) → Good i → (own_false i x ≡ None → AllByRecursion Fit (changes_of i x)) → IsSpelledJudging (line_refused i (Perform x))
  asked-spelled i (Acts (Single c)) good fit = (good_spelled i good, fit_spelled (Plainly c) (fit refl).0)
  asked-spelled i (Acts (CreateAccessors c x s given)) good fit = composite-spelled i (CreateAccessors c x s given) good tt fit
  asked-spelled i (Acts (ExtractSuperclass d p under)) good fit = composite-spelled i (ExtractSuperclass d p under) good tt fit
  asked-spelled i (Acts (PushUpWithMethods c x)) good fit = composite-spelled i (PushUpWithMethods c x) good tt fit
  asked-spelled i (Applies c) good fit = (good_spelled i good, fit_spelled (ByRule c) (fit refl).0)

  pub judging-spelled : (i : ImageOf Text) (line : Line) → Good i → ((x : Asked) → line ≡ Perform x → own_false i x ≡ None → AllByRecursion Fit (changes_of i x)) → IsSpelledJudging (line_refused i line)
  judging-spelled i (Perform x) good fit = asked-spelled i x good (fit x refl)
  judging-spelled i Undo good fit = tt
  judging-spelled i Redo good fit = tt
