-- A script that asks for no rule has the verdict that it has by itself.
use Rattle.std.proofs.Common.{◌≡◌, ℕ, suc, List, [], ◌∷◌, map, Option, Some, None, Result, Ok, Err, option_map, refl, ap, ◌∙◌}
use Rattle.std.specs.Option.{option_map_or}
use Rattle.rb_base.specs.Names.{text_eq}
use Rattle.image_model.specs.Image.{ImageOf}
use Rattle.run_model.specs.Values.{Name}
use Rattle.rename_model.specs.ClassRenamed.{canonical}
use Rattle.command_model.specs.Asked.{text_asked}
use Rattle.command_model.specs.Commands.{CommandOf}
use Rattle.command_model.specs.Conditions.{ConditionOf}
use Rattle.history_model.specs.Rules.{Perform, Undo, Redo}
use Rattle.history_model.specs.History.{by_result, version_after, after_all, after_action, appended, undone, redone, stepped, opened}
use Rattle.history_model.specs.Verdicts.{RefusalOf, judged_from}
use Rattle.session_model.specs.Actions.{ActionOf}
use Rattle.session_model.specs.OwnConditions.{first_own_false}
use Rattle.session_model.specs.Steps.{steps_of}
use Rattle.session_model.specs.Scripts.{Request, Version, History, rules, verdict_in}
use Rattle.rule_model.specs.RuleCommands.{Reason, Unmet}
use Rattle.ruled_model.specs.RuledScripts.{Plainly, Acts, ruled, ruled_verdict, as_line, as_refusal}

-- a result with its condition as a reason
abbrev as_reason : {A : Type 0} → Result A (ConditionOf Name) → Result A Reason
as_reason r = by_result (λ a. Ok a) (λ q. Err (Unmet q)) r

commands_same : (v : Version) (cs : List (CommandOf Name)) → after_all ruled v (map (λ c. Plainly c) cs) ≡ as_reason (after_all rules v cs)
commands_same v [] = refl
commands_same v (c ∷ cs) = by (rules.judged v.image c) (λ j. commands_same (version_after rules v c j) cs)
  where
    by : (r : Result (ImageOf Name) (ConditionOf Name)) → ((j : ImageOf Name) → after_all ruled (version_after ruled v (Plainly c) j) (map (λ d. Plainly d) cs) ≡ as_reason (after_all rules (version_after rules v c j) cs)) →
        by_result (λ j. after_all ruled (version_after ruled v (Plainly c) j) (map (λ d. Plainly d) cs)) (λ q. Err q) (as_reason r) ≡ as_reason (by_result (λ j. after_all rules (version_after rules v c j) cs) (λ q. Err q) r)
    by (Ok j) rest = rest j
    by (Err q) rest = refl

action_same : (v : Version) (x : ActionOf Name) → after_action ruled v (Acts x) ≡ as_reason (after_action rules v x)
action_same v x = by (first_own_false text_asked v.image x) (commands_same v (steps_of text_eq v.image canonical x))
  where
    by : (o : Option (ConditionOf Name)) → after_all ruled v (map (λ c. Plainly c) (steps_of text_eq v.image canonical x)) ≡ as_reason (after_all rules v (steps_of text_eq v.image canonical x)) →
        option_map_or (λ q. Err q) (option_map (λ q. Unmet q) o) (after_all ruled v (map (λ c. Plainly c) (steps_of text_eq v.image canonical x))) ≡ as_reason (option_map_or (λ q. Err q) o (after_all rules v (steps_of text_eq v.image canonical x)))
    by None e = e
    by (Some q) e = refl

pub line_same : (h : History) (x : Request) → stepped ruled h (as_line x) ≡ as_reason (stepped rules h x)
line_same h (Perform x) = ap (by_result (λ v. Ok (appended ruled h v)) (λ q. Err q)) (action_same h.now x) ∙ by (after_action rules h.now x)
  where
    by : (r : Result Version (ConditionOf Name)) → by_result (λ v. Ok (appended ruled h v)) (λ q. Err q) (as_reason r) ≡ as_reason (by_result (λ v. Ok (appended rules h v)) (λ q. Err q) r)
    by (Ok v) = refl
    by (Err q) = refl
line_same h Undo = by h.earlier
  where
    by : (es : List Version) → undone ruled (record h { earlier = es }) ≡ as_reason (undone rules (record h { earlier = es }))
    by [] = refl
    by (v ∷ vs) = refl
line_same h Redo = by h.later
  where
    by : (es : List Version) → redone ruled (record h { later = es }) ≡ as_reason (redone rules (record h { later = es }))
    by [] = refl
    by (v ∷ vs) = refl

-- a verdict with its refusal as one for a reason
abbrev as_verdict : Result History (RefusalOf (ConditionOf Name)) → Result History (RefusalOf Reason)
as_verdict r = by_result (λ h. Ok h) (λ q. Err (as_refusal q)) r

lines_same : (k : ℕ) (h : History) (xs : List Request) → judged_from ruled k h (map as_line xs) ≡ as_verdict (judged_from rules k h xs)
lines_same k h [] = refl
lines_same k h (x ∷ xs) =
    ap (by_result (λ g. judged_from ruled (suc k) g (map as_line xs)) (λ q. Err (record { number = k; condition = q }))) (line_same h x)
    ∙ by (stepped rules h x) (λ g. lines_same (suc k) g xs)
  where
    by : (r : Result History (ConditionOf Name)) → ((g : History) → judged_from ruled (suc k) g (map as_line xs) ≡ as_verdict (judged_from rules (suc k) g xs)) →
        by_result (λ g. judged_from ruled (suc k) g (map as_line xs)) (λ q. Err (record { number = k; condition = q })) (as_reason r)
        ≡ as_verdict (by_result (λ g. judged_from rules (suc k) g xs) (λ q. Err (record { number = k; condition = q })) r)
    by (Ok g) rest = rest g
    by (Err q) rest = refl

pub same_verdict : (i : ImageOf Name) (script : List Request) → ruled_verdict i (map as_line script) ≡ as_verdict (verdict_in i script)
same_verdict i script = lines_same 1 (opened rules i) script
