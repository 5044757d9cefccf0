-- A script with rules that is accepted admits the start expression `nil`.
use Rattle.std.proofs.Common.{◌≡◌, List, Option, None, Result, Ok, Err, option_map, refl, ap, ◌∙◌}
use Rattle.std.specs.Option.{option_map_or}
use Rattle.image_model.specs.Image.{ImageOf, plus}
use Rattle.run_model.specs.Values.{Name}
use Rattle.rename_model.specs.ClassRenamed.{canonical}
use Rattle.command_model.specs.Asked.{text_asked}
use Rattle.command_model.specs.Conditions.{ConditionOf}
use Rattle.command_model.specs.Judged.{judged}
use Rattle.history_model.specs.History.{by_result}
use Rattle.history_model.proofs.Mapped.{all_made, verdict-made}
use Rattle.session_model.specs.Admitted.{nil_doit}
use Rattle.history_laws.proofs.NilAdmitted.{judged-nil, own-nil, spells-nil}
use Rattle.rule_model.specs.RuleCommands.{Reason, Unmet, rule_effect}
use Rattle.rule_laws.proofs.RuleHolds.{rule_holds}
use Rattle.rule_laws.proofs.NilLeft.{effect_nil, nil_holds}
use Rattle.ruled_model.specs.RuledScripts.{Change, Plainly, ByRule, Asked, Acts, Applies, Line, History, ruled, ruled_verdict, own_false, AdmitsRuled}
use Rattle.ruled_laws.proofs.RuledKept.{made_by_rule}
use Rattle.ruled_laws.proofs.RuledBeside.{change_plus, changes_plus}

-- a command that is accepted as a change is accepted as a command
plainly_made : (r : Result (ImageOf Name) (ConditionOf Name)) (m : ImageOf Name) → by_result {A = ImageOf Name} {B = Result (ImageOf Name) Reason} (λ j. Ok j) (λ q. Err (Unmet q)) r ≡ Ok m → r ≡ Ok m
plainly_made (Ok j) m e = let same : j ≡ m = cc in ap {B = Result (ImageOf Name) (ConditionOf Name)} (λ k. Ok k) same
plainly_made (Err q) m e = let bad : ⊥ = cc in absurd bad

change_nil : (i : ImageOf Name) (c : Change) (m : ImageOf Name) → ruled.judged i c ≡ Ok m → ruled.judged (plus i nil_doit) c ≡ Ok (plus m nil_doit)
change_nil i (Plainly c) m e = ap (by_result {B = Result (ImageOf Name) Reason} (λ j. Ok j) (λ q. Err (Unmet q))) (judged-nil i c m (plainly_made (judged text_asked canonical i c) m e))
change_nil i (ByRule c) m e =
    let done = made_by_rule i c m e in
    ap (λ (o : Option Reason). option_map_or {U = Result (ImageOf Name) Reason} (λ q. Err q) o (Ok (rule_effect c (plus i nil_doit)))) (nil_holds c i done.0)
    ∙ ap {B = Result (ImageOf Name) Reason} (λ k. Ok k) (effect_nil c i (rule_holds c i done.0).derived ∙ ap (λ k. plus k nil_doit) done.1)

own_nil : (i : ImageOf Name) (x : Asked) → own_false i x ≡ None → own_false (plus i nil_doit) x ≡ None
own_nil i (Acts x) e = ap (option_map (λ q. Unmet q)) (own-nil i x) ∙ e
own_nil i (Applies c) e = refl

pub ruled_nil : (i : ImageOf Name) (script : List Line) (h : History) → ruled_verdict i script ≡ Ok h → AdmitsRuled i script nil_doit
ruled_nil i script h o = record {
  spells = spells-nil;
  history = all_made ruled (λ k. plus k nil_doit) change_nil (λ k c. change_plus k nil_doit c) own_nil (λ k x. changes_plus k nil_doit x) h;
  accepted = verdict-made ruled (λ k. plus k nil_doit) change_nil (λ k c. change_plus k nil_doit c) own_nil (λ k x. changes_plus k nil_doit x) i script h o;
}
