-- One script with rules in an image, and in the image with one more do-it.
use Rattle.std.proofs.Common.{◌≡◌, List, map, Ok, refl, sym, ap, ◌∙◌, subst}
use Rattle.std.specs.List.{AllByRecursion}
use Rattle.image_model.specs.Image.{DoItOf, ImageOf, plus}
use Rattle.run_model.specs.Values.{Name}
use Rattle.run_model.specs.Matched.{AreMatched}
use Rattle.rename_model.specs.ClassRenamed.{canonical}
use Rattle.command_model.specs.Asked.{text_asked}
use Rattle.command_model.specs.Beside.{HasOneMore}
use Rattle.command_model.specs.Effects.{effect}
use Rattle.command_model.proofs.EffectsBeside.{effect-beside}
use Rattle.history_model.specs.Rules.{Asks}
use Rattle.history_model.proofs.Beside.{AreBeside, verdicts-beside}
use Rattle.kept_runs.specs.KeepsRuns.{IsSound, AllKeepRuns}
use Rattle.history_laws.proofs.JudgedBeside.{renaming-plus, steps-plus}
use Rattle.history_laws.proofs.ScriptsKeep.{plus-sound}
use Rattle.rule_model.specs.RuleCommands.{RuleCommand, rule_effect}
use Rattle.rule_model.specs.Beside.{doit_after}
use Rattle.rule_model.proofs.DoItBeside.{goes_along}
use Rattle.rule_laws.specs.KeptRules.{IsSpelledRule, RuleKeepsRuns}
use Rattle.ruled_model.specs.RuledScripts.{Change, Plainly, ByRule, Asked, Acts, Applies, Line, History, ruled, ruled_verdict, change_renaming, changes_of, AdmitsRuled}
use Rattle.ruled_laws.specs.SpelledRequests.{IsSpelledAsked}
use Rattle.ruled_laws.proofs.RuledKept.{made, made_by_rule, ruled_kept}

-- what a change renames, and the steps of an action
pub change_plus : (i : ImageOf Name) (e : DoItOf Name) (c : Change) → change_renaming (plus i e) c ≡ change_renaming i c
change_plus i e (Plainly c) = renaming-plus i e c
change_plus i e (ByRule c) = refl

pub changes_plus : (i : ImageOf Name) (e : DoItOf Name) (x : Asked) → changes_of (plus i e) x ≡ changes_of i x
changes_plus i e (Acts x) = ap (map (λ c. Plainly c)) (steps-plus i e x)
changes_plus i e (Applies c) = refl

-- one change on both sides
change_beside : (i j : ImageOf Name) (c : Change) (m n : ImageOf Name) → HasOneMore i j → ruled.judged i c ≡ Ok m → ruled.judged j c ≡ Ok n → HasOneMore m n
change_beside i j (Plainly c) m n one o p =
    let both = effect-beside text_asked canonical i one.last c in
    record {
      last = both.last;
      added = sym (made j c n p).1 ∙ ap (effect text_asked canonical c) one.added ∙ both.added ∙ ap (λ k. plus k both.last) (made i c m o).1;
    }
change_beside i j (ByRule c) m n one o p =
    record {
      last = doit_after c one.last;
      added = sym (made_by_rule j c n p).1 ∙ ap (rule_effect c) one.added ∙ goes_along c i one.last ∙ ap (λ k. plus k (doit_after c one.last)) (made_by_rule i c m o).1;
    }

beside : (i : ImageOf Name) (script : List Line) (h : History) (e : DoItOf Name) → ruled_verdict i script ≡ Ok h → (a : AdmitsRuled i script e) →
    HasOneMore h.now.image a.history.now.image × (a.history.now.renaming ≡ h.now.renaming)
beside i script h e o a =
    let both : AreBeside ruled HasOneMore change_beside
    (λ m n c one. ap (λ k. change_renaming k c) one.added ∙ change_plus m one.last c)
    (λ m n x one. ap (λ k. changes_of k x) one.added ∙ changes_plus m one.last x) h.now a.history.now =
    verdicts-beside ruled HasOneMore change_beside
    (λ m n c one. ap (λ k. change_renaming k c) one.added ∙ change_plus m one.last c)
    (λ m n x one. ap (λ k. changes_of k x) one.added ∙ changes_plus m one.last x)
    i (plus i e) script h a.history (record { last = e; added = refl }) o a.accepted in
    (both.images, both.renamings)

pub ruled_admitted : (kernel i : ImageOf Name) → AllKeepRuns kernel → ((c : RuleCommand) → IsSpelledRule c → RuleKeepsRuns kernel c) → (script : List Line) (h : History) (e : DoItOf Name) → IsSound kernel i → AllByRecursion (Asks IsSpelledAsked) script →
    ruled_verdict i script ≡ Ok h → (a : AdmitsRuled i script e) → HasOneMore h.now.image a.history.now.image × (a.history.now.renaming ≡ h.now.renaming) × AreMatched (plus i e) a.history.now.image h.now.renaming
ruled_admitted kernel i keeps rule_keeps script h e sound spelled o a =
    let one = beside i script h e o a in
    let kept = ruled_kept kernel (plus i e) keeps rule_keeps script a.history (plus-sound kernel i e sound a.spells) spelled a.accepted in
    (one.0, one.1, subst (AreMatched (plus i e) a.history.now.image) one.1 kept.matched)
