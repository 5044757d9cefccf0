-- Scripts with rules keep what single commands and rules keep.
use Rattle.std.proofs.Common.{◌≡◌, List, [], ◌∷◌, map, Option, Some, None, Result, Ok, Err, option_map, refl, subst}
use Rattle.std.specs.List.{AllByRecursion}
use Rattle.std.specs.Option.{option_map_or}
use Rattle.rb_base.specs.Names.{text_eq}
use Rattle.token_model.specs.declared.kind.Dialect.TheVariants.{Second}
use Rattle.image_model.specs.Image.{ImageOf}
use Rattle.image_model.specs.Valid.{IsFileable}
use Rattle.run_model.specs.Values.{Name}
use Rattle.run_model.specs.Renamings.{no_renaming, composed}
use Rattle.run_model.specs.Matched.{AreMatched}
use Rattle.run_model.proofs.RenamingLemmas.{is-composite}
use Rattle.run_model.proofs.MatchedLemmas.{matched-same, matched-trans}
use Rattle.file_model.specs.Fileable.{reading_of}
use Rattle.file_rereading.specs.Rereading.{KernelFirst}
use Rattle.rename_model.specs.ClassRenamed.{canonical}
use Rattle.command_model.specs.Asked.{text_asked}
use Rattle.command_model.specs.Commands.{CommandOf}
use Rattle.command_model.specs.Conditions.{ConditionOf}
use Rattle.command_model.specs.Effects.{effect}
use Rattle.command_model.specs.Judged.{first_false}
use Rattle.command_model.specs.Renamings.{renaming_of}
use Rattle.history_model.specs.Rules.{Asks}
use Rattle.history_model.specs.History.{by_result, version_after, after_action}
use Rattle.history_model.proofs.Keeping.{action-good, verdict-good}
use Rattle.session_model.specs.OwnConditions.{first_own_false}
use Rattle.session_model.specs.Steps.{steps_of}
use Rattle.kept_runs.specs.WellSpelled.{IsWellSpelled}
use Rattle.kept_runs.specs.KeepsRuns.{IsSound, AllKeepRuns, IsKept}
use Rattle.rule_model.specs.RuleCommands.{RuleCommand, Reason, Unmet, rule_effect, first_false_of_rule}
use Rattle.rule_laws.specs.KeptRules.{IsSpelledRule, RuleKeepsRuns}
use Rattle.ruled_model.specs.RuledScripts.{Change, Plainly, ByRule, Asked, Acts, Applies, Line, Version, History, ruled, ruled_verdict, own_false, changes_of}
use Rattle.ruled_laws.specs.SpelledRequests.{IsSpelledChange, IsSpelledAsked}
use Rattle.history_laws.proofs.ScriptsKeep.{steps-spelled}

-- a command that is accepted has no condition that is false, and makes its effect
made_by : (o : Option (ConditionOf Name)) (j m : ImageOf Name) →
    by_result {A = ImageOf Name} {B = Result (ImageOf Name) Reason} (λ k. Ok k) (λ q. Err (Unmet q)) (option_map_or {U = Result (ImageOf Name) (ConditionOf Name)} (λ q. Err q) o (Ok j)) ≡ Ok m → (o ≡ None) × (j ≡ m)
made_by None j m e = let same : j ≡ m = cc in (refl, same)
made_by (Some q) j m e = let bad : ⊥ = cc in absurd bad

pub made : (i : ImageOf Name) (c : CommandOf Name) (m : ImageOf Name) → ruled.judged i (Plainly c) ≡ Ok m → (first_false text_asked i c ≡ None) × (effect text_asked canonical c i ≡ m)
made i c m e = made_by (first_false text_asked i c) (effect text_asked canonical c i) m e

ruled_by : (o : Option Reason) (j m : ImageOf Name) → option_map_or {U = Result (ImageOf Name) Reason} (λ q. Err q) o (Ok j) ≡ Ok m → (o ≡ None) × (j ≡ m)
ruled_by None j m e = let same : j ≡ m = cc in (refl, same)
ruled_by (Some q) j m e = let bad : ⊥ = cc in absurd bad

pub made_by_rule : (i : ImageOf Name) (c : RuleCommand) (m : ImageOf Name) → ruled.judged i (ByRule c) ≡ Ok m → (first_false_of_rule c i ≡ None) × (rule_effect c i ≡ m)
made_by_rule i c m e = ruled_by (first_false_of_rule c i) (rule_effect c i) m e

-- single commands as changes
plainly_spelled : (cs : List (CommandOf Name)) → AllByRecursion IsWellSpelled cs → AllByRecursion IsSpelledChange (map (λ c. Plainly c) cs)
plainly_spelled [] h = tt
plainly_spelled (c ∷ cs) h = (h.0, plainly_spelled cs h.1)

none_of : (o : Option (ConditionOf Name)) (r : Option Reason) → r ≡ option_map (λ q. Unmet q) o → r ≡ None → o ≡ None
none_of None r p e = refl
none_of (Some q) r p e = let bad : ⊥ = cc in absurd bad

pub changes_spelled : (kernel i : ImageOf Name) (x : Asked) → IsSound kernel i → IsSpelledAsked x → own_false i x ≡ None → AllByRecursion IsSpelledChange (changes_of i x)
changes_spelled kernel i (Acts x) v s e = plainly_spelled (steps_of text_eq i canonical x) (steps-spelled kernel i x v s (none_of (first_own_false text_asked i x) (own_false i (Acts x)) refl e))
changes_spelled kernel i (Applies c) v s e = (s, tt)

module _ (kernel i : ImageOf Name) (keeps : AllKeepRuns kernel) (rule_keeps : (c : RuleCommand) → IsSpelledRule c → RuleKeepsRuns kernel c) where
  change_kept : (v : Version) (c : Change) (j : ImageOf Name) → IsKept kernel i v → IsSpelledChange c → ruled.judged v.image c ≡ Ok j → IsKept kernel i (version_after ruled v c j)
  change_kept v (Plainly c) j kept spelled e =
      let done = made v.image c j e in
      let law = keeps c spelled in
      record {
        valid = subst (IsSound kernel) done.1 (law.valid v.image kept.valid done.0);
        fileable = λ may. subst (IsFileable (reading_of Second kernel)) done.1 (law.fileable v.image kept.valid (kept.fileable may) done.0);
        first = λ is. subst (KernelFirst kernel) done.1 (law.first v.image kept.valid (kept.first is) done.0);
        matched =
            matched-trans v.renaming (renaming_of v.image c) (composed v.renaming (renaming_of v.image c)) (is-composite v.renaming (renaming_of v.image c)) i v.image j kept.matched
            (subst (λ k. AreMatched v.image k (renaming_of v.image c)) done.1 (law.matched v.image kept.valid done.0));
      }
  change_kept v (ByRule c) j kept spelled e =
      let done = made_by_rule v.image c j e in
      let law = rule_keeps c spelled in
      record {
        valid = subst (IsSound kernel) done.1 (law.valid v.image kept.valid done.0);
        fileable = λ may. subst (IsFileable (reading_of Second kernel)) done.1 (law.fileable v.image kept.valid (kept.fileable may) done.0);
        first = λ is. subst (KernelFirst kernel) done.1 (law.first v.image kept.valid (kept.first is) done.0);
        matched =
            matched-trans v.renaming no_renaming (composed v.renaming no_renaming) (is-composite v.renaming no_renaming) i v.image j kept.matched
            (subst (λ k. AreMatched v.image k no_renaming) done.1 (law.matched v.image done.0));
      }

  pub action_kept : (v w : Version) (x : Asked) → IsKept kernel i v → IsSpelledAsked x → after_action ruled v x ≡ Ok w → IsKept kernel i w
  action_kept v w x kept spelled e =
      action-good ruled (IsKept kernel i) IsSpelledChange IsSpelledAsked change_kept (λ v x kept s none. changes_spelled kernel v.image x kept.valid s none)
      v x w kept spelled e

  pub ruled_kept : (script : List Line) (h : History) → IsSound kernel i → AllByRecursion (Asks IsSpelledAsked) script → ruled_verdict i script ≡ Ok h → IsKept kernel i h.now
  ruled_kept script h sound spelled e =
      verdict-good ruled (IsKept kernel i) IsSpelledChange IsSpelledAsked change_kept (λ v x kept s none. changes_spelled kernel v.image x kept.valid s none)
      i script h (record { valid = sound; fileable = λ may. may; first = λ is. is; matched = matched-same i }) spelled e
