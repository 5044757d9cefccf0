-- Versions of a history with a way back.
use Rattle.std.proofs.Common.{◌≡◌, None, Ok, refl, subst}
use Rattle.std.specs.Prelude.{List}
use Rattle.std.specs.List.{AllByRecursion}
use Rattle.image_model.specs.Image.{ImageOf}
use Rattle.run_model.specs.Values.{Name}
use Rattle.run_model.specs.Renamings.{Renaming, no_renaming, composed}
use Rattle.run_model.specs.Matched.{AreMatched}
use Rattle.run_model.proofs.MatchedLemmas.{matched-same}
use Rattle.mapped_model.specs.NamesOfImages.{names_in}
use Rattle.command_model.specs.Asked.{text_asked}
use Rattle.command_model.specs.Commands.{CommandOf}
use Rattle.command_model.specs.Judged.{first_false}
use Rattle.command_model.specs.Renamings.{renaming_of}
use Rattle.history_model.specs.Rules.{Asks}
use Rattle.history_model.specs.History.{version_after}
use Rattle.history_model.proofs.Keeping.{verdict-good}
use Rattle.kept_runs.specs.KeepsRuns.{IsSound, AllKeepRuns}
use Rattle.rule_model.specs.RuleCommands.{RuleCommand}
use Rattle.rule_laws.specs.KeptRules.{IsSpelledRule, RuleKeepsRuns}
use Rattle.ruled_model.specs.RuledScripts.{Change, Plainly, ByRule, Line, Version, History, ruled, ruled_verdict}
use Rattle.ruled_laws.specs.SpelledRequests.{IsSpelledChange, IsSpelledAsked}
use Rattle.ruled_laws.proofs.RuledKept.{made, made_by_rule, changes_spelled}
use Rattle.inverse_laws.specs.Inverse.{inverse, TakesBack}
use Rattle.way_back_laws.specs.WayBack.{HasWayBack}

-- where nothing is renamed, nothing is to be renamed back
none-back : (v : ImageOf Name) → TakesBack (names_in v) no_renaming no_renaming
none-back v = record { classes = λ c among. refl; selectors = λ s among. refl }

module _ (kernel i : ImageOf Name) (keeps : AllKeepRuns kernel) (rule_keeps : (c : RuleCommand) → IsSpelledRule c → RuleKeepsRuns kernel c)
    (takes_back : (v : ImageOf Name) (c : CommandOf Name) → IsSound kernel v → first_false text_asked v c ≡ None → TakesBack (names_in v) (renaming_of v c) (inverse (renaming_of v c)))
    (turns : (v j : ImageOf Name) (r q : Renaming) → TakesBack (names_in v) r q → AreMatched v j r → AreMatched j v q)
    (joins : (a b c : ImageOf Name) (r q : Renaming) → AreMatched b a r → AreMatched c b q → AreMatched c a (composed q r)) where
  -- the version is valid, and has a way back
  record IsBack (v : Version) : Type 0 where
    valid : IsSound kernel v.image
    way : HasWayBack i v.image

  change-back : (v : Version) (c : Change) (j : ImageOf Name) → IsBack v → IsSpelledChange c → ruled.judged v.image c ≡ Ok j → IsBack (version_after ruled v c j)
  change-back v (Plainly c) j kept spelled e =
      let done = made v.image c j e in
      let law = keeps c spelled in
      let step : AreMatched v.image j (renaming_of v.image c) = subst (λ k. AreMatched v.image k (renaming_of v.image c)) done.1 (law.matched v.image kept.valid done.0) in
      record {
        valid = subst (IsSound kernel) done.1 (law.valid v.image kept.valid done.0);
        way = record {
          back = composed (inverse (renaming_of v.image c)) kept.way.back;
          matched =
              joins i v.image j kept.way.back (inverse (renaming_of v.image c)) kept.way.matched
              (turns v.image j (renaming_of v.image c) (inverse (renaming_of v.image c)) (takes_back v.image c kept.valid done.0) step);
        };
      }
  change-back v (ByRule c) j kept spelled e =
      let done = made_by_rule v.image c j e in
      let law = rule_keeps c spelled in
      let step : AreMatched v.image j no_renaming = subst (λ k. AreMatched v.image k no_renaming) done.1 (law.matched v.image done.0) in
      record {
        valid = subst (IsSound kernel) done.1 (law.valid v.image kept.valid done.0);
        way = record {
          back = composed no_renaming kept.way.back;
          matched = joins i v.image j kept.way.back no_renaming kept.way.matched (turns v.image j no_renaming no_renaming (none-back v.image) step);
        };
      }

  script-good : (script : List Line) (h : History) → IsSound kernel i → AllByRecursion (Asks IsSpelledAsked) script → ruled_verdict i script ≡ Ok h → IsBack h.now
  script-good script h sound spelled e =
      verdict-good ruled IsBack IsSpelledChange IsSpelledAsked change-back (λ v x kept s none. changes_spelled kernel v.image x kept.valid s none)
      i script h (record { valid = sound; way = record { back = no_renaming; matched = matched-same i } }) spelled e

  pub script-back : (script : List Line) (h : History) → IsSound kernel i → AllByRecursion (Asks IsSpelledAsked) script → ruled_verdict i script ≡ Ok h → HasWayBack i h.now.image
  script-back script h sound spelled e = (script-good script h sound spelled e).way
