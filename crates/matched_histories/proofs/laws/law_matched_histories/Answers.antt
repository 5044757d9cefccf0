use Rattle.std.proofs.Common.{◌≡◌, Ok, Err, [], refl, ap, ◌∙◌}
use Rattle.std.specs.Prelude.{Result}
use Rattle.token_model.specs.declared.kind.Dialect.TheVariants.{Second}
use Rattle.st_kernel.specs.KernelText.{prelude_text}
use Rattle.image_model.specs.Image.{ImageOf}
use Rattle.run_model.specs.Values.{Name}
use Rattle.file_model.specs.Reading.{IsKernelOf}
use Rattle.history_model.specs.History.{after_action, by_result, opened}
use Rattle.kept_runs.specs.KeepsRuns.{IsSound, IsKept}
use Rattle.rule_model.specs.RuleCommands.{Reason, Unmet}
use Rattle.ruled_model.specs.RuledScripts.{Asked, Version, History, ruled, as_line}
use Rattle.ruled_laws.specs.SpelledRequests.{IsSpelledAsked}
use Rattle.matched_histories.specs.MatchedHistories.{IsMatchedVersion}
use Rattle.matched_histories.proofs.Histories.{plainly-spelled, version-matched, appended-matched, line-matched}
use Rattle.matched_histories.proofs.laws.law_matched_histories.Goals as goal

pub returns : goal.returns
returns c = record {
  opened = λ first. record {
    versions = λ kernel is sound. record {
      earlier = tt;
      now = matched kernel first is sound (opened ruled first).now (c.law_scripts.ensures.kept kernel first [] (opened ruled first) is sound tt refl);
      later = tt;
    };
  };
  step = λ first h g line all spelled o. record {
    versions = λ kernel is sound. line-matched kernel first (acts kernel first is sound) h g line (all.versions kernel is sound) spelled o;
  };
  plain = λ first h g line all spelled o. record {
    versions = λ kernel is sound.
        line-matched kernel first (acts kernel first is sound) h g (as_line line) (all.versions kernel is sound) (plainly-spelled line spelled)
        (c.law_without_rules.ensures.step h line ∙ ap (by_result {B = Result History Reason} (λ g. Ok g) (λ q. Err (Unmet q))) o);
  };
  action = λ first v w x spelled o. record { matched = λ kernel is sound. acts kernel first is sound v w x spelled o };
  none = λ first v. record { matched = λ kernel is sound one. one };
  both = λ first u v w a b. record { matched = λ kernel is sound one. b.matched kernel is sound (a.matched kernel is sound one) };
  appended = λ first h w all stays. record {
    versions = λ kernel is sound. appended-matched kernel first h w (all.versions kernel is sound) (stays.matched kernel is sound (all.versions kernel is sound).now);
  };
}
  where
    matched : (kernel first : ImageOf Name) → IsKernelOf Second prelude_text kernel → IsSound kernel first → (v : Version) → IsKept kernel first v → IsMatchedVersion kernel first v
    matched kernel first is sound v kept =
        version-matched kernel first (λ script h e spelled o a. c.law_scripts.ensures.admitted kernel first script h e is sound spelled o a) v kept

    acts : (kernel first : ImageOf Name) → IsKernelOf Second prelude_text kernel → IsSound kernel first → (v w : Version) (x : Asked) → IsSpelledAsked x → after_action ruled v x ≡ Ok w →
        IsMatchedVersion kernel first v → IsMatchedVersion kernel first w
    acts kernel first is sound v w x spelled o one =
        matched kernel first is sound w (c.law_ruled_action.ensures kernel first v w x (c.law_effect.ensures kernel is) one.kept spelled o)
