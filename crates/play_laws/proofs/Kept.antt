-- What the answers of `team` promise.
use Rattle.std.proofs.Common.{◌≡◌, List, map, Ok, subst}
use Rattle.std.specs.List.{AllByRecursion}
use Rattle.token_model.specs.declared.kind.Dialect.TheVariants.{Second}
use Rattle.st_kernel.specs.KernelText.{prelude_text}
use Rattle.image_model.specs.Image.{ImageOf}
use Rattle.image_model.specs.Valid.{IsValid}
use Rattle.image_model.specs.Words.{text_words}
use Rattle.run_model.specs.Matched.{AreMatched}
use Rattle.file_model.specs.Causes.{Refusal as ImageRefusal}
use Rattle.file_model.specs.Fileable.{reading_of}
use Rattle.file_model.specs.Reading.{IsImageOf}
use Rattle.file_model.specs.Written.{file_of}
use Rattle.file_rereading.specs.Rereading.{IsWithinLimits, with_heads}
use Rattle.history_model.specs.Rules.{Asks, Perform}
use Rattle.rewrite_model.specs.Saying.{SaysRule}
use Rattle.rule_model.specs.RuleCommands.{RuleCommand}
use Rattle.rule_laws.specs.KeptRules.{IsSpelledRule}
use Rattle.ruled_model.specs.RuledScripts.{Line, Version, History, ruled_verdict}
use Rattle.ruled_laws.specs.SpelledRequests.{IsSpelledAsked}
use Rattle.team_laws.proofs.Moving.{led-movers}
use Rattle.script_model.specs.Makers.{Text}
use Rattle.log_model.specs.Events.{Event, LogSays}
use Rattle.apply_model.specs.declared.status.Status.{Status}
use Rattle.apply_model.specs.declared.status.Status.TheVariants as status
use Rattle.play_model.specs.Replies.{team_rules, opening}
use Rattle.play_model.specs.Played.{PlaysIn, NoLog, Played, Plays, NoImage, InImage}
use Rattle.play_laws.specs.Promised.{IsScripted, version_at_end, IsPlayedFile}
use Rattle.play_laws.proofs.Scripted.{end-made, asks-all, script-made}
use Rattle.play_laws.proofs.Spelled.{log-spelled}

module _ (text : Text) (said-rule : (first second : Text) (c : RuleCommand) → SaysRule first second c.rule → IsSpelledRule c)
    (matched : (i : ImageOf Text) (requests : List Line) (h : History) → IsImageOf Second prelude_text text i → AllByRecursion (Asks IsSpelledAsked) requests →
    ruled_verdict i requests ≡ Ok h → AreMatched i h.now.image h.now.renaming)
    (valid : (i : ImageOf Text) (requests : List Line) (h : History) → (is : IsImageOf Second prelude_text text i) → AllByRecursion (Asks IsSpelledAsked) requests →
    ruled_verdict i requests ≡ Ok h → IsValid text_words (reading_of Second is.kernel) h.now.image)
    (again : (i : ImageOf Text) (requests : List Line) (h : History) → IsImageOf Second prelude_text text i → AllByRecursion (Asks IsSpelledAsked) requests →
    ruled_verdict i requests ≡ Ok h → IsWithinLimits h.now.image → IsImageOf Second prelude_text (file_of h.now.image) (with_heads h.now.image))
    (matched_again : (i : ImageOf Text) (requests : List Line) (h : History) → IsImageOf Second prelude_text text i → AllByRecursion (Asks IsSpelledAsked) requests →
    ruled_verdict i requests ≡ Ok h → AreMatched i (with_heads h.now.image) h.now.renaming) where
  -- the script that makes the version at the end of a log
  scripted : (i : ImageOf Text) (log : Text) (es : List Event) → LogSays log es → IsScripted i (version_at_end i es)
  scripted i log es says =
      let made = end-made IsSpelledAsked i es (log-spelled said-rule log es says) in
      let script = script-made IsSpelledAsked i (version_at_end i es) made in
      record { script = map Perform made.0; spelled = asks-all IsSpelledAsked made.0 made.1; history = script.0; accepted = script.1; same = script.2 }

  played-in : (log : Text) (i : ImageOf Text) (s : Status) (sent : Text) → IsImageOf Second prelude_text text i → PlaysIn i log s sent → s ≡ status.Done → IsPlayedFile text log sent
  played-in log i s sent is (NoLog n cause refused a b) e = absurd (cc)
  played-in log i s sent is (Played es says a b) e =
      let by : IsScripted i (version_at_end i es) = scripted i log es says in
      record {
        image = i;
        is_image = is;
        events = es;
        says = says;
        file = b;
        history = led-movers team_rules (opening i) es;
        scripted = by;
        valid = subst (λ (v : Version). IsValid text_words (reading_of Second is.kernel) v.image) by.same (valid i by.script by.history is by.spelled by.accepted);
        matched = subst (λ (v : Version). AreMatched i v.image v.renaming) by.same (matched i by.script by.history is by.spelled by.accepted);
        read_again = subst (λ (v : Version). IsWithinLimits v.image → IsImageOf Second prelude_text (file_of v.image) (with_heads v.image)) by.same (again i by.script by.history is by.spelled by.accepted);
        matched_again = subst (λ (v : Version). AreMatched i (with_heads v.image) v.renaming) by.same (matched_again i by.script by.history is by.spelled by.accepted);
      }

  pub played-file : (image_line : ImageRefusal → Text) (log : Text) (s : Status) (sent : Text) → Plays image_line text log s sent → s ≡ status.Done → IsPlayedFile text log sent
  played-file image_line log s sent (NoImage r refused a b) e = absurd (cc)
  played-file image_line log s sent (InImage i is a) e = played-in log i s sent is a e
