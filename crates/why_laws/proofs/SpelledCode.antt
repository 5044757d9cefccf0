-- Valid images are spelled, and stay valid from change to change; so a line is refused in spelled code.
use Rattle.std.proofs.Common.{◌≡◌, List, ◌∷◌, Ok, subst}
use Rattle.std.specs.Prelude.{false}
use Rattle.std.specs.List.{AllByRecursion}
use Rattle.token_model.specs.declared.kind.Dialect.TheVariants.{Second}
use Rattle.st_kernel.specs.KernelText.{prelude_text}
use Rattle.image_model.specs.Image.{EntryOf, ImageOf}
use Rattle.image_model.specs.Valid.{IsUserMethod, IsUserDoIt}
use Rattle.run_model.specs.Values.{Name}
use Rattle.file_model.specs.Fileable.{reading_of}
use Rattle.file_model.specs.Reading.{IsKernelOf}
use Rattle.history_model.specs.Rules.{Asks}
use Rattle.history_model.specs.Verdicts.{IsRefusedAt}
use Rattle.command_model.proofs.Lists.{in-both}
use Rattle.kept_runs.specs.KeepsRuns.{IsSound, AllKeepRuns, IsKept}
use Rattle.rule_model.specs.RuleCommands.{RuleCommand}
use Rattle.rule_laws.specs.KeptRules.{IsSpelledRule, RuleKeepsRuns}
use Rattle.ruled_model.specs.RuledScripts.{Change, Plainly, ByRule, Line, History, Refusal, ruled, change_judged, ruled_verdict}
use Rattle.ruled_laws.specs.SpelledRequests.{IsSpelledChange as IsWellSpelledChange, IsSpelledAsked}
use Rattle.ruled_laws.proofs.RuledKept.{made, made_by_rule, changes_spelled}
use Rattle.refusal_witnesses.specs.Spelled.{IsSpelledMethod, IsSpelledDoIt, IsSpelledImage}
use Rattle.refusal_witnesses.proofs.Alls.{all-weaker}
use Rattle.why_model.specs.Refusals.{line_refused}
use Rattle.why_model.specs.Spelled.{IsSpelledChange, IsSpelledJudging}
use Rattle.why_model.proofs.JudgingSpelled.{judging-spelled}

-- a valid image is spelled
sound-spelled : (kernel i : ImageOf Name) → IsSound kernel i → IsSpelledImage i
sound-spelled kernel i sound = record {
  methods = all-weaker (λ (m : EntryOf Name). m.kernel ≡ false → IsUserMethod (reading_of Second kernel) m) IsSpelledMethod (λ m h users. (h users).spells) i.methods sound.user_methods;
  doits = all-weaker (IsUserDoIt (reading_of Second kernel)) IsSpelledDoIt (λ d h. h.spells) i.doits sound.doits;
}

-- so is a change that is well spelled
fit-spelled : (c : Change) → IsWellSpelledChange c → IsSpelledChange c
fit-spelled (Plainly c) fit = fit.0
fit-spelled (ByRule c) fit = tt

module _ (kernel : ImageOf Name) (is_kernel : IsKernelOf Second prelude_text kernel) (keeps : AllKeepRuns kernel) (rule_keeps : (c : RuleCommand) → IsSpelledRule c → RuleKeepsRuns kernel c)
    (scripts : (i : ImageOf Name) (script : List Line) (h : History) → IsSound kernel i → AllByRecursion (Asks IsSpelledAsked) script → ruled_verdict i script ≡ Ok h → IsKept kernel i h.now) where
  kept : (i j : ImageOf Name) (c : Change) → IsSound kernel i → IsWellSpelledChange c → change_judged i c ≡ Ok j → IsSound kernel j
  kept i j (Plainly c) sound fit e = let done = made i c j e in subst (IsSound kernel) done.1 ((keeps c fit).valid i sound done.0)
  kept i j (ByRule c) sound fit e = let done = made_by_rule i c j e in subst (IsSound kernel) done.1 ((rule_keeps c fit).valid i sound done.0)

  pub refused-spelled : (i : ImageOf Name) (script : List Line) (refusal : Refusal) (r : IsRefusedAt ruled i script refusal) → IsSound kernel i → AllByRecursion (Asks IsSpelledAsked) script → IsSpelledJudging (line_refused r.history.now.image r.line)
  refused-spelled i script refusal r sound spelled =
      let both = in-both (Asks IsSpelledAsked) r.before (r.line ∷ r.after) (subst (AllByRecursion (Asks IsSpelledAsked)) r.parts spelled) in
      let now : IsSound kernel r.history.now.image = (scripts i r.before r.history sound both.0 r.accepted).valid in
      judging-spelled (IsSound kernel) IsWellSpelledChange (sound-spelled kernel) fit-spelled kept r.history.now.image r.line now
      (λ x is none. changes_spelled kernel r.history.now.image x now (subst (Asks IsSpelledAsked) is both.1.0) none)
