use Rattle.std.proofs.Common.{◌≡◌, Ok}
use Rattle.std.specs.Prelude.{List}
use Rattle.std.specs.List.{AllByRecursion}
use Rattle.token_model.specs.declared.kind.Dialect.TheVariants.{Second}
use Rattle.st_kernel.specs.KernelText.{prelude_text}
use Rattle.image_model.specs.Image.{ImageOf}
use Rattle.run_model.specs.Values.{Name}
use Rattle.file_model.specs.Reading.{IsKernelOf}
use Rattle.history_model.specs.Rules.{Asks}
use Rattle.kept_runs.specs.KeepsRuns.{IsSound}
use Rattle.ruled_model.specs.RuledScripts.{Line, History, ruled_verdict}
use Rattle.ruled_laws.specs.SpelledRequests.{IsSpelledAsked}
use Rattle.way_back_laws.specs.WayBack.{HasWayBack}
use Rattle.way_back_laws.proofs.WaysBack.{script-back}
use Rattle.way_back_laws.proofs.laws.law_scripts_back.Goals as goal

pub returns : goal.returns
returns k = record {
  kept = back;
  files = λ text i script h is spelled e. back is.kernel i script h is.is_kernel (k.every_image_is_valid.ensures.valid Second text is.kernel i is.is_kernel is) spelled e;
}
  where
    back : (kernel i : ImageOf Name) (script : List Line) (h : History) → IsKernelOf Second prelude_text kernel → IsSound kernel i → AllByRecursion (Asks IsSpelledAsked) script → ruled_verdict i script ≡ Ok h → HasWayBack i h.now.image
    back kernel i script h is sound spelled e =
        script-back kernel i (k.law_effect.ensures kernel is) (k.law_rule_keeps_runs.ensures kernel) (λ v c valid none. k.law_commands_back.ensures.takes_back Second kernel v c is valid none)
        (λ v j r q takes m. k.law_matched_back.ensures.matched v j r q takes m) (λ a b c r q m n. k.law_matched_back.ensures.composed a b c r q m n) script h sound spelled e
