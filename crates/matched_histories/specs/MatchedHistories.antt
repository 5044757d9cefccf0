-- Histories whose versions are matched with the image with which they began.
use Rattle.std.specs.Prelude.{◌≡◌, List, Ok}
use Rattle.std.specs.List.{AllByRecursion}
use Rattle.token_model.specs.declared.kind.Dialect.TheVariants.{Second}
use Rattle.st_kernel.specs.KernelText.{prelude_text}
use Rattle.image_model.specs.Image.{DoItOf, ImageOf, plus}
use Rattle.run_model.specs.Values.{Name}
use Rattle.run_model.specs.Matched.{AreMatched}
use Rattle.file_model.specs.Reading.{IsKernelOf}
use Rattle.command_model.specs.Beside.{HasOneMore}
use Rattle.history_model.specs.Rules.{Asks}
use Rattle.kept_runs.specs.KeepsRuns.{IsSound, IsKept}
use Rattle.ruled_model.specs.RuledScripts.{Line, Version, History, ruled_verdict, AdmitsRuled}
use Rattle.ruled_laws.specs.SpelledRequests.{IsSpelledAsked}

-- The version is valid, and its image is matched with the first one up to its renaming. So it is with each start expression that a script admits which leads from the first image to the version: its image is then that of the version with one more do-it, and matched with the first one with the expression, up to the same renaming.
pub record IsMatchedVersion (kernel first : ImageOf Name) (v : Version) : Type 0 where
  pub kept : IsKept kernel first v
  pub expressions : (script : List Line) (h : History) (e : DoItOf Name) → AllByRecursion (Asks IsSpelledAsked) script → ruled_verdict first script ≡ Ok h → h.now ≡ v → (a : AdmitsRuled first script e) →
      HasOneMore v.image a.history.now.image × (a.history.now.renaming ≡ v.renaming) × AreMatched (plus first e) a.history.now.image v.renaming

-- each version of the history is: those before the present one, it, and those that redo would bring back
pub record AreMatchedVersions (kernel first : ImageOf Name) (h : History) : Type 0 where
  pub earlier : AllByRecursion (IsMatchedVersion kernel first) h.earlier
  pub now : IsMatchedVersion kernel first h.now
  pub later : AllByRecursion (IsMatchedVersion kernel first) h.later

-- If the first image is valid over the kernel, each version of the history is matched with it.
pub record IsMatchedHistory (first : ImageOf Name) (h : History) : Type 0 where
  pub versions : (kernel : ImageOf Name) → IsKernelOf Second prelude_text kernel → IsSound kernel first → AreMatchedVersions kernel first h

-- If the first image is valid over the kernel, the second version is matched with it if the first version is.
pub record StaysMatched (first : ImageOf Name) (v w : Version) : Type 0 where
  pub matched : (kernel : ImageOf Name) → IsKernelOf Second prelude_text kernel → IsSound kernel first → IsMatchedVersion kernel first v → IsMatchedVersion kernel first w
