-- What is said of a certificate and a rule.
use Rattle.std.specs.Prelude.{ℕ, Option, None, Some}
use Rattle.derivations.specs.declared.steps.Derivation.{Derivation}
use Rattle.derivations.specs.declared.steps.Derivation.TheVariants as derivation

-- the step at which a certificate is stuck; none where it derives the rule
abbrev pub stuck_step : Derivation → Option ℕ
stuck_step derivation.Yes = None
stuck_step (derivation.Stuck n) = Some n
