use Rattle.std.proofs.Common.{◌≡◌, ◌∷◌, take}
use Rattle.derivations.proofs.steps.path_below.Given as goal

abbrev pub invariant-loop-step : goal.invariant-loop-step
invariant-loop-step l = l.below ≡ 0 ∷ take l.step-index l.step-items
